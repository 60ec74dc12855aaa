-- The bytes so far are written.
use Rattle.std.proofs.Common.{take}
use Rattle.print_result.proofs.put.put_text.Given as goal

abbrev pub invariant-loop-byte : goal.invariant-loop-byte
invariant-loop-byte g l = g.S.Sink.wrote l.initial.out (take l.byte-index l.text) l.out
