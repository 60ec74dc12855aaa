-- The lines so far are written.
use Rattle.print_result.specs.Text.{from_to, validate_at}
use Rattle.print_result.proofs.lines.put_kept.Given as goal

abbrev pub invariant-loop-r : goal.invariant-loop-r
invariant-loop-r g l = g.S.Sink.wrote l.initial.out (from_to (validate_at l.kept) 0 l.r-index) l.out
