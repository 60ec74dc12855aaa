-- The lines so far are written.
use Rattle.std.proofs.Common.{length}
use Rattle.print_result.specs.Text.{from_to, term_at}
use Rattle.print_result.proofs.rows.put_terms.Given as goal

abbrev pub invariant-loop-v : goal.invariant-loop-v
invariant-loop-v g l = g.S.Sink.wrote l.initial.out (from_to (term_at l.vars l.coeffs) 0 (length l.yielded)) l.out
