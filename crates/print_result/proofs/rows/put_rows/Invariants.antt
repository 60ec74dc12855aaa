-- The lines so far are written.
use Rattle.print_result.specs.Text.{from_to, row_at}
use Rattle.print_result.proofs.rows.put_rows.Given as goal

abbrev pub invariant-loop-i : goal.invariant-loop-i
invariant-loop-i g l = g.S.Sink.wrote l.initial.out
    (from_to (row_at l.rows.row.now l.rows.rewritten.now l.rows.rhs.now l.rows.from.now l.rows.upto.now l.terms.index.now l.terms.coeff.now) 0 l.i) l.out
