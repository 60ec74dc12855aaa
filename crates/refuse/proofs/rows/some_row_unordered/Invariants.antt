-- The invariant: no row before has them out of order.
use lib.ListN.{length}
use Rattle.definition.specs.Refusal.{row_unordered}
use Rattle.definition.specs.Of.{input_model}
use Rattle.refuse.specs.Laws.{Passed}
use Rattle.refuse.proofs.rows.some_row_unordered.Given as goal

abbrev pub invariant-loop-r : goal.invariant-loop-r
invariant-loop-r l = Passed (row_unordered (input_model l.input)) (length l.input.rows.rhs.now) l.r
