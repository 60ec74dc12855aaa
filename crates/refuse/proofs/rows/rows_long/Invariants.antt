-- The invariant: no row before has too many.
use lib.ListN.{length}
use Rattle.definition.specs.Refusal.{row_long}
use Rattle.definition.specs.Of.{input_model}
use Rattle.refuse.specs.Laws.{Passed}
use Rattle.refuse.proofs.rows.rows_long.Given as goal

abbrev pub invariant-loop-r : goal.invariant-loop-r
invariant-loop-r l = Passed (row_long (input_model l.input)) (length l.input.rows.rhs.now) l.r
