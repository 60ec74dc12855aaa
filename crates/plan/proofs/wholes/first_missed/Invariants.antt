-- The invariant: no variable before has a value that is to be whole and is not.
use lib.ListN.{length}
use Rattle.definition.specs.Of.{input_model}
use Rattle.plan.specs.Plan.{whole_missed}
use Rattle.plan.specs.Loops.{Passed}
use Rattle.plan.proofs.wholes.first_missed.Given as goal

abbrev pub invariant-loop-v : goal.invariant-loop-v
invariant-loop-v l = Passed (whole_missed (input_model l.input) l.plan) (length l.input.lower.now) l.v
