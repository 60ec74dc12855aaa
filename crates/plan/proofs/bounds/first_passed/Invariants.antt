-- The invariant: no variable before passes a bound.
use lib.ListN.{length}
use Rattle.definition.specs.Of.{input_model}
use Rattle.plan.specs.Plan.{bound_passed}
use Rattle.plan.specs.Loops.{Passed}
use Rattle.plan.proofs.bounds.first_passed.Given as goal

abbrev pub invariant-loop-v : goal.invariant-loop-v
invariant-loop-v l = Passed (bound_passed (input_model l.input) l.plan) (length l.input.lower.now) l.v
