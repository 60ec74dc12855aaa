-- The invariant: the rows before are walked.
use Rattle.definition.specs.Of.{input_model}
use Rattle.plan.specs.Loops.{Walked}
use Rattle.plan.proofs.rows.missed.Given as goal

abbrev pub invariant-loop-r : goal.invariant-loop-r
invariant-loop-r l = Walked (input_model l.input) l.plan l.missed l.r
