-- `first_missed` ends at the first value that is to be whole and is not.
use Rattle.std.proofs.Common.{arith, refl}
use Rattle.definition.specs.Of.{input_model}
use Rattle.plan.specs.Loops.{start, turn, found, end, not_whole_said, whole_said}
use Rattle.plan.proofs.wholes.first_missed.Goals as goal

pub loop-v-init : goal.loop-v-init
loop-v-init c = start _ _

pub returns-then-not_whole : goal.returns-then-not_whole
returns-then-not_whole c = found c.loop-v.invariant c.loop-v-test.true (not_whole_said (input_model c.args.input) c.args.plan.now c.loop-v.v c.not_whole.ensures c.if-not_whole.true) refl

pub loop-v-preserved : goal.loop-v-preserved
loop-v-preserved c = turn c.loop-v.invariant c.loop-v-test.true (whole_said (input_model c.args.input) c.args.plan.now c.loop-v.v c.not_whole.ensures c.if-not_whole.false) refl

pub returns : goal.returns
returns c = end c.loop-v.invariant (omega arith)
