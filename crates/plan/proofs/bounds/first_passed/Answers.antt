-- `first_passed` ends at the first variable that passes a bound.
use Rattle.std.proofs.Common.{arith, sym, ◌∙◌}
use Rattle.plan.specs.Loops.{start, turn, found, end}
use Rattle.plan.proofs.bounds.first_passed.Goals as goal

pub loop-v-init : goal.loop-v-init
loop-v-init c = start _ _

pub returns-then-is_some : goal.returns-then-is_some
returns-then-is_some c = found c.loop-v.invariant c.loop-v-test.true c.bound_passed-passed.ensures (sym c.is_some.ensures ∙ c.if-is_some.true)

pub loop-v-preserved : goal.loop-v-preserved
loop-v-preserved c = turn c.loop-v.invariant c.loop-v-test.true c.bound_passed-passed.ensures (sym c.is_some.ensures ∙ c.if-is_some.false)

pub returns : goal.returns
returns c = end c.loop-v.invariant (omega arith)
