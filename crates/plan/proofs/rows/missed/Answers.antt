-- `missed`: one row more.
use Rattle.std.proofs.Common.{arith}
use Rattle.plan.specs.Loops.{begun, walked, all_walked}
use Rattle.plan.proofs.rows.missed.Goals as goal

pub loop-r-init : goal.loop-r-init
loop-r-init c = begun _ _

pub loop-r-preserved : goal.loop-r-preserved
loop-r-preserved c = walked c.loop-r.invariant c.violation.ensures c.with-missed.ensures

pub returns-clause-first : goal.returns-clause-first
returns-clause-first c = (all_walked c.loop-r.invariant (omega arith)).first

pub returns-clause-largest : goal.returns-clause-largest
returns-clause-largest c = (all_walked c.loop-r.invariant (omega arith)).largest
