-- `suedeonyx_check_plan`: what is said of the plan, as a code and its place, or a refusal's number.
use Rattle.presolve_c.specs.PlanCodes.{refused_told, checked_told}
use Rattle.presolve_c.proofs.suedeonyx_check_plan.Goals as goal

pub returns-in-Err : goal.returns-in-Err
returns-in-Err c = refused_told c.check_plan.ensures c.in-Err.is c.from.ensures

pub returns-in-Ok : goal.returns-in-Ok
returns-in-Ok c = checked_told c.check_plan.ensures c.in-Ok.is c.code.ensures c.place.ensures
