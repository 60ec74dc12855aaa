-- `bound_tol`, by which bound is asked for.
use Rattle.readers.specs.Vars.{tol_upper, tol_lower}
use Rattle.readers.proofs.vars.bound_tol.Goals as goal

pub returns-then-upper : goal.returns-then-upper
returns-then-upper c = tol_upper _ c.if-upper.true c.get.ensures c.bound_tolerance.ensures

pub returns-else-upper : goal.returns-else-upper
returns-else-upper c = tol_lower _ c.if-upper.false c.get-else-upper.ensures c.bound_tolerance-else-upper.ensures
