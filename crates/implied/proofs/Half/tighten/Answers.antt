-- `Half::tighten`, by the rest of the row.
use Rattle.implied.specs.Sides.{half_none, half_some, rest_tightens}
use Rattle.implied.proofs.Half.tighten.Goals as goal

pub returns-in-Some : goal.returns-in-Some
returns-in-Some c = half_some _ _ _ _ _ _ c.rest.ensures c.in-Some.is
    (rest_tightens _ _ _ _ _ _ _ _ c.quotient-q.ensures c.requires.limits.0 c.requires.limits.1 c.relaxation-relax.ensures c.bounds_above-above.ensures
    c.tighten.ensures)

pub returns-in-None : goal.returns-in-None
returns-in-None c = half_none _ _ _ _ _ _ c.rest.ensures c.in-None.is
