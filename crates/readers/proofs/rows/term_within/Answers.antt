-- `term_within` is the definition's step, by the size of the bounds.
use Rattle.readers.specs.Vars.{usual_lower, usual_upper}
use Rattle.readers.specs.Activity.{within_step}
use Rattle.readers.proofs.rows.term_within.Goals as goal

pub returns-then-usual_bounds : goal.returns-then-usual_bounds
returns-then-usual_bounds c = within_step _ _ _ _ _ c.requires.2 c.requires.3 (usual_lower _ c.usual_bounds.ensures c.if-usual_bounds.true)
    (usual_upper _ c.usual_bounds.ensures c.if-usual_bounds.true) c.activity_step.ensures

pub returns : goal.returns
returns c = within_step _ _ _ _ _ c.requires.2 c.requires.3 c.bound_tol.ensures
    c.bound_tol-2.ensures c.activity_step-2.ensures
