-- `activity_term`: the box's two bounds are the definition's.
use Rattle.readers.specs.Activity.{in_box}
use Rattle.readers.proofs.rows.activity_term.Goals as goal

pub returns : goal.returns
returns g c = in_box _ _ _ _ _ _ c.lo.ensures c.hi.ensures c.term_within.ensures
