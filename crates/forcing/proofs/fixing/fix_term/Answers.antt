-- `fix_term` is fix, of a term's variable at the corner of its bounds.
use Rattle.forcing.specs.Fixing.{fix_corner}
use Rattle.forcing.proofs.fixing.fix_term.Goals as goal

pub returns : goal.returns
returns c = fix_corner _ _ _ c.get-lo.ensures c.get-hi.ensures
    c.corner-x.ensures c.fix.ensures.acts
