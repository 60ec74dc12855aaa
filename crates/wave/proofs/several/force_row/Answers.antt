-- `force_row`: each variable at its corner, and the row dropped.
use Rattle.wave.specs.Several.{force_acts}
use Rattle.wave.proofs.several.force_row.Goals as goal

pub returns : goal.returns
returns c = force_acts _ _ c.fix_all.ensures c.drop_row.ensures
