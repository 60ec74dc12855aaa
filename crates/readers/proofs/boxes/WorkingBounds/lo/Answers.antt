-- `lo` of `Working` reads the box's bound.
use Rattle.readers.specs.Activity.{working_lo}
use Rattle.readers.proofs.boxes.WorkingBounds.lo.Goals as goal

pub returns : goal.returns
returns c = working_lo _ c.get.ensures
