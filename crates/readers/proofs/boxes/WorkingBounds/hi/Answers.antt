-- `hi` of `Working` reads the box's bound.
use Rattle.readers.specs.Activity.{working_hi}
use Rattle.readers.proofs.boxes.WorkingBounds.hi.Goals as goal

pub returns : goal.returns
returns c = working_hi _ c.get.ensures
