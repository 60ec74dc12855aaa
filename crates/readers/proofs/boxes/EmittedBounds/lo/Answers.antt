-- `lo` of `Emitted` reads the box's bound.
use Rattle.readers.specs.Activity.{emitted_lo}
use Rattle.readers.proofs.boxes.EmittedBounds.lo.Goals as goal

pub returns : goal.returns
returns c = emitted_lo _ c.get.ensures
