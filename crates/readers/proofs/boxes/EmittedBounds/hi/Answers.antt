-- `hi` of `Emitted` reads the box's bound.
use Rattle.readers.specs.Activity.{emitted_hi}
use Rattle.readers.proofs.boxes.EmittedBounds.hi.Goals as goal

pub returns : goal.returns
returns c = emitted_hi _ c.get.ensures
