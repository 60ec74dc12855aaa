-- `is_trivial` is trivial.
use Rattle.readers.specs.Trivial.{trivial_tells}
use Rattle.readers.proofs.empty.is_trivial.Goals as goal

pub returns : goal.returns
returns c = search trivial_tells
