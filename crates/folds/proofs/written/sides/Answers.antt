-- `sides`, by the comparison.
use Rattle.folds.specs.Written.{sides_in}
use Rattle.folds.proofs.written.sides.Goals as goal

pub returns-in-Equal : goal.returns-in-Equal
returns-in-Equal c = sides_in _ _ c.from.ensures c.in-Equal.is

pub returns-in-AtMost : goal.returns-in-AtMost
returns-in-AtMost c = sides_in _ _ c.from.ensures c.in-AtMost.is

pub returns-in-AtLeast : goal.returns-in-AtLeast
returns-in-AtLeast c = sides_in _ _ c.from.ensures c.in-AtLeast.is
