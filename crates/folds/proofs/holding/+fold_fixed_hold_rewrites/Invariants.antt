-- `fold_fixed` and `hold_rewrites`, which call each other: the number that falls is 2 while the row has a binding, else 0, plus 1 in `fold_fixed`.
use Rattle.std.proofs.Common.{◌+◌, get_or}
use Rattle.space.specs.Store.{numbers_of}
use Rattle.folds.specs.Holding.{weight}
use Rattle.folds.proofs.holding.+fold_fixed_hold_rewrites.Given as goal

abbrev pub decreases-fold_fixed : goal.decreases-fold_fixed
decreases-fold_fixed l = weight (get_or (numbers_of l.cx l.numbers.now).binaries l.r 0) + 1

abbrev pub decreases-hold_rewrites : goal.decreases-hold_rewrites
decreases-hold_rewrites l = weight (get_or (numbers_of l.cx l.numbers.now).binaries l.r 0)
