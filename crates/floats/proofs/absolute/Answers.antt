-- `absolute` clears the sign: a number above zero has none, any other is taken from zero.
use mathlib.Core.Path.{sym, subst}
use lib.Dec.{T}
use Rattle.floats.proofs.Facts.{abs_above, abs_below}
use Rattle.floats.proofs.absolute.Goals as goal

pub returns-then-x : goal.returns-then-x
returns-then-x c = search abs_above

pub returns-else-x : goal.returns-else-x
returns-else-x c = abs_below c.args.x (subst T (sym c.well_formed.0.1) tt) c.if-x.false
