-- From 0 on, and up to 0.01.
use mathlib.Core.Path.{sym, subst, ◌∙◌}
use lib.Dec.{T}
use Rattle.whole_numbers.specs.Branches.{tolerance_next, below_zero}
use Rattle.whole_numbers.proofs.conditions.is_tolerable.Goals as goal

pub returns-then-x : goal.returns-then-x
returns-then-x c = tolerance_next _ (subst T (sym c.well_formed.0.1) tt) c.if-x.true

pub returns-else-x : goal.returns-else-x
returns-else-x c = c.if-x.false ∙ below_zero _ (subst T (sym c.well_formed.0.1) tt) c.if-x.false
