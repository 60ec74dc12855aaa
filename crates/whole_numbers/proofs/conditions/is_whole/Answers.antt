-- A finite float is whole where it equals its floor.
use mathlib.Core.Path.{sym, ap, subst, ◌∙◌}
use lib.Dec.{T}
use lib.Ieee.{Float, eq}
use Rattle.whole_numbers.specs.Floats.{finite_whole, infinite_whole}
use Rattle.whole_numbers.proofs.conditions.is_whole.Goals as goal

pub returns-then-is_finite : goal.returns-then-is_finite
returns-then-is_finite c = ap (λ (y : Float). eq y c.args.x) c.floor.ensures ∙ finite_whole c.args.x (subst T (sym c.well_formed.0.1) tt)
    (sym c.is_finite.ensures ∙ c.if-is_finite.true)

pub returns-else-is_finite : goal.returns-else-is_finite
returns-else-is_finite c = c.if-is_finite.false ∙ infinite_whole _ (sym c.is_finite.ensures ∙ c.if-is_finite.false)
