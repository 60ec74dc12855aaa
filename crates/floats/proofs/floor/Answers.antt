-- `floor` computes its definition: the steps do, by ToWhole.
use mathlib.Core.Path.{◌≡◌, sym, subst, ap, ◌∙◌}
use mathlib.Core.Bool.{true}
use lib.Dec.{T}
use lib.Ieee.{Float, binary64, fits, lt}
use Rattle.floats.specs.Steps.{TWO51, nearest_of, lower_of, within_of}
use Rattle.floats.proofs.ToWhole.{floor_small, floor_any}
use Rattle.floats.proofs.floor.Goals as goal

held : (x : Float) → fits binary64 x ≡ true → T (fits binary64 x)
held x e = subst T (sym e) tt

-- below 2 ^ 51 in size
pub returns-then-absolute : goal.returns-then-absolute
returns-then-absolute c = let x = c.args.x in
    c.lowered.ensures ∙ floor_small x (held x c.well_formed.0.1) (ap (λ (z : Float). lt z TWO51) (sym c.absolute.ensures) ∙ c.if-absolute.true)

-- any other, and what is no number
pub returns : goal.returns
returns c = let x = c.args.x in
    c.within.ensures ∙ ap (within_of x) c.lowered-2.ensures
    ∙ ap (λ (z : Float). within_of x (lower_of x (nearest_of x z))) c.shift-m.ensures ∙ floor_any x (held x c.well_formed.0.1)
