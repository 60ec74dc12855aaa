-- A bound of usual size: its round-off is within the absolute tolerance, so that this is its tolerance.
use Rattle.std.specs.Prelude.{◌≡◌, Bool, true, false, T, refl, Float}
use Rattle.std.proofs.Common.{ap, sym, subst}
use Rattle.std.specs.Float.Ieee.{le}
use Rattle.floats.specs.Num.{choose, ◌⊗◌, is_finite, abs}
use Rattle.floats.specs.Order.{le_real}
use Rattle.floats.proofs.Compare.{le_turns}
use Rattle.floats.proofs.Meaning.{maxf_first}
use Rattle.tolerances.specs.Tol.{ROUNDOFF_FLOOR, row_tolerance, bound_tolerance}

unfoldable pub usual : Float → Float → Bool
usual tol b = le (ROUNDOFF_FLOOR ⊗ abs b) tol

-- as it is computed
pub usual_is : (tol b z : Float) → z ≡ abs b → le (ROUNDOFF_FLOOR ⊗ z) tol ≡ usual tol b
unfolding usual
usual_is tol b z e = ap (λ (y : Float). le (ROUNDOFF_FLOOR ⊗ y) tol) e

same_or : {A : Type 0} (c : Bool) (x y : A) → x ≡ y → choose c x y ≡ y
unfolding choose
same_or true x y e = e
same_or false x y e = refl

-- an infinite bound of an infinite tolerance too
pub usual_tolerance : (tol b : Float) → usual tol b ≡ true → bound_tolerance tol b ≡ tol
unfolding usual bound_tolerance row_tolerance
usual_tolerance tol b e =
    let t : T (le (ROUNDOFF_FLOOR ⊗ abs b) tol) = subst T (sym e) tt in
    same_or (is_finite b) _ tol (maxf_first tol (ROUNDOFF_FLOOR ⊗ abs b) (le_real _ _ t).1 (le_turns _ _ t))
