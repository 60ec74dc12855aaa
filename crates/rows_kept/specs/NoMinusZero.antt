-- No bound of an integer variable is minus zero once the bounds are rounded: a finite one is a floor or a ceil, the larger or smaller of two such, or one that the variable had before.
-- Working bounds are none either, which matters where dual fixing emits them.
use Rattle.std.specs.Prelude.{ℕ, zero, suc, ◌<◌, ◌≡◌, Bool, true, false, List, length, Float}
use Rattle.std.specs.Float.{nan, inf, fin}
use Rattle.tolerances.specs.Tol.{at}
use Rattle.definition.specs.Model.{Model, is_int}
use Rattle.definition.specs.Work.{Work}

unfoldable pub minus_zero : Float → Bool
minus_zero nan = false
minus_zero (inf s) = false
minus_zero (fin s zero e) = s
minus_zero (fin s (suc m) e) = false

abbrev pub Clean : Float → Type 0
Clean x = minus_zero x ≡ false

module _ (M : Model) where
  -- of a list of bounds, none of an integer variable below n is minus zero
  abbrev pub CleanBelow : ℕ → List Float → Type 0
  CleanBelow n l = (v : ℕ) → v < n → is_int M v ≡ true → Clean (at l v)

  pub record CleanBounds (wlo whi elo ehi : List Float) : Type 0 where
    pub working_lower : CleanBelow (length M.lower) wlo
    pub working_upper : CleanBelow (length M.lower) whi
    pub lower : CleanBelow (length M.lower) elo
    pub upper : CleanBelow (length M.lower) ehi

  abbrev pub CleanState : Work → Type 0
  CleanState w = CleanBounds w.wlo w.whi w.elo w.ehi
