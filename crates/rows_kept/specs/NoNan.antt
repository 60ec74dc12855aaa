-- No bound that goes out is a NaN: rounding takes numbers to numbers, and every later bound is a number.
use Prim.Native.Nat.{ℕ, ◌<◌}
use Rattle.std.specs.Prelude.{◌≡◌, false, List, length, Float}
use Rattle.std.specs.Float.Ieee.{is_nan}
use Rattle.tolerances.specs.Tol.{at}
use Rattle.definition.specs.Model.{Model}
use Rattle.definition.specs.Work.{Work}

-- ---- the model's bounds and its integrality tolerance are numbers, and the bounds as many: what refusals 1, 6 and 9 leave
pub record Numbers (M : Model) : Type 0 where
  pub sizes : length M.upper ≡ length M.lower
  pub lower : (v : ℕ) → v < length M.lower → is_nan (at M.lower v) ≡ false
  pub upper : (v : ℕ) → v < length M.lower → is_nan (at M.upper v) ≡ false
  pub tolerance : is_nan M.int_tol ≡ false

-- a list of n numbers
pub record Numeric (n : ℕ) (l : List Float) : Type 0 where
  pub size : length l ≡ n
  pub number : (v : ℕ) → v < n → is_nan (at l v) ≡ false

module _ (M : Model) (N : Numbers M) where
  pub record NoNan (w : Work) : Type 0 where
    pub lower : Numeric (length M.lower) w.elo
    pub upper : Numeric (length M.lower) w.ehi
