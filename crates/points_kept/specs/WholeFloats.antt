-- WHOLE FLOATS: their order is that of the numbers; sums, differences and products of known sizes are exact; the smaller and the larger of two; magnitudes; tolerances against whole numbers.
use Rattle.std.specs.Prelude.{ℕ, ◌≤◌, ◌^◌, pos, ℤ, Float}
use Rattle.floats.specs.Zed.{A, ◌⊑◌}
use Rattle.floats.specs.Points.{int, Whole, Is}

-- a part of a row's sum: a whole number of a term's size
abbrev pub Part : Float → ℤ → Type 0
Part x z = Is x z × (A z ≤ 2 ^ 35)

-- ---- magnitudes: whole, not negative, at most k
pub record Mag (k : ℕ) (x : Float) : Type 0 where
  pub whole : Whole x
  pub nonneg : pos 0 ⊑ int x
  pub small : A (int x) ≤ k
