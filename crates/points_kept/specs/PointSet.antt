-- A set of points: x gives each variable a signed whole number.
use Rattle.std.specs.Prelude.{ℕ, ℤ}

abbrev pub PointSet : Type 1
PointSet = (ℕ → ℤ) → Type 0
