-- A float that passed a test of the reductions is a number, and one above or below zero is no zero.
use Rattle.std.specs.Prelude.{◌≡◌, false, Float}
use Rattle.std.specs.Float.Ieee.{is_nan, eq}
use Rattle.floats.specs.Num.{0f}

-- what a rewrite puts into a row: a number that is no zero
pub record Coefficient (a : Float) : Type 0 where
  pub number : is_nan a ≡ false
  pub nonzero : eq a 0f ≡ false
