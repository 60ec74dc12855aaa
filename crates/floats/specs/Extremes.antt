-- WHAT abs, smaller, larger AND finite ARE BY VALUE, after IEEE 754-2019 5.5.1, 9.6 and 5.7.2: abs is the size; the larger is one of the two, and below
-- neither; a NaN loses to a number on either side;
-- of two zeros the first stays, whatever their signs (9.6 has -0 below +0). What is finite is a number.
use Rattle.std.specs.Prelude.{◌≡◌, ◌⊎◌, Float}
use Rattle.floats.specs.Zed.{◌⊑◌}
use Rattle.floats.specs.Order.{rank}

pub record LargerOf (x y r : Float) : Type 0 where
  pub one : (r ≡ x) ⊎ (r ≡ y)
  pub left : rank x ⊑ rank r
  pub right : rank y ⊑ rank r

pub record SmallerOf (x y r : Float) : Type 0 where
  pub one : (r ≡ x) ⊎ (r ≡ y)
  pub left : rank r ⊑ rank x
  pub right : rank r ⊑ rank y
