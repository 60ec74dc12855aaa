-- A BOUND THAT WOULD NOT TIGHTEN DOES NOT TIGHTEN EITHER AFTER IT IS RELAXED by something that is not below zero: q plus it is at or above q, q less it is at
-- or below q, and floor and ceil keep the order.
-- "Not below zero" is the test's own answer, so a NaN is not below it; where one comes in, the result is a NaN, and no test against that holds.
use Rattle.std.specs.Prelude.{◌≡◌, ◌⊎◌, ℕ, Bool, Float}
use Rattle.std.proofs.Math.Bool.{false}
use Rattle.std.specs.Float.Ieee.{lt}
use Rattle.floats.specs.Order.{Real}
use Rattle.floats.specs.Points.{◌≼◌}
use Rattle.floats.specs.Num.{0f}

-- not below zero: a number at or above it, or no number
abbrev pub NotNeg : Float → Type 0
NotNeg x = lt x 0f ≡ false

-- ---- products and quotients by sign: what is not below zero has no minus, or is a zero
abbrev pub Plus : Bool → ℕ → Type 0
Plus s m = (s ≡ false) ⊎ (m ≡ 0)

pub record Within (h m : Float) : Type 0 where
  pub real : Real m
  pub below : m ≼ h
