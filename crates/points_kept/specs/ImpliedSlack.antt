-- `CDouble` AND `implied_slack` on whole numbers: sums, halves and products of pairs are exact, with nothing left over, so the slack of a row is exact.
use Prim.Native.Nat.{ℕ, ◌+◌, ◌*◌, ◌^◌, ◌≤◌, ◌<◌}
use Rattle.std.specs.Prelude.{ℤ, pos, Float}
use Rattle.floats.specs.Zed.{A}
use Rattle.floats.specs.Points.{Is}
use Rattle.cdouble.specs.declared.CDouble.{CDouble}
use Rattle.points_kept.specs.WholeFloats.{Mag}

-- ---- exact sums and products of whole numbers, as `CDouble` makes them
pub record WholePair (z : ℤ) (d : CDouble) : Type 0 where
  pub hi : Is d.hi z
  pub lo : Is d.lo (pos 0)

-- ---- the loop: val is exact, X its numbers
module _ (n : ℕ) (val : ℕ → Float) (X : ℕ → ℤ) (vals : (v : ℕ) → v < n → Is (val v) (X v)) (sizes : (v : ℕ) → v < n → A (X v) ≤ 2 ^ 20) where
  pub record Slack (S : ℤ) (k : ℕ) (s : CDouble × Float) : Type 0 where
    pub d : WholePair S s.0
    pub small : A S ≤ 2 ^ 40 + k * 2 ^ 35
    pub mag : Mag (2 ^ 40 + k * 2 ^ 35) s.1
