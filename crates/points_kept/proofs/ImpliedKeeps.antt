-- ROUNDING DIRECTION through the quotients: an implied bound d / a, divided, relaxed and rounded, cuts no whole value that the exact quotient allows.
use Rattle.std.specs.Prelude.{◌^◌, ◌≤◌, ℤ, Float}
use Rattle.std.specs.Float.{binary64}
use Rattle.std.specs.Float.Ieee.{of_int}
use Rattle.floats.specs.Num.{◌⊕◌, ◌⊖◌, ◌⊘◌, floor, ceil}
use Rattle.floats.specs.WholeRounding.{NonNeg}
use Rattle.floats.specs.Zed.{A}
use Rattle.floats.specs.Points.{int, Bounded, ◌≼◌}
use Rattle.tolerances.specs.Laws.{laws}
use Rattle.points_kept.proofs.Quotients.{lower_keeps, upper_keeps}
use Rattle.points_kept.specs.Quotients.{AtLeast, AtMost}

-- A RELAXED, ROUNDED IMPLIED BOUND keeps each whole value that the exact quotient allows
pub implied_keeps : {d a relax : Float} → Bounded (2 ^ 53) d → Bounded (2 ^ 15) a → NonNeg relax → (z : ℤ) → A z ≤ 2 ^ 53
    → (AtMost (int a) (int d) z → of_int binary64 z ≼ floor (d ⊘ a ⊕ relax)) × (AtLeast (int a) (int d) z → ceil (d ⊘ a ⊖ relax) ≼ of_int binary64 z)
implied_keeps hd ha hr z h = (upper_keeps hd ha hr (laws.of_is z h), lower_keeps hd ha hr (laws.of_is z h))
