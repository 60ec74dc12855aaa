-- ROUNDING DIRECTION through the quotients: an implied bound d / a, divided, relaxed and rounded, cuts no whole value that the exact quotient allows.
use Rattle.std.specs.Prelude.{◌⊎◌, ℤ, pos, ◌*ℤ◌}
use Rattle.floats.specs.Zed.{◌⊑◌, ◌⊏◌}

-- x is at most d / a, or at least d / a, of whole numbers and multiplied out
pub data AtMost (a d x : ℤ) : Type 0 where
  rises : pos 0 ⊏ a → a *ℤ x ⊑ d → AtMost a d x
  falls : a ⊏ pos 0 → d ⊑ a *ℤ x → AtMost a d x

pub data AtLeast (a d x : ℤ) : Type 0 where
  rises : pos 0 ⊏ a → d ⊑ a *ℤ x → AtLeast a d x
  falls : a ⊏ pos 0 → a *ℤ x ⊑ d → AtLeast a d x

abbrev pub Signed : ℤ → Type 0
Signed a = (pos 0 ⊏ a) ⊎ (a ⊏ pos 0)
