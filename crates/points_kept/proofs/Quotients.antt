-- ROUNDING DIRECTION through the quotients: an implied bound d / a, divided, relaxed and rounded, cuts no whole value that the exact quotient allows.
use Rattle.std.specs.Prelude.{◌^◌, ℤ, Float}
use Rattle.std.proofs.Common.{arith, sym, subst, inl, inr}
use Rattle.floats.specs.Num.{abs, ◌⊕◌, ◌⊖◌, ◌⊘◌, floor, ceil}
use Rattle.floats.specs.WholeRounding.{Tol, NonNeg}
use Rattle.floats.specs.Zed.{◌⊑◌}
use Rattle.floats.specs.Points.{int, Whole, Bounded, ◌≼◌, Is}
use Rattle.tolerances.specs.Laws.{laws}
use Rattle.points_kept.proofs.Integers.{mul_mono, mul_anti}
use Rattle.points_kept.specs.Quotients.{AtLeast, AtMost, Signed, falls, rises}

-- further from the bound
pub more_least : {a d x y : ℤ} → AtLeast a d x → x ⊑ y → AtLeast a d y
more_least {a} {d} {x} {y} (rises s h) l = rises s (omega (arith, h, mul_mono a x y (omega arith) l))
more_least {a} {d} {x} {y} (falls s h) l = falls s (omega (arith, h, mul_anti a x y (omega arith) l))

pub less_most : {a d x y : ℤ} → AtMost a d x → y ⊑ x → AtMost a d y
less_most {a} {d} {x} {y} (rises s h) l = rises s (omega (arith, h, mul_mono a y x (omega arith) l))
less_most {a} {d} {x} {y} (falls s h) l = falls s (omega (arith, h, mul_anti a y x (omega arith) l))

module _ {d a : Float} (hd : Bounded (2 ^ 53) d) (ha : Bounded (2 ^ 15) a) where
  -- the quotient, divided alone
  pub most_quotient : {x : Float} → Whole x → AtMost (int a) (int d) (int x) → x ≼ (d ⊘ a)
  most_quotient w (rises s h) = laws.div_above hd ha w s h
  most_quotient w (falls s h) = laws.div_above_neg hd ha w s h

  pub least_quotient : {x : Float} → Whole x → AtLeast (int a) (int d) (int x) → (d ⊘ a) ≼ x
  least_quotient w (rises s h) = laws.div_below hd ha w s h
  least_quotient w (falls s h) = laws.div_below_neg hd ha w s h

  module _ {relax : Float} (hr : NonNeg relax) {z : ℤ} {x : Float} (is : Is x z) where
    -- `tighten_upper`'s bound
    pub upper_keeps : AtMost (int a) (int d) z → x ≼ floor (d ⊘ a ⊕ relax)
    upper_keeps m = laws.floor_keeps is.whole (laws.fits_add _ _)
        (laws.add_keeps is.whole (laws.fits_div _ _) (most_quotient is.whole (subst (AtMost (int a) (int d)) (sym is.is) m)) hr)

    -- `tighten_lower`'s
    pub lower_keeps : AtLeast (int a) (int d) z → ceil (d ⊘ a ⊖ relax) ≼ x
    lower_keeps m = laws.ceil_keeps is.whole (laws.fits_sub _ _)
        (laws.sub_keeps is.whole (laws.fits_div _ _) (least_quotient is.whole (subst (AtLeast (int a) (int d)) (sym is.is) m)) hr)

  -- ---- a bound l, with its tolerance k, that meets the quotient within the room t / |a| meets it exactly: t is a tolerance
  module _ {l t k : Float} (hl : Bounded (2 ^ 20) l) (ht : Tol t) (hk : NonNeg k) where
    pub least_meets : Signed (int a) → (d ⊘ a ⊖ t ⊘ abs a) ≼ (l ⊖ k) → AtLeast (int a) (int d) (int l)
    least_meets (inl s) h = rises s (laws.drop_below hd ha hl s ht hk h)
    least_meets (inr s) h = falls s (laws.drop_below_neg hd ha hl s ht hk h)

    pub most_meets : Signed (int a) → (l ⊕ k) ≼ (d ⊘ a ⊕ t ⊘ abs a) → AtMost (int a) (int d) (int l)
    most_meets (inl s) h = rises s (laws.drop_above hd ha hl s ht hk h)
    most_meets (inr s) h = falls s (laws.drop_above_neg hd ha hl s ht hk h)
