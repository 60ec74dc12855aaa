-- WHAT abs, smaller, larger AND finite ARE BY VALUE, after IEEE 754-2019 5.5.1, 9.6 and 5.7.2: abs is the size; the larger is one of the two, and below
-- neither; a NaN loses to a number on either side;
-- of two zeros the first stays, whatever their signs (9.6 has -0 below +0). What is finite is a number.
use Rattle.std.specs.Prelude.{◌≡◌, refl, ◌⊎◌, Bool, true, false, not, T, ℤ, pos, Float}
use Rattle.std.proofs.Common.{sym, ap, subst, inl, inr, arith}
use Rattle.std.specs.Float.{nan, inf, fin, binary64}
use Rattle.std.specs.Float.Ieee.{is_nan, lt, fits}
use Rattle.floats.specs.Zed.{A, ◌⊑◌, ◌⊏◌}
use Rattle.floats.specs.Value.{mags, sign, units, signed_A, Num}
use Rattle.floats.specs.Order.{Real, nan_real, rank, lt→⊏, nlt→⊑}
use Rattle.floats.proofs.Meaning.{maxf_first, maxf_second, minf_first, minf_second}
use Rattle.floats.specs.Num.{choose, sign_of, abs, is_finite, is_infinite, maxf, minf}
use Rattle.floats.specs.Extremes.{LargerOf, SmallerOf}

-- ---- abs
pub abs_value : (x : Float) → Real x → (sign_of (abs x) ≡ false) × (rank (abs x) ≡ pos (A (rank x)))
unfolding abs rank units mags sign
abs_value nan h = absurd (nan_real h)
abs_value (inf true) h = (refl, refl)
abs_value (inf false) h = (refl, refl)
abs_value (fin s m e) h = (refl, ap pos (sym (signed_A s (mags (fin s m e)))))

pub abs_nan : abs nan ≡ nan
unfolding abs
abs_nan = refl

-- ---- finite and infinite
pub finite_num : (x : Float) → T (fits binary64 x) → is_finite x ≡ true → Num x
unfolding is_finite
finite_num nan f h = absurd (subst T (sym h) tt)
finite_num (inf s) f h = absurd (subst T (sym h) tt)
finite_num (fin s m e) f h = (tt, f)

pub num_finite : (x : Float) → Num x → is_finite x ≡ true
unfolding is_finite
num_finite nan h = absurd h.0
num_finite (inf s) h = absurd h.0
num_finite (fin s m e) h = refl

pub infinite_is : (x : Float) → is_infinite x ≡ true → (x ≡ inf true) ⊎ (x ≡ inf false)
unfolding is_infinite
infinite_is nan h = absurd (subst T (sym h) tt)
infinite_is (inf true) h = inl refl
infinite_is (inf false) h = inr refl
infinite_is (fin s m e) h = absurd (subst T (sym h) tt)

-- ---- the larger and the smaller: one of the two, and at the end of both
pub order : (u v : ℤ) → u ⊏ v → u ⊑ v
order u v h = omega arith

pub self_le : (u : ℤ) → u ⊑ u
self_le u = omega arith

pub truly : (b : Bool) → b ≡ true → T b
truly b e = subst T (sym e) tt

pub falsely : (b : Bool) → b ≡ false → T (not b)
falsely b e = subst (λ (t : Bool). T (not t)) (sym e) tt

pub maxf_value : (x y : Float) → Real x → Real y → LargerOf x y (maxf x y)
maxf_value x y hx hy = go (lt x y) refl
  where
    go : (b : Bool) → lt x y ≡ b → LargerOf x y (maxf x y)
    go true e = subst (LargerOf x y) (sym (maxf_second x y e)) (record { one = inr refl; left = order (rank x) (rank y) (lt→⊏ x y hx hy (truly (lt x y) e)); right = self_le (rank y) })
    go false e = subst (LargerOf x y) (sym (maxf_first x y hx.real e)) (record { one = inl refl; left = self_le (rank x); right = nlt→⊑ x y hx hy (falsely (lt x y) e) })

pub minf_value : (x y : Float) → Real x → Real y → SmallerOf x y (minf x y)
minf_value x y hx hy = go (lt y x) refl
  where
    go : (b : Bool) → lt y x ≡ b → SmallerOf x y (minf x y)
    go true e = subst (SmallerOf x y) (sym (minf_second x y e)) (record { one = inr refl; left = order (rank y) (rank x) (lt→⊏ y x hy hx (truly (lt y x) e)); right = self_le (rank y) })
    go false e = subst (SmallerOf x y) (sym (minf_first x y hx.real e)) (record { one = inl refl; left = self_le (rank x); right = nlt→⊑ y x hy hx (falsely (lt y x) e) })

-- a NaN on the right loses too; on the left it does by `maxf_nan` and `minf_nan`
pub no_lt : (x : Float) → (lt x nan ≡ false) × (lt nan x ≡ false)
unfolding lt
no_lt nan = (refl, refl)
no_lt (inf s) = (refl, refl)
no_lt (fin s m e) = (refl, refl)

pub maxf_nan_right : (x : Float) → maxf x nan ≡ x
unfolding maxf choose is_nan
maxf_nan_right nan = refl
maxf_nan_right (inf s) = ap (λ (t : Bool). choose t nan (inf s)) (no_lt (inf s)).0
maxf_nan_right (fin s m e) = ap (λ (t : Bool). choose t nan (fin s m e)) (no_lt (fin s m e)).0

pub minf_nan_right : (x : Float) → minf x nan ≡ x
unfolding minf choose is_nan
minf_nan_right nan = refl
minf_nan_right (inf s) = ap (λ (t : Bool). choose t nan (inf s)) (no_lt (inf s)).1
minf_nan_right (fin s m e) = ap (λ (t : Bool). choose t nan (fin s m e)) (no_lt (fin s m e)).1

-- of two zeros the first stays
pub zeros_first : (s t : Bool) → (maxf (fin s 0 (pos 0)) (fin t 0 (pos 0)) ≡ fin s 0 (pos 0)) × (minf (fin s 0 (pos 0)) (fin t 0 (pos 0)) ≡ fin s 0 (pos 0))
unfolding maxf minf choose is_nan lt
zeros_first true true = (refl, refl)
zeros_first true false = (refl, refl)
zeros_first false true = (refl, refl)
zeros_first false false = (refl, refl)
