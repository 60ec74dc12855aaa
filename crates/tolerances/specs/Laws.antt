-- THE FLOAT LAWS of the farm theorem, as one record, and the proof that they hold: `laws`. Each is proved in `floats` (Points, Compare, WholeRounding, Quotients, Slacks) or in Budget.
use Rattle.std.specs.Prelude.{◌≡◌, ℕ, ◌+◌, ◌^◌, ◌≤◌, false, T, ◌≢◌, ℤ, pos, ◌+ℤ◌, ◌-ℤ◌, ◌*ℤ◌, ◌==◌, nat_lt, refl, Float}
use Rattle.std.specs.Float.{binary64}
use Rattle.std.specs.Float.Ieee.{lt, eq, round, of_int, of_bits}
use Rattle.floats.specs.Num.{◌⊕◌, ◌⊖◌, ◌⊗◌, ◌⊘◌, 0f, ½f, is_finite, abs, maxf, floor, ceil}
use Rattle.floats.specs.Zed.{P, N, A, ◌⊑◌, ◌⊏◌}
use Rattle.floats.specs.Points.{int, Whole, Bounded, Held, ◌≼◌, ◌≺◌, ◌⊀◌, Is}
use Rattle.floats.proofs.Points as points
use Rattle.floats.proofs.Compare as compare
use Rattle.floats.specs.WholeRounding.{NonNeg, Tol}
use Rattle.floats.proofs.WholeRounding as rounding
use Rattle.floats.proofs.Quotients as quotients
use Rattle.floats.proofs.Slacks as slacks
use Rattle.tolerances.specs.Tol.{slack_tol, ROUNDOFF_FLOOR}
use Rattle.tolerances.specs.Budget as budgets

-- 1e-9
abbrev pub REDUNDANT_MARGIN : Float
REDUNDANT_MARGIN = of_bits binary64 0x3e11_2e0b_e826_d695

pub redundant_literal : REDUNDANT_MARGIN ≡ round binary64 false 1 (10 ^ 9)
unfolding of_bits round
redundant_literal = refl

pub record Laws : Type 0 where
  -- whole numbers: operations are exact up to 2 ^ 53, and comparisons decide the order
  pub add_is : {x y : Float} → Bounded (2 ^ 53) x → Bounded (2 ^ 53) y → A (int x +ℤ int y) ≤ 2 ^ 53 → Is (x ⊕ y) (int x +ℤ int y)
  pub sub_is : {x y : Float} → Bounded (2 ^ 53) x → Bounded (2 ^ 53) y → A (int x -ℤ int y) ≤ 2 ^ 53 → Is (x ⊖ y) (int x -ℤ int y)
  pub mul_is : {x y : Float} → Bounded (2 ^ 53) x → Bounded (2 ^ 53) y → A (int x *ℤ int y) ≤ 2 ^ 53 → Is (x ⊗ y) (int x *ℤ int y)
  pub lt_is : {x y : Float} → Whole x → Whole y → lt x y ≡ nat_lt (P (int x) + N (int y)) (P (int y) + N (int x))
  pub eq_is : {x y : Float} → Whole x → Whole y → eq x y ≡ (P (int x) + N (int y) == P (int y) + N (int x))
  pub of_is : (z : ℤ) → A z ≤ 2 ^ 53 → Is (of_int binary64 z) z
  -- the order of all floats
  pub le_trans : {x y z : Float} → x ≼ y → y ≼ z → x ≼ z
  pub lt_le_trans : {x y z : Float} → x ≺ y → y ≼ z → x ≺ z
  pub le_lt_trans : {x y z : Float} → x ≼ y → y ≺ z → x ≺ z
  pub le_left : {x y : Float} → x ≼ y → x ≼ x
  pub le_right : {x y : Float} → x ≼ y → y ≼ y
  pub not_lt : {x y : Float} → x ≼ x → y ≼ y → x ⊀ y → y ≼ x
  -- rounding keeps the order: a whole number stays below or above
  pub add_keeps : {x y s : Float} → Whole x → Held y → x ≼ y → NonNeg s → x ≼ (y ⊕ s)
  pub sub_keeps : {x y s : Float} → Whole x → Held y → y ≼ x → NonNeg s → (y ⊖ s) ≼ x
  pub floor_keeps : {x y : Float} → Whole x → Held y → x ≼ y → x ≼ (floor y)
  pub ceil_keeps : {x y : Float} → Whole x → Held y → y ≼ x → (ceil y) ≼ x
  pub floor_whole : {l h y : Float} → Whole l → Whole h → Held y → l ≼ (floor y) → (floor y) ≼ h → Whole (floor y)
  pub ceil_whole : {l h y : Float} → Whole l → Whole h → Held y → l ≼ (ceil y) → (ceil y) ≼ h → Whole (ceil y)
  -- half a unit off a bound tells whole numbers apart
  pub floor_half : {l y z : Float} → Bounded (2 ^ 20) l → Held y → (floor y) ≺ z → (floor y) ⊀ (l ⊖ ½f) → l ≼ (floor y)
  pub ceil_half : {h y z : Float} → Bounded (2 ^ 20) h → Held y → z ≺ (ceil y) → (h ⊕ ½f) ⊀ (ceil y) → (ceil y) ≼ h
  -- a tolerance tells a whole number from 0
  pub tol_below : {x t : Float} → Whole x → Tol t → int x ⊏ pos 0 → x ≺ (0f ⊖ t)
  pub tol_above : {x t : Float} → Whole x → Tol t → pos 0 ⊏ int x → (0f ⊕ t) ≺ x
  -- a tolerance moves no whole bound
  pub round_lower : {l t : Float} → Bounded (2 ^ 20) l → Tol t → Is (ceil (l ⊖ t)) (int l)
  pub round_upper : {h t : Float} → Bounded (2 ^ 20) h → Tol t → Is (floor (h ⊕ t)) (int h)
  -- quotients
  pub div_finite : {d a : Float} → Bounded (2 ^ 53) d → Bounded (2 ^ 15) a → int a ≢ pos 0 → T (is_finite (d ⊘ a))
  pub div_above : {d a x : Float} → Bounded (2 ^ 53) d → Bounded (2 ^ 15) a → Whole x → pos 0 ⊏ int a → int a *ℤ int x ⊑ int d → x ≼ (d ⊘ a)
  pub div_below : {d a x : Float} → Bounded (2 ^ 53) d → Bounded (2 ^ 15) a → Whole x → pos 0 ⊏ int a → int d ⊑ int a *ℤ int x → (d ⊘ a) ≼ x
  pub div_above_neg : {d a x : Float} → Bounded (2 ^ 53) d → Bounded (2 ^ 15) a → Whole x → int a ⊏ pos 0 → int d ⊑ int a *ℤ int x → x ≼ (d ⊘ a)
  pub div_below_neg : {d a x : Float} → Bounded (2 ^ 53) d → Bounded (2 ^ 15) a → Whole x → int a ⊏ pos 0 → int a *ℤ int x ⊑ int d → (d ⊘ a) ≼ x
  -- a row of one term that its variable's bounds make redundant within a tolerance is redundant: t is the tolerance, k the bound's
  pub drop_below : {d a l t k : Float} → Bounded (2 ^ 53) d → Bounded (2 ^ 15) a → Bounded (2 ^ 20) l → pos 0 ⊏ int a → Tol t → NonNeg k
      → ((d ⊘ a) ⊖ (t ⊘ abs a)) ≼ (l ⊖ k) → int d ⊑ int a *ℤ int l
  pub drop_above : {d a h t k : Float} → Bounded (2 ^ 53) d → Bounded (2 ^ 15) a → Bounded (2 ^ 20) h → pos 0 ⊏ int a → Tol t → NonNeg k
      → (h ⊕ k) ≼ ((d ⊘ a) ⊕ (t ⊘ abs a)) → int a *ℤ int h ⊑ int d
  pub drop_below_neg : {d a l t k : Float} → Bounded (2 ^ 53) d → Bounded (2 ^ 15) a → Bounded (2 ^ 20) l → int a ⊏ pos 0 → Tol t → NonNeg k
      → ((d ⊘ a) ⊖ (t ⊘ abs a)) ≼ (l ⊖ k) → int a *ℤ int l ⊑ int d
  pub drop_above_neg : {d a h t k : Float} → Bounded (2 ^ 53) d → Bounded (2 ^ 15) a → Bounded (2 ^ 20) h → int a ⊏ pos 0 → Tol t → NonNeg k
      → (h ⊕ k) ≼ ((d ⊘ a) ⊕ (t ⊘ abs a)) → int d ⊑ int a *ℤ int h
  -- tolerances, budgets and slacks
  pub nonneg_add : {x y : Float} → NonNeg x → NonNeg y → NonNeg (x ⊕ y)
  pub nonneg_mul : {a t : Float} → Whole a → pos 0 ⊑ int a → Tol t → NonNeg (a ⊗ t)
  pub nonneg_div : {x a : Float} → NonNeg x → Whole a → pos 0 ⊏ int a → NonNeg (x ⊘ a)
  pub roundoff : {m : Float} → Bounded (2 ^ 45) m → pos 0 ⊑ int m → Tol (ROUNDOFF_FLOOR ⊗ m)
  pub rest : {x y : Float} → Tol x → Tol y → Tol (maxf (x ⊖ y) 0f)
  pub budget : {t m : Float} (n : ℕ) → n ≤ 256 → Tol t → Bounded (2 ^ 45) m → pos 0 ⊑ int m → Tol (slack_tol t m n)
  -- results are floats of the format
  pub fits_add : (x y : Float) → Held (x ⊕ y)
  pub fits_sub : (x y : Float) → Held (x ⊖ y)
  pub fits_div : (x y : Float) → Held (x ⊘ y)

pub laws : Laws
laws =
    record {
      add_is = points.add_is;
      sub_is = points.sub_is;
      mul_is = points.mul_is;
      lt_is = points.lt_is;
      eq_is = points.eq_is;
      of_is = points.of_is;
      le_trans = compare.le_trans;
      lt_le_trans = compare.lt_le_trans;
      le_lt_trans = compare.le_lt_trans;
      le_left = compare.le_left;
      le_right = compare.le_right;
      not_lt = compare.not_lt;
      add_keeps = rounding.add_keeps;
      sub_keeps = rounding.sub_keeps;
      floor_keeps = rounding.floor_keeps;
      ceil_keeps = rounding.ceil_keeps;
      floor_whole = rounding.floor_whole;
      ceil_whole = rounding.ceil_whole;
      floor_half = rounding.floor_half;
      ceil_half = rounding.ceil_half;
      tol_below = rounding.tol_below;
      tol_above = rounding.tol_above;
      round_lower = rounding.round_lower;
      round_upper = rounding.round_upper;
      div_finite = quotients.div_finite;
      div_above = quotients.div_above;
      div_below = quotients.div_below;
      div_above_neg = quotients.div_above_neg;
      div_below_neg = quotients.div_below_neg;
      drop_below = (λ bd ba bl p ht hk o. quotients.drop_below bd ba bl p ht hk o);
      drop_above = (λ bd ba bl p ht hk o. quotients.drop_above bd ba bl p ht hk o);
      drop_below_neg = (λ bd ba bl p ht hk o. quotients.drop_below_neg bd ba bl p ht hk o);
      drop_above_neg = (λ bd ba bl p ht hk o. quotients.drop_above_neg bd ba bl p ht hk o);
      nonneg_add = slacks.nonneg_add;
      nonneg_mul = slacks.nonneg_mul;
      nonneg_div = slacks.nonneg_div;
      roundoff = slacks.roundoff;
      rest = slacks.rest;
      budget = budgets.budget;
      fits_add = points.fits_add;
      fits_sub = points.fits_sub;
      fits_div = points.fits_div;
    }
