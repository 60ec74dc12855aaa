-- QUOTIENTS OF WHOLE NUMBERS round to the right side of a whole number, and a row of one term that its variable's bounds make redundant within a tolerance is redundant.
-- Tolerances, margins and slacks made of whole numbers are not negative.
use Rattle.std.specs.Prelude.{◌≡◌, refl, ◌≢◌, ℕ, zero, suc, ◌+◌, ◌*◌, ◌/◌, ◌^◌, ◌≤◌, ◌<◌, Bool, true, false, not, T, leb, ℤ, pos, negsuc, neg_ℤ, ◌+ℤ◌, ◌-ℤ◌, ◌*ℤ◌, Float}
use Rattle.std.proofs.Common.{sym, ap, ◌∙◌, subst, le_refl, le_of_eq, le_of_lt, lt_of_le_of_lt, lt_irrefl, zero-mul}
use Rattle.std.proofs.Common.{mul-pos, mul-le-mul_right, mul-le-mul_left, le-div_iff_mul-le, add-zero, arith, leb→le, lit<, lit≤, pow_pos}
use Rattle.std.proofs.Math.Nat.{le_trans, div-mul-le_self, lt-div-mul-add}
use Rattle.std.proofs.Math.Dec.{nleb→lt}
use Rattle.std.specs.Float.{nan, inf, fin}
use Rattle.std.specs.Float.Ieee.{neg, div}
use Rattle.floats.specs.Zed.{P, N, A, ◌⊑◌, ◌⊏◌, side, P_neg, N_neg, add_parts, sub_parts}
use Rattle.floats.specs.Value.{mags, units, size_of, Num}
use Rattle.floats.specs.Product.{pq, nq, mul_parts}
use Rattle.floats.specs.Whole as W
use Rattle.floats.specs.Whole.{sc, P_sc, N_sc}
use Rattle.floats.specs.Order.{rank, rank_num, le→⊑, ⊑→le}
use Rattle.floats.specs.Ranks as K
use Rattle.floats.specs.Ranks.{quot_above, quot_below, Result, sum_result, sub_result, div_result, held_of}
use Rattle.floats.specs.Points.{int, Whole, ◌≼◌, Bounded, Is}
use Rattle.floats.proofs.Points.{to_units, of_units, whole_num, whole_real, whole_rank, units_fin}
use Rattle.floats.specs.WholeRounding.{NonNeg, Tol}
use Rattle.floats.proofs.WholeRounding.{tol_num, tol_most, tol_least, small_num, held_scaled, zero_held, held_less, held_more, sum_below, sub_above, add_keeps, sub_keeps}
use Rattle.floats.proofs.Compare as C
use Rattle.floats.specs.Num.{◌⊕◌, ◌⊖◌, ◌⊘◌, abs, is_finite}

-- ---- a positive whole number
module _ (a : Float) (w : Whole a) (p : pos 0 ⊏ int a) where
  pub pos_N : N (int a) ≡ 0
  pos_N = omega (arith, side (int a))

  pub pos_P : 0 < P (int a)
  pos_P = omega (arith, side (int a))

  pub pos_units : N (units a) ≡ 0
  pos_units = ap N (to_units a w).val ∙ N_sc (2 ^ 1074) (int a) ∙ ap (λ (n : ℕ). n * 2 ^ 1074) pos_N ∙ zero-mul (2 ^ 1074)

  pub pos_mags : mags a ≡ P (int a) * 2 ^ 1074
  pos_mags = W.size_is a (int a) (to_units a w) ∙ ap (λ (n : ℕ). (P (int a) + n) * 2 ^ 1074) pos_N ∙ ap (λ (n : ℕ). n * 2 ^ 1074) (add-zero (P (int a)))

  pub pos_size : 0 < mags a
  pos_size = subst (λ (n : ℕ). 0 < n) (sym pos_mags) (mul-pos pos_P (pow_pos 1074))

  pub by : (x : Float) → Num x → Result (x ⊘ a) (P (units x) * 2 ^ 1074) (N (units x) * 2 ^ 1074) (mags a)
  by x n = div_result x a n (whole_num a w) pos_units pos_size

  -- v * a against x, in units of 1.0 on both sides
  pub by_above : (x : Float) → Num x → (v : ℤ) → K.HeldRank v → P v * P (int a) + N (units x) ≤ P (units x) + N v * P (int a) → v ⊑ rank (x ⊘ a)
  by_above x n v h o = quot_above (rank (x ⊘ a)) v (P (units x) * 2 ^ 1074) (N (units x) * 2 ^ 1074) (mags a) (by x n).quot h
      (subst (λ (m : ℕ). P v * m + N (units x) * 2 ^ 1074 ≤ P (units x) * 2 ^ 1074 + N v * m) (sym pos_mags)
      (rows (P v) (N v) (P (units x)) (N (units x)) (P (int a)) (2 ^ 1074) (mul-le-mul_right (2 ^ 1074) o)))
    where
      rows : (pv nv px nx a L : ℕ) → (pv * a + nx) * L ≤ (px + nv * a) * L → pv * (a * L) + nx * L ≤ px * L + nv * (a * L)
      rows pv nv px nx a L h = omega arith

  pub by_below : (x : Float) → Num x → (v : ℤ) → K.HeldRank v → P (units x) + N v * P (int a) ≤ P v * P (int a) + N (units x) → rank (x ⊘ a) ⊑ v
  by_below x n v h o = quot_below (rank (x ⊘ a)) v (P (units x) * 2 ^ 1074) (N (units x) * 2 ^ 1074) (mags a) (by x n).quot h
      (subst (λ (m : ℕ). P (units x) * 2 ^ 1074 + N v * m ≤ P v * m + N (units x) * 2 ^ 1074) (sym pos_mags)
      (rows (P v) (N v) (P (units x)) (N (units x)) (P (int a)) (2 ^ 1074) (mul-le-mul_right (2 ^ 1074) o)))
    where
      rows : (pv nv px nx a L : ℕ) → (px + nv * a) * L ≤ (pv * a + nx) * L → px * L + nv * (a * L) ≤ pv * (a * L) + nx * L
      rows pv nv px nx a L h = omega arith

  -- a * x by parts
  pub times : (z : ℤ) → P (int a *ℤ z) + P (int a) * N z ≡ N (int a *ℤ z) + P (int a) * P z
  times z = lin (P (int a *ℤ z)) (N (int a *ℤ z)) (P (int a)) (N (int a)) (P z) (N z) pos_N (mul_parts (int a) z)
    where
      lin : (p n pa na pz nz : ℕ) → na ≡ 0 → p + (pa * nz + na * pz) ≡ n + (pa * pz + na * nz) → p + pa * nz ≡ n + pa * pz
      lin p n pa na pz nz e h = let h' = rw (e, zero-mul pz, zero-mul nz) at h in omega arith

scaled_rows : (pv nv pd nd pz nz a L pu nu : ℕ) → pv ≡ pz * L → nv ≡ nz * L → pu ≡ pd * L → nu ≡ nd * L → (a * pz + nd) * L ≤ (pd + a * nz) * L → pv * a + nu ≤ pu + nv * a
scaled_rows pv nv pd nd pz nz a L pu nu e f g h k = rw (e, f, g, h) (omega arith)

scaled_rows' : (pv nv pd nd pz nz a L pu nu : ℕ) → pv ≡ pz * L → nv ≡ nz * L → pu ≡ pd * L → nu ≡ nd * L → (pd + a * nz) * L ≤ (a * pz + nd) * L → pu + nv * a ≤ pv * a + nu
scaled_rows' pv nv pd nd pz nz a L pu nu e f g h k = rw (e, f, g, h) (omega arith)

-- THE ROUNDED QUOTIENT of whole numbers, of any size, is not below a whole number that the exact one is not below, so not below its floor, and not above its ceiling
pub quotient_above : {d a x : Float} → Whole d → Whole a → Whole x → pos 0 ⊏ int a → int a *ℤ int x ⊑ int d → x ≼ (d ⊘ a)
quotient_above {d} {a} {x} wd wa wx p o =
    let L = 2 ^ 1074 in
    let nd = whole_num d wd in
    let ud = (to_units d wd).val in
    let rx = whole_rank x wx in
    record {
      le = ⊑→le x (d ⊘ a) (whole_real x wx) (by a wa p d nd).real
          (by_above a wa p d nd (rank x) (held_of x (whole_real x wx))
          (scaled_rows (P (rank x)) (N (rank x)) (P (int d)) (N (int d)) (P (int x)) (N (int x)) (P (int a)) L (P (units d)) (N (units d))
          (ap P rx ∙ P_sc L (int x)) (ap N rx ∙ N_sc L (int x)) (ap P ud ∙ P_sc L (int d)) (ap N ud ∙ N_sc L (int d))
          (mul-le-mul_right L (lin (P (int a *ℤ int x)) (N (int a *ℤ int x)) (P (int a) * P (int x)) (P (int a) * N (int x)) (P (int d)) (N (int d)) (times a wa p (int x)) o))));
    }
  where
    lin : (p n pp nn pd nd : ℕ) → p + nn ≡ n + pp → p + nd ≤ pd + n → pp + nd ≤ pd + nn
    lin p n pp nn pd nd e h = omega arith

pub quotient_below : {d a x : Float} → Whole d → Whole a → Whole x → pos 0 ⊏ int a → int d ⊑ int a *ℤ int x → (d ⊘ a) ≼ x
quotient_below {d} {a} {x} wd wa wx p o =
    let L = 2 ^ 1074 in
    let nd = whole_num d wd in
    let ud = (to_units d wd).val in
    let rx = whole_rank x wx in
    record {
      le = ⊑→le (d ⊘ a) x (by a wa p d nd).real (whole_real x wx)
          (by_below a wa p d nd (rank x) (held_of x (whole_real x wx))
          (scaled_rows' (P (rank x)) (N (rank x)) (P (int d)) (N (int d)) (P (int x)) (N (int x)) (P (int a)) L (P (units d)) (N (units d))
          (ap P rx ∙ P_sc L (int x)) (ap N rx ∙ N_sc L (int x)) (ap P ud ∙ P_sc L (int d)) (ap N ud ∙ N_sc L (int d))
          (mul-le-mul_right L (lin (P (int a *ℤ int x)) (N (int a *ℤ int x)) (P (int a) * P (int x)) (P (int a) * N (int x)) (P (int d)) (N (int d)) (times a wa p (int x)) o))));
    }
  where
    lin : (p n pp nn pd nd : ℕ) → p + nn ≡ n + pp → pd + n ≤ p + nd → pd + nn ≤ pp + nd
    lin p n pp nn pd nd e h = omega arith

pub div_above : {d a x : Float} → Bounded (2 ^ 53) d → Bounded (2 ^ 15) a → Whole x → pos 0 ⊏ int a → int a *ℤ int x ⊑ int d → x ≼ (d ⊘ a)
div_above bd ba wx p o = quotient_above bd.whole ba.whole wx p o

pub div_below : {d a x : Float} → Bounded (2 ^ 53) d → Bounded (2 ^ 15) a → Whole x → pos 0 ⊏ int a → int d ⊑ int a *ℤ int x → (d ⊘ a) ≼ x
div_below bd ba wx p o = quotient_below bd.whole ba.whole wx p o

-- ---- a negative divisor: both signs turned
pub div_neg : (x y : Float) → Num x → Num y → neg x ⊘ neg y ≡ x ⊘ y
unfolding div neg
div_neg nan y hx hy = absurd hx.0
div_neg (inf s) y hx hy = absurd hx.0
div_neg (fin s m e) nan hx hy = absurd hy.0
div_neg (fin s m e) (inf u) hx hy = absurd hy.0
div_neg (fin true m e) (fin true n d) hx hy = refl
div_neg (fin true m e) (fin false n d) hx hy = refl
div_neg (fin false m e) (fin true n d) hx hy = refl
div_neg (fin false m e) (fin false n d) hx hy = refl

pub neg_is : (x : Float) (k : ℤ) → W.Is x k → Is (neg x) (neg_ℤ k)
neg_is x k i = of_units (neg x) (neg_ℤ k) (W.is_neg x k i)

pub neg_bounded : (t : ℕ) (x : Float) → Bounded t x → Bounded t (neg x)
neg_bounded t x b = let I = neg_is x (int x) (to_units x b.whole) in record { whole = I.whole; small = le_trans (le_of_eq (ap A I.is ∙ turn (int x))) b.small }
  where
    turn : (z : ℤ) → A (neg_ℤ z) ≡ A z
    turn z = omega (arith, P_neg z, N_neg z)

pub neg_int : (x : Float) → Whole x → int (neg x) ≡ neg_ℤ (int x)
neg_int x w = (neg_is x (int x) (to_units x w)).is

neg_mul : (a x : ℤ) → P (neg_ℤ a *ℤ x) + P (a *ℤ x) ≡ N (a *ℤ x) + N (neg_ℤ a *ℤ x)
neg_mul a x = lin (P (neg_ℤ a *ℤ x)) (N (neg_ℤ a *ℤ x)) (P (a *ℤ x)) (N (a *ℤ x)) (P a) (N a) (P (neg_ℤ a)) (N (neg_ℤ a)) (P x) (N x) (P_neg a) (N_neg a) (mul_parts (neg_ℤ a) x) (mul_parts a x)
  where
    lin : (p n q r pa na pb nb px nx : ℕ) → pb ≡ na → nb ≡ pa → p + (pb * nx + nb * px) ≡ n + (pb * px + nb * nx) → q + (pa * nx + na * px) ≡ r + (pa * px + na * nx) → p + q ≡ r + n
    lin p n q r pa na pb nb px nx e f h k = let h' = rw (e, f) at h in omega arith

neg_pos : (z : ℤ) → z ⊏ pos 0 → pos 0 ⊏ neg_ℤ z
neg_pos z h = omega (arith, P_neg z, N_neg z)

module _ {d a : Float} {t u : ℕ} (bd : Bounded t d) (ba : Bounded u a) (p : int a ⊏ pos 0) where
  pub turned_a : pos 0 ⊏ int (neg a)
  turned_a = subst (λ (z : ℤ). pos 0 ⊏ z) (sym (neg_int a ba.whole)) (neg_pos (int a) p)

  pub turned : neg d ⊘ neg a ≡ d ⊘ a
  turned = div_neg d a (whole_num d bd.whole) (whole_num a ba.whole)

  -- a * x against d, both turned
  pub turn_le : (x : ℤ) → int d ⊑ int a *ℤ x → int (neg a) *ℤ x ⊑ int (neg d)
  turn_le x o = subst (λ (z : ℤ). z *ℤ x ⊑ int (neg d)) (sym (neg_int a ba.whole))
      (subst (λ (z : ℤ). neg_ℤ (int a) *ℤ x ⊑ z) (sym (neg_int d bd.whole)) (lin (neg_ℤ (int a) *ℤ x) (int a *ℤ x) (int d) (neg_mul (int a) x) o))
    where
      lin : (u v d : ℤ) → P u + P v ≡ N v + N u → d ⊑ v → u ⊑ neg_ℤ d
      lin u v d e h = omega (arith, P_neg d, N_neg d)

  pub turn_ge : (x : ℤ) → int a *ℤ x ⊑ int d → int (neg d) ⊑ int (neg a) *ℤ x
  turn_ge x o = subst (λ (z : ℤ). int (neg d) ⊑ z *ℤ x) (sym (neg_int a ba.whole))
      (subst (λ (z : ℤ). z ⊑ neg_ℤ (int a) *ℤ x) (sym (neg_int d bd.whole)) (lin (neg_ℤ (int a) *ℤ x) (int a *ℤ x) (int d) (neg_mul (int a) x) o))
    where
      lin : (u v d : ℤ) → P u + P v ≡ N v + N u → v ⊑ d → neg_ℤ d ⊑ u
      lin u v d e h = omega (arith, P_neg d, N_neg d)

  pub back_le : (x : ℤ) → int (neg d) ⊑ int (neg a) *ℤ x → int a *ℤ x ⊑ int d
  back_le x o = lin (neg_ℤ (int a) *ℤ x) (int a *ℤ x) (int d) (neg_mul (int a) x)
      (subst (λ (z : ℤ). z ⊑ neg_ℤ (int a) *ℤ x) (neg_int d bd.whole) (subst (λ (z : ℤ). int (neg d) ⊑ z *ℤ x) (neg_int a ba.whole) o))
    where
      lin : (u v d : ℤ) → P u + P v ≡ N v + N u → neg_ℤ d ⊑ u → v ⊑ d
      lin u v d e h = omega (arith, P_neg d, N_neg d)

  pub back_ge : (x : ℤ) → int (neg a) *ℤ x ⊑ int (neg d) → int d ⊑ int a *ℤ x
  back_ge x o = lin (neg_ℤ (int a) *ℤ x) (int a *ℤ x) (int d) (neg_mul (int a) x)
      (subst (λ (z : ℤ). neg_ℤ (int a) *ℤ x ⊑ z) (neg_int d bd.whole) (subst (λ (z : ℤ). z *ℤ x ⊑ int (neg d)) (neg_int a ba.whole) o))
    where
      lin : (u v d : ℤ) → P u + P v ≡ N v + N u → u ⊑ neg_ℤ d → d ⊑ v
      lin u v d e h = omega (arith, P_neg d, N_neg d)

sized : (x : Float) → Whole x → Bounded (A (int x)) x
sized x w = record { whole = w; small = le_refl (A (int x)) }

pub quotient_above_neg : {d a x : Float} → Whole d → Whole a → Whole x → int a ⊏ pos 0 → int d ⊑ int a *ℤ int x → x ≼ (d ⊘ a)
quotient_above_neg {d} {a} {x} wd wa wx p o =
    let bd = sized d wd in
    let ba = sized a wa in
    subst (λ (z : Float). x ≼ z) (turned bd ba p) (quotient_above (neg_bounded (A (int d)) d bd).whole (neg_bounded (A (int a)) a ba).whole wx (turned_a bd ba p) (turn_le bd ba p (int x) o))

pub quotient_below_neg : {d a x : Float} → Whole d → Whole a → Whole x → int a ⊏ pos 0 → int a *ℤ int x ⊑ int d → (d ⊘ a) ≼ x
quotient_below_neg {d} {a} {x} wd wa wx p o =
    let bd = sized d wd in
    let ba = sized a wa in
    subst (λ (z : Float). z ≼ x) (turned bd ba p) (quotient_below (neg_bounded (A (int d)) d bd).whole (neg_bounded (A (int a)) a ba).whole wx (turned_a bd ba p) (turn_ge bd ba p (int x) o))

pub div_above_neg : {d a x : Float} → Bounded (2 ^ 53) d → Bounded (2 ^ 15) a → Whole x → int a ⊏ pos 0 → int d ⊑ int a *ℤ int x → x ≼ (d ⊘ a)
div_above_neg bd ba wx p o = quotient_above_neg bd.whole ba.whole wx p o

pub div_below_neg : {d a x : Float} → Bounded (2 ^ 53) d → Bounded (2 ^ 15) a → Whole x → int a ⊏ pos 0 → int a *ℤ int x ⊑ int d → (d ⊘ a) ≼ x
div_below_neg bd ba wx p o = quotient_below_neg bd.whole ba.whole wx p o

-- ---- a quotient is a number
pub div_num : {d a : Float} → Bounded (2 ^ 53) d → Whole a → pos 0 ⊏ int a → Num (d ⊘ a)
div_num {d} {a} bd wa p =
    let L = 2 ^ 1074 in
    let nd = whole_num d bd.whole in
    let size : A (units d) ≤ 2 ^ 53 * L = le_trans (le_of_eq (size_of d ∙ W.size_is d (int d) (to_units d bd.whole))) (mul-le-mul_right L bd.small) in
    let hi = by_below a wa p d nd (sc L (pos (2 ^ 53))) (held_scaled (pos (2 ^ 53)) 1074 (lit≤ tt) (lit≤ tt))
    (up (P (sc L (pos (2 ^ 53)))) (N (sc L (pos (2 ^ 53)))) (P (units d)) (N (units d)) (P (int a)) (2 ^ 53 * L) (P_sc L (pos (2 ^ 53)))
    (N_sc L (pos (2 ^ 53)) ∙ zero-mul L) size (pos_P a wa p)) in
    let lo = by_above a wa p d nd (sc L (neg_ℤ (pos (2 ^ 53)))) (held_scaled (neg_ℤ (pos (2 ^ 53))) 1074 (lit≤ tt) (lit≤ tt))
    (dn (P (sc L (neg_ℤ (pos (2 ^ 53))))) (N (sc L (neg_ℤ (pos (2 ^ 53))))) (P (units d)) (N (units d)) (P (int a)) (2 ^ 53 * L)
    (P_sc L (neg_ℤ (pos (2 ^ 53))) ∙ zero-mul L) (N_sc L (neg_ℤ (pos (2 ^ 53)))) size (pos_P a wa p)) in
    small_num (d ⊘ a) (2 ^ 53 * L) (by a wa p d nd).real (within (rank (d ⊘ a)) (sc L (neg_ℤ (pos (2 ^ 53)))) (sc L (pos (2 ^ 53))) (2 ^ 53 * L)
    (P_sc L (pos (2 ^ 53))) (N_sc L (pos (2 ^ 53)) ∙ zero-mul L) (P_sc L (neg_ℤ (pos (2 ^ 53))) ∙ zero-mul L) (N_sc L (neg_ℤ (pos (2 ^ 53)))) lo hi) (lit< tt)
  where
    up : (pv nv pd nd a t : ℕ) → pv ≡ t → nv ≡ 0 → pd + nd ≤ t → 0 < a → pd + nv * a ≤ pv * a + nd
    up pv nv pd nd a t e f h k = let g : t * 1 ≤ t * a = mul-le-mul_left t k in rw (e, f) (omega (arith, zero-mul a))

    dn : (pv nv pd nd a t : ℕ) → pv ≡ 0 → nv ≡ t → pd + nd ≤ t → 0 < a → pv * a + nd ≤ pd + nv * a
    dn pv nv pd nd a t e f h k = let g : t * 1 ≤ t * a = mul-le-mul_left t k in rw (e, f) (omega (arith, zero-mul a))

    within : (r u v : ℤ) (t : ℕ) → P v ≡ t → N v ≡ 0 → P u ≡ 0 → N u ≡ t → u ⊑ r → r ⊑ v → A r ≤ t
    within r u v t a b c d h k = omega (arith, side r)

num_finite : (x : Float) → Num x → T (is_finite x)
unfolding is_finite
num_finite nan h = h.0
num_finite (inf s) h = h.0
num_finite (fin s m e) h = tt

pub div_finite : {d a : Float} → Bounded (2 ^ 53) d → Bounded (2 ^ 15) a → int a ≢ pos 0 → T (is_finite (d ⊘ a))
div_finite {d} {a} bd ba ne = go (int a) refl
  where
    go : (z : ℤ) → int a ≡ z → T (is_finite (d ⊘ a))
    go (pos zero) e = absurd (ne e)
    go (pos (suc n)) e = num_finite (d ⊘ a) (div_num bd ba.whole (subst (λ (z : ℤ). pos 0 ⊏ z) (sym e) (at n)))
      where
        at : (n : ℕ) → pos 0 ⊏ pos (suc n)
        at n = omega arith
    go (negsuc n) e =
        let p : int a ⊏ pos 0 = subst (λ (z : ℤ). z ⊏ pos 0) (sym e) (at n) in
        num_finite (d ⊘ a) (subst Num (turned bd ba p) (div_num (neg_bounded (2 ^ 53) d bd) (neg_bounded (2 ^ 15) a ba).whole (turned_a bd ba p)))
      where
        at : (n : ℕ) → negsuc n ⊏ pos 0
        at n = omega arith

sc_pos : (k n : ℕ) → sc (2 ^ k) (pos n) ≡ pos (n * 2 ^ k)
unfolding sc
sc_pos k n = refl

-- ---- |a|
pub abs_pos : (a : Float) → Num a → N (units a) ≡ 0 → 0 < mags a → abs a ≡ a
unfolding abs
abs_pos nan h n m = absurd h.0
abs_pos (inf s) h n m = absurd h.0
abs_pos (fin false k e) h n m = refl
abs_pos (fin true k e) h n m = absurd (lt_irrefl 0 (subst (λ (z : ℕ). 0 < z) (sym (ap N (units_fin true k e) ∙ N_neg (pos (mags (fin true k e)))) ∙ n) m))

pub abs_neg : (a : Float) → abs (neg a) ≡ abs a
unfolding abs neg
abs_neg nan = refl
abs_neg (inf s) = refl
abs_neg (fin s m e) = refl

-- ---- a row of one term: D is d / a and q is t / |a|, both rounded. With g = 2 ^ 32 / a, D is off d / a by no more than 2 ^ -32 toward it, and q is at most 3 (g + 1) / 2 ^ 35
module _ {d a l t : Float} (bd : Bounded (2 ^ 53) d) (ba : Bounded (2 ^ 15) a) (bl : Bounded (2 ^ 20) l) (p : pos 0 ⊏ int a) (ht : Tol t) where
  wa : Whole a
  wa = ba.whole

  a' : ℕ
  a' = P (int a)

  g : ℕ
  g = 2 ^ 32 / P (int a)

  small_a : P (int a) ≤ 2 ^ 15
  small_a = left (P (int a)) (N (int a)) (2 ^ 15) ba.small
    where
      left : (p n t : ℕ) → p + n ≤ t → p ≤ t
      left p n t h = omega arith

  g_low : g * P (int a) ≤ 2 ^ 32
  unfolding g
  g_low = div-mul-le_self (2 ^ 32) (P (int a))

  g_high : 2 ^ 32 < g * P (int a) + P (int a)
  unfolding g
  g_high = lt-div-mul-add (pos_P a wa p)

  g_most : g ≤ 2 ^ 32
  g_most = most g (P (int a)) (2 ^ 32) (pos_P a wa p) g_low
    where
      most : (g a t : ℕ) → 0 < a → g * a ≤ t → g ≤ t
      most g a t h k = let m : g * 1 ≤ g * a = mul-le-mul_left g h in omega arith

  g_least : 3 ≤ g
  unfolding g
  g_least = le_trans (lit≤ tt) ((le-div_iff_mul-le (pos_P a wa p)).1 (le_trans (mul-le-mul_left (2 ^ 17) small_a) (lit≤ tt)))

  nd : Num d
  nd = whole_num d bd.whole

  n_d : Num (d ⊘ a)
  n_d = div_num bd wa p

  nt : Num t
  nt = tol_num ht

  q_cap : rank (t ⊘ a) ⊑ pos (3 * (g + 1) * 2 ^ 1039)
  q_cap = subst (λ (z : ℤ). rank (t ⊘ a) ⊑ z) (sc_pos 1039 (3 * (g + 1))) (by_below a wa p t nt (sc (2 ^ 1039) (pos (3 * (g + 1)))) (held_scaled (pos (3 * (g + 1))) 1039 (cap g g_most) (lit≤ tt))
      (subst (λ (n : ℕ). P (units t) + n * P (int a) ≤ P (sc (2 ^ 1039) (pos (3 * (g + 1)))) * P (int a) + N (units t)) (sym (N_sc (2 ^ 1039) (pos (3 * (g + 1))) ∙ zero-mul (2 ^ 1039)))
      (subst (λ (n : ℕ). P (units t) + 0 * P (int a) ≤ n * P (int a) + N (units t)) (sym (P_sc (2 ^ 1039) (pos (3 * (g + 1)))))
      (rows (P (units t)) (N (units t)) (P (int a)) g (2 ^ 1039) (3 * 2 ^ 1071) (tol_most ht) (le_trans (le_of_eq (eq3 (2 ^ 1039))) (mul-le-mul_right (3 * 2 ^ 1039) (le_of_lt g_high)))))))
    where
      cap : (g : ℕ) → g ≤ 2 ^ 32 → 3 * (g + 1) + 0 ≤ 2 ^ 53
      cap g h = omega arith

      eq3 : (H : ℕ) → 3 * (2 ^ 32 * H) ≡ 2 ^ 32 * (3 * H)
      eq3 H = omega arith

      rows : (pt nt a g H c : ℕ) → pt + 0 ≤ c + nt → c ≤ (g * a + a) * (3 * H) → pt + 0 * a ≤ 3 * (g + 1) * H * a + nt
      rows pt nt a g H c h k = omega (arith, zero-mul a)

  q_least : pos 0 ⊑ rank (t ⊘ a)
  q_least = by_above a wa p t nt (pos 0) zero_held (at (units t) (P (int a)) (tol_least ht))
    where
      at : (z : ℤ) (a : ℕ) → pos 0 ⊑ z → 0 * a + N z ≤ P z + 0 * a
      at z a h = omega (arith, zero-mul a)

  nq' : Num (t ⊘ a)
  nq' = small_num (t ⊘ a) (3 * (g + 1) * 2 ^ 1039) (by a wa p t nt).real (at (rank (t ⊘ a)) (3 * (g + 1) * 2 ^ 1039) q_least q_cap)
      (lt_of_le_of_lt (mul-le-mul_right (2 ^ 1039) (cap g g_most)) (lit< tt))
    where
      at : (z : ℤ) (k : ℕ) → pos 0 ⊑ z → z ⊑ pos k → A z ≤ k
      at z k h l = omega (arith, side z)

      cap : (g : ℕ) → g ≤ 2 ^ 32 → 3 * (g + 1) ≤ 2 ^ 53
      cap g h = omega arith

  fine : 2 ^ 20 * 2 ^ 32 + g ≤ 2 ^ 53
  fine = at g g_most
    where
      at : (g : ℕ) → g ≤ 2 ^ 32 → 2 ^ 20 * 2 ^ 32 + g ≤ 2 ^ 53
      at g h = omega arith

  ul : units l ≡ sc (2 ^ 1074) (int l)
  ul = (to_units l bl.whole).val

  -- d past a * l by one: D is past l by g of 2 ^ -32
  past : int a *ℤ int l ⊏ int d → units l +ℤ pos (g * 2 ^ 1042) ⊑ rank (d ⊘ a)
  past o = by_above a wa p d nd (units l +ℤ pos (g * 2 ^ 1042)) (held_more l bl (2 ^ 32) 1042 g refl fine (lit≤ tt))
      (rows (P (units l +ℤ pos (g * 2 ^ 1042))) (N (units l +ℤ pos (g * 2 ^ 1042))) (P (units l)) (N (units l)) (P (int l)) (N (int l)) (P (int d)) (N (int d))
      (P (units d)) (N (units d)) (P (int a)) g (2 ^ 1042) (2 ^ 1074)
      (add_parts (units l) (pos (g * 2 ^ 1042))) (ap P ul ∙ P_sc (2 ^ 1074) (int l)) (ap N ul ∙ N_sc (2 ^ 1074) (int l))
      (ap P (to_units d bd.whole).val ∙ P_sc (2 ^ 1074) (int d)) (ap N (to_units d bd.whole).val ∙ N_sc (2 ^ 1074) (int d))
      refl (mul-le-mul_right (2 ^ 1042) g_low)
      (mul-le-mul_right (2 ^ 1074) (lin (P (int a *ℤ int l)) (N (int a *ℤ int l)) (P (int a) * P (int l)) (P (int a) * N (int l)) (P (int d)) (N (int d)) (times a wa p (int l)) o)))
    where
      lin : (p n pp nn pd nd : ℕ) → p + nn ≡ n + pp → p + nd < pd + n → pp + nd + 1 ≤ pd + nn
      lin p n pp nn pd nd e h = omega arith

      rows : (pv nv pl nl pz nz pd nd pu nu a g G L : ℕ) → pv + nl + 0 ≡ nv + pl + g * G → pl ≡ pz * L → nl ≡ nz * L → pu ≡ pd * L → nu ≡ nd * L
          → L ≡ 2 ^ 32 * G → g * a * G ≤ 2 ^ 32 * G → (a * pz + nd + 1) * L ≤ (pd + a * nz) * L → pv * a + nu ≤ pu + nv * a
      rows pv nv pl nl pz nz pd nd pu nu a g G L e f h i j k m o = let e' = ap (λ (n : ℕ). n * a) (rw (f, h) at e) in rw (i, j) (omega arith)

  -- d short of a * l by one
  short : int d ⊏ int a *ℤ int l → rank (d ⊘ a) ⊑ units l -ℤ pos (g * 2 ^ 1042)
  short o = by_below a wa p d nd (units l -ℤ pos (g * 2 ^ 1042)) (held_less l bl (2 ^ 32) 1042 g refl fine (lit≤ tt))
      (rows (P (units l -ℤ pos (g * 2 ^ 1042))) (N (units l -ℤ pos (g * 2 ^ 1042))) (P (units l)) (N (units l)) (P (int l)) (N (int l)) (P (int d)) (N (int d))
      (P (units d)) (N (units d)) (P (int a)) g (2 ^ 1042) (2 ^ 1074)
      (sub_parts (units l) (pos (g * 2 ^ 1042))) (ap P ul ∙ P_sc (2 ^ 1074) (int l)) (ap N ul ∙ N_sc (2 ^ 1074) (int l))
      (ap P (to_units d bd.whole).val ∙ P_sc (2 ^ 1074) (int d)) (ap N (to_units d bd.whole).val ∙ N_sc (2 ^ 1074) (int d))
      refl (mul-le-mul_right (2 ^ 1042) g_low)
      (mul-le-mul_right (2 ^ 1074) (lin (P (int a *ℤ int l)) (N (int a *ℤ int l)) (P (int a) * P (int l)) (P (int a) * N (int l)) (P (int d)) (N (int d)) (times a wa p (int l)) o)))
    where
      lin : (p n pp nn pd nd : ℕ) → p + nn ≡ n + pp → pd + n < p + nd → pd + nn + 1 ≤ pp + nd
      lin p n pp nn pd nd e h = omega arith

      rows : (pv nv pl nl pz nz pd nd pu nu a g G L : ℕ) → pv + nl + g * G ≡ nv + pl + 0 → pl ≡ pz * L → nl ≡ nz * L → pu ≡ pd * L → nu ≡ nd * L
          → L ≡ 2 ^ 32 * G → g * a * G ≤ 2 ^ 32 * G → (pd + a * nz + 1) * L ≤ (a * pz + nd) * L → pu + nv * a ≤ pv * a + nu
      rows pv nv pl nl pz nz pd nd pu nu a g G L e f h i j k m o = let e' = ap (λ (n : ℕ). n * a) (rw (f, h) at e) in rw (i, j) (omega arith)

  ab : abs a ≡ a
  ab = abs_pos a (whole_num a wa) (pos_units a wa p) (pos_size a wa p)

  self_le : l ≼ l
  self_le = record { le = ⊑→le l l (whole_real l bl.whole) (whole_real l bl.whole) (le_refl (P (rank l) + N (rank l))) }

  decide : (u v : ℤ) → (u ⊏ v → ⊥) → v ⊑ u
  decide u v f = go (leb (P v + N u) (P u + N v)) (leb→le (P v + N u) (P u + N v)) (nleb→lt (P v + N u) (P u + N v))
    where
      go : (b : Bool) → (T b → v ⊑ u) → (T (not b) → P u + N v < P v + N u) → v ⊑ u
      go true h k = h tt
      go false h k = absurd (f (k tt))

  pub drop_below : {k : Float} → NonNeg k → ((d ⊘ a) ⊖ (t ⊘ abs a)) ≼ (l ⊖ k) → int d ⊑ int a *ℤ int l
  drop_below {k} hk o = decide (int a *ℤ int l) (int d) (λ c.
      let w = units l +ℤ pos (1 * 2 ^ 1042) in
      let D = d ⊘ a in
      let q = t ⊘ a in
      let up : w ⊑ rank (D ⊖ q) = sub_above D q n_d nq' w (held_more l bl (2 ^ 32) 1042 1 refl (lit≤ tt) (lit≤ tt))
      (room (units l) (units D) (units q) g (2 ^ 1039) (2 ^ 1042) refl g_least
      (subst (λ (z : ℤ). units l +ℤ pos (g * 2 ^ 1042) ⊑ z) (rank_num D n_d) (past c))
      (subst (λ (z : ℤ). z ⊑ pos (3 * (g + 1) * 2 ^ 1039)) (rank_num q nq') q_cap)) in
      let le_l = C.le_trans (subst (λ (z : Float). (D ⊖ (t ⊘ z)) ≼ (l ⊖ k)) ab o) (sub_keeps bl.whole (record { fits = (whole_real l bl.whole).fit }) self_le hk) in
      let dn : rank (D ⊖ q) ⊑ rank l = le→⊑ (D ⊖ q) l (sub_result D q n_d nq').real (whole_real l bl.whole) le_l.le in
      no (units l) (rank (D ⊖ q)) (1 * 2 ^ 1042) (lit< tt) up (subst (λ (z : ℤ). rank (D ⊖ q) ⊑ z) (rank_num l (whole_num l bl.whole)) dn))
    where
      room : (l D q : ℤ) (g H G : ℕ) → G ≡ 8 * H → 3 ≤ g → l +ℤ pos (g * G) ⊑ D → q ⊑ pos (3 * (g + 1) * H) → l +ℤ pos (1 * G) ⊑ D -ℤ q
      room l D q g H G e h k m = let s : 3 * H ≤ g * H = mul-le-mul_right H h in
          sums (P l) (N l) (P D) (N D) (P q) (N q) (P (l +ℤ pos (g * G))) (N (l +ℤ pos (g * G))) (P (l +ℤ pos (1 * G))) (N (l +ℤ pos (1 * G))) (P (D -ℤ q))
          (N (D -ℤ q)) g H G e s (add_parts l (pos (g * G))) (add_parts l (pos (1 * G))) (sub_parts D q) k m
        where
          sums : (pl nl pd nd pq nq pa na pb nb pc nc g H G : ℕ) → G ≡ 8 * H → 3 * H ≤ g * H → pa + nl + 0 ≡ na + pl + g * G → pb + nl + 0 ≡ nb + pl + 1 * G
              → pc + nd + pq ≡ nc + pd + nq → pa + nd ≤ pd + na → pq + 0 ≤ 3 * (g + 1) * H + nq → pb + nc ≤ pc + nb
          sums pl nl pd nd pq nq pa na pb nb pc nc g H G e s a b c k m = let a' = rw e at a in let b' = rw e at b in omega arith

      no : (l r : ℤ) (c : ℕ) → 0 < c → l +ℤ pos c ⊑ r → r ⊑ l → ⊥
      no l r c h k m = omega (arith, add_parts l (pos c))

  pub drop_above : {k : Float} → NonNeg k → (l ⊕ k) ≼ ((d ⊘ a) ⊕ (t ⊘ abs a)) → int a *ℤ int l ⊑ int d
  drop_above {k} hk o = decide (int d) (int a *ℤ int l) (λ c.
      let w = units l -ℤ pos (1 * 2 ^ 1042) in
      let D = d ⊘ a in
      let q = t ⊘ a in
      let dn : rank (D ⊕ q) ⊑ w = sum_below D q n_d nq' w (held_less l bl (2 ^ 32) 1042 1 refl (lit≤ tt) (lit≤ tt))
      (room (units l) (units D) (units q) g (2 ^ 1039) (2 ^ 1042) refl g_least
      (subst (λ (z : ℤ). z ⊑ units l -ℤ pos (g * 2 ^ 1042)) (rank_num D n_d) (short c))
      (subst (λ (z : ℤ). z ⊑ pos (3 * (g + 1) * 2 ^ 1039)) (rank_num q nq') q_cap)) in
      let le_l = C.le_trans (add_keeps bl.whole (record { fits = (whole_real l bl.whole).fit }) self_le hk) (subst (λ (z : Float). (l ⊕ k) ≼ (D ⊕ (t ⊘ z))) ab o) in
      let up : rank l ⊑ rank (D ⊕ q) = le→⊑ l (D ⊕ q) (whole_real l bl.whole) (sum_result D q n_d nq').real le_l.le in
      no (units l) (rank (D ⊕ q)) (1 * 2 ^ 1042) (lit< tt) dn (subst (λ (z : ℤ). z ⊑ rank (D ⊕ q)) (rank_num l (whole_num l bl.whole)) up))
    where
      room : (l D q : ℤ) (g H G : ℕ) → G ≡ 8 * H → 3 ≤ g → D ⊑ l -ℤ pos (g * G) → q ⊑ pos (3 * (g + 1) * H) → D +ℤ q ⊑ l -ℤ pos (1 * G)
      room l D q g H G e h k m = let s : 3 * H ≤ g * H = mul-le-mul_right H h in
          sums (P l) (N l) (P D) (N D) (P q) (N q) (P (l -ℤ pos (g * G))) (N (l -ℤ pos (g * G))) (P (l -ℤ pos (1 * G))) (N (l -ℤ pos (1 * G))) (P (D +ℤ q))
          (N (D +ℤ q)) g H G e s (sub_parts l (pos (g * G))) (sub_parts l (pos (1 * G))) (add_parts D q) k m
        where
          sums : (pl nl pd nd pq nq pa na pb nb pc nc g H G : ℕ) → G ≡ 8 * H → 3 * H ≤ g * H → pa + nl + g * G ≡ na + pl + 0 → pb + nl + 1 * G ≡ nb + pl + 0
              → pc + nd + nq ≡ nc + pd + pq → pd + na ≤ pa + nd → pq + 0 ≤ 3 * (g + 1) * H + nq → pc + nb ≤ pb + nc
          sums pl nl pd nd pq nq pa na pb nb pc nc g H G e s a b c k m = let a' = rw e at a in let b' = rw e at b in omega arith

      no : (l r : ℤ) (c : ℕ) → 0 < c → r ⊑ l -ℤ pos c → l ⊑ r → ⊥
      no l r c h k m = omega (arith, sub_parts l (pos c))

module _ {d a l t : Float} (bd : Bounded (2 ^ 53) d) (ba : Bounded (2 ^ 15) a) (bl : Bounded (2 ^ 20) l) (p : int a ⊏ pos 0) (ht : Tol t) where
  pub drop_below_neg : {k : Float} → NonNeg k → ((d ⊘ a) ⊖ (t ⊘ abs a)) ≼ (l ⊖ k) → int a *ℤ int l ⊑ int d
  drop_below_neg {k} hk o = back_le bd ba p (int l) (drop_below (neg_bounded (2 ^ 53) d bd) (neg_bounded (2 ^ 15) a ba) bl (turned_a bd ba p) ht hk
      (subst (λ (z : Float). (z ⊖ (t ⊘ abs (neg a))) ≼ (l ⊖ k)) (sym (turned bd ba p)) (subst (λ (z : Float). ((d ⊘ a) ⊖ (t ⊘ z)) ≼ (l ⊖ k)) (sym (abs_neg a)) o)))

  pub drop_above_neg : {k : Float} → NonNeg k → (l ⊕ k) ≼ ((d ⊘ a) ⊕ (t ⊘ abs a)) → int d ⊑ int a *ℤ int l
  drop_above_neg {k} hk o = back_ge bd ba p (int l) (drop_above (neg_bounded (2 ^ 53) d bd) (neg_bounded (2 ^ 15) a ba) bl (turned_a bd ba p) ht hk
      (subst (λ (z : Float). (l ⊕ k) ≼ (z ⊕ (t ⊘ abs (neg a)))) (sym (turned bd ba p)) (subst (λ (z : Float). (l ⊕ k) ≼ ((d ⊘ a) ⊕ (t ⊘ z))) (sym (abs_neg a)) o)))
