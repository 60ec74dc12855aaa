-- SLACKS AND TOLERANCES of farm models: sums, products and quotients of what is not negative are not negative, and what is at most 3/8 stays so.
use Rattle.std.specs.Prelude.{◌≡◌, ◌⊎◌, ℕ, ◌+◌, ◌*◌, ◌^◌, ◌≤◌, ◌<◌, Bool, false, not, T, ℤ, pos, ◌+ℤ◌, ◌-ℤ◌, Float}
use Rattle.std.proofs.Math.Path.{refl}
use Rattle.std.proofs.Common.{sym, ap, ◌∙◌, subst, inl, inr, zero-le, le_trans, le_of_eq, zero-mul, mul-zero, mul-le-mul_right, mul-le-mul_left, lt_irrefl, add-zero, arith, lit≤}
use Rattle.std.proofs.Math.Bool.{true}
use Rattle.std.specs.Float.{nan, inf, fin, binary64}
use Rattle.std.specs.Float.Ieee.{lt, div, of_bits, fits}
use Rattle.floats.specs.Zed.{P, N, ◌⊑◌, ◌⊏◌, side, add_parts, sub_parts, N_neg}
use Rattle.floats.specs.Value.{mags, sign, units, Num}
use Rattle.floats.specs.Product.{pq, nq}
use Rattle.floats.specs.Norm.{Parts, parts_units}
use Rattle.floats.specs.Whole.{sc, P_sc, N_sc}
use Rattle.floats.specs.Order.{Real, num_real, rank, rank_num, nlt→⊑}
use Rattle.floats.proofs.Meaning.{maxf_first, maxf_second}
use Rattle.floats.specs.Ranks as K
use Rattle.floats.specs.Ranks.{quot_above, quot_below, sum_result, sub_result, mul_result, held_of}
use Rattle.floats.specs.Points.{int, Whole, Bounded}
use Rattle.floats.proofs.Points.{to_units, whole_num, units_fin}
use Rattle.floats.specs.WholeRounding.{⅜f, NonNeg, Tol}
use Rattle.floats.proofs.WholeRounding.{zero_rank, real_0, nonneg_real, nonneg_rank, nonneg_of, tol_real, tol_of, tol_num, tol_most}
use Rattle.floats.proofs.WholeRounding.{tol_least, inf_real, nonneg_cases, num_fin, inf_inf, top, zero_held, link, sum_above, sub_below, eighths}
use Rattle.floats.proofs.Quotients.{pos_units, pos_size, by, by_above}
use Rattle.floats.specs.Num.{◌⊕◌, ◌⊖◌, ◌⊗◌, ◌⊘◌, 0f, maxf}

inf_nonneg : NonNeg (inf false)
inf_nonneg = record { held = record { fits = (inf_real false).fit }; low = top real_0 }

pub nonneg_add : {x y : Float} → NonNeg x → NonNeg y → NonNeg (x ⊕ y)
nonneg_add {x} {y} a b = go (nonneg_cases a) (nonneg_cases b)
  where
    go : Num x ⊎ (x ≡ inf false) → Num y ⊎ (y ≡ inf false) → NonNeg (x ⊕ y)
    go (inl n) (inl m) = nonneg_of (sum_result x y n m).real
        (sum_above x y n m (pos 0) zero_held (both (units x) (units y) (subst (λ (z : ℤ). pos 0 ⊑ z) (rank_num x n) (nonneg_rank a))
        (subst (λ (z : ℤ). pos 0 ⊑ z) (rank_num y m) (nonneg_rank b))))
      where
        both : (u v : ℤ) → pos 0 ⊑ u → pos 0 ⊑ v → pos 0 ⊑ u +ℤ v
        both u v h k = omega (arith, add_parts u v)
    go (inl n) (inr e) = subst NonNeg (sym (ap (λ (t : Float). x ⊕ t) e ∙ (num_fin x n false).1)) inf_nonneg
    go (inr e) (inl m) = subst NonNeg (sym (ap (λ (t : Float). t ⊕ y) e ∙ (num_fin y m false).0)) inf_nonneg
    go (inr e) (inr f) = subst NonNeg (sym (ap (λ (t : Float). t ⊕ y) e ∙ ap (λ (t : Float). inf false ⊕ t) f ∙ inf_inf)) inf_nonneg

-- ---- products
none : (z : ℤ) → pos 0 ⊑ z → N z ≡ 0
none z h = omega (arith, side z)

zero_nq : (u v : ℤ) → pos 0 ⊑ u → pos 0 ⊑ v → (nq u v ≡ 0) × (pq u v ≡ P u * P v)
zero_nq u v h k = lin (P u) (N u) (P v) (N v) (none u h) (none v k)
  where
    lin : (p n q m : ℕ) → n ≡ 0 → m ≡ 0 → (p * m + n * q ≡ 0) × (p * q + n * m ≡ p * q)
    lin p n q m e f = rw (e, f) (omega (arith, zero-mul q, mul-zero p), omega (arith, zero-mul m))

pub product_nonneg : (x y : Float) → Num x → Num y → pos 0 ⊑ units x → pos 0 ⊑ units y → NonNeg (x ⊗ y)
product_nonneg x y n m h k =
    let Q = mul_result x y n m in
    nonneg_of Q.real (quot_above (rank (x ⊗ y)) (pos 0) (pq (units x) (units y)) (nq (units x) (units y)) (2 ^ 1074) Q.quot zero_held
    (le_trans (le_of_eq (ap (λ (z : ℕ). 0 * 2 ^ 1074 + z) (zero_nq (units x) (units y) h k).0)) zero-le))

-- a held bound on a product of two that are not negative
pub product_most : (x y : Float) (c : ℕ) → Num x → Num y → pos 0 ⊑ units x → pos 0 ⊑ units y → K.HeldRank (pos c) → P (units x) * P (units y) ≤ c * 2 ^ 1074 → rank (x ⊗ y) ⊑ pos c
product_most x y c n m h k w o =
    let Q = mul_result x y n m in
    let z = zero_nq (units x) (units y) h k in
    quot_below (rank (x ⊗ y)) (pos c) (pq (units x) (units y)) (nq (units x) (units y)) (2 ^ 1074) Q.quot w
    (le_trans (le_of_eq (ap (λ (t : ℕ). t + 0 * 2 ^ 1074) z.1 ∙ add-zero (P (units x) * P (units y))))
    (le_trans o (le_of_eq (sym (add-zero (c * 2 ^ 1074)) ∙ ap (λ (t : ℕ). c * 2 ^ 1074 + t) (sym z.0)))))

pub whole_nonneg : (a : Float) → Whole a → pos 0 ⊑ int a → pos 0 ⊑ units a
whole_nonneg a w h = subst (λ (z : ℤ). pos 0 ⊑ z) (sym (to_units a w).val)
    (at (int a) (2 ^ 1074) (P_sc (2 ^ 1074) (int a)) (N_sc (2 ^ 1074) (int a) ∙ ap (λ (n : ℕ). n * 2 ^ 1074) (none (int a) h) ∙ zero-mul (2 ^ 1074)))
  where
    at : (z : ℤ) (L : ℕ) → P (sc L z) ≡ P z * L → N (sc L z) ≡ 0 → pos 0 ⊑ sc L z
    at z L e f = omega arith

pub nonneg_mul : {a t : Float} → Whole a → pos 0 ⊑ int a → Tol t → NonNeg (a ⊗ t)
nonneg_mul {a} {t} w h ht = product_nonneg a t (whole_num a w) (tol_num ht) (whole_nonneg a w h) (tol_least ht)

-- by a positive whole number
pub nonneg_div : {x a : Float} → NonNeg x → Whole a → pos 0 ⊏ int a → NonNeg (x ⊘ a)
nonneg_div {x} {a} h w p = go (nonneg_cases h)
  where
    at : (z : ℤ) (a : ℕ) → pos 0 ⊑ z → 0 * a + N z ≤ P z + 0 * a
    at z a h = omega (arith, zero-mul a)

    over : (a : Float) → Num a → N (units a) ≡ 0 → 0 < mags a → inf false ⊘ a ≡ inf false
    over nan n e k = absurd n.0
    over (inf s) n e k = absurd n.0
    over (fin false m d) n e k = unfold div in refl
    over (fin true m d) n e k = absurd (lt_irrefl 0 (subst (λ (z : ℕ). 0 < z) (sym (ap N (units_fin true m d) ∙ N_neg (pos (mags (fin true m d)))) ∙ e) k))

    go : Num x ⊎ (x ≡ inf false) → NonNeg (x ⊘ a)
    go (inl n) = nonneg_of (by a w p x n).real (by_above a w p x n (pos 0) zero_held (at (units x) (P (int a)) (subst (λ (z : ℤ). pos 0 ⊑ z) (rank_num x n) (nonneg_rank h))))
    go (inr e) = subst NonNeg (sym (ap (λ (z : Float). z ⊘ a) e ∙ over a (whole_num a w) (pos_units a w p) (pos_size a w p))) inf_nonneg

pub pos_parts : (x : Float) (n : ℕ) → Parts x false n → pos 0 ⊑ units x
pos_parts x n p = subst (λ (z : ℤ). pos 0 ⊑ z) (sym (parts_units x false n p)) zero-le

-- ---- 1e-14 of a magnitude up to 2 ^ 45 is at most 3/8
floor_parts : Parts (of_bits binary64 0x3d06_849b_86a1_2b9b) false (6338253001141147 * 2 ^ 975)
unfolding of_bits mags sign fits
floor_parts = record { num = (tt, tt); sgn = refl; mag = refl }

pub eighths_held : K.HeldRank (pos (3 * 2 ^ 1071))
eighths_held = subst K.HeldRank (rank_num ⅜f eighths.num ∙ parts_units ⅜f false (3 * 2 ^ 1071) eighths) (held_of ⅜f (num_real ⅜f eighths.num))

pub most_units : (t : ℕ) (m : Float) → Bounded t m → P (units m) ≤ t * 2 ^ 1074
most_units t m b = le_trans (le_of_eq (ap P (to_units m b.whole).val ∙ P_sc (2 ^ 1074) (int m))) (mul-le-mul_right (2 ^ 1074) (left (P (int m)) (N (int m)) t b.small))
  where
    left : (p n t : ℕ) → p + n ≤ t → p ≤ t
    left p n t h = omega arith

pub roundoff : {m : Float} → Bounded (2 ^ 45) m → pos 0 ⊑ int m → Tol (of_bits binary64 0x3d06_849b_86a1_2b9b ⊗ m)
roundoff {m} b h =
    let c = of_bits binary64 0x3d06_849b_86a1_2b9b in
    let n = whole_num m b.whole in
    let u = pos_parts c (6338253001141147 * 2 ^ 975) floor_parts in
    let v = whole_nonneg m b.whole h in
    tol_of (nonneg_real (product_nonneg c m floor_parts.num n u v)) (nonneg_rank (product_nonneg c m floor_parts.num n u v))
    (product_most c m (3 * 2 ^ 1071) floor_parts.num n u v eighths_held
    (le_trans (le_of_eq (ap (λ (z : ℤ). P z * P (units m)) (parts_units c false (6338253001141147 * 2 ^ 975) floor_parts)))
    (le_trans (mul-le-mul_left (6338253001141147 * 2 ^ 975) (most_units (2 ^ 45) m b)) (lit≤ tt))))

-- ---- the larger of two tolerances, and what one leaves of another
pub zero_tol : Tol 0f
zero_tol = tol_of real_0 (subst (λ (z : ℤ). pos 0 ⊑ z) (sym zero_rank) zero-le) (subst (λ (z : ℤ). z ⊑ pos (3 * 2 ^ 1071)) (sym zero_rank) zero-le)

pub max_tol : (P : Float → Type 0) (x y : Float) → Real x → P x → P y → P (maxf x y)
max_tol P x y h p q = go (lt x y) refl
  where
    go : (b : Bool) → lt x y ≡ b → P (maxf x y)
    go true e = subst P (sym (maxf_second x y e)) q
    go false e = subst P (sym (maxf_first x y h.real e)) p

pub rest : {x y : Float} → Tol x → Tol y → Tol (maxf (x ⊖ y) 0f)
rest {x} {y} a b = go (lt (x ⊖ y) 0f) refl
  where
    r : Real (x ⊖ y)
    r = (sub_result x y (tol_num a) (tol_num b)).real

    smaller : (u v : ℤ) → pos 0 ⊑ v → u -ℤ v ⊑ u
    smaller u v h = omega (arith, sub_parts u v)

    high : rank (x ⊖ y) ⊑ pos (3 * 2 ^ 1071)
    high = link (rank (x ⊖ y)) (units x) (pos (3 * 2 ^ 1071))
        (sub_below x y (tol_num a) (tol_num b) (units x) (subst K.HeldRank (rank_num x (tol_num a)) (held_of x (tol_real a)))
        (smaller (units x) (units y) (tol_least b))) (tol_most a)

    go : (t : Bool) → lt (x ⊖ y) 0f ≡ t → Tol (maxf (x ⊖ y) 0f)
    go true e = subst Tol (sym (maxf_second (x ⊖ y) 0f e)) zero_tol
    go false e = subst Tol (sym (maxf_first (x ⊖ y) 0f r.real e))
        (tol_of r (subst (λ (z : ℤ). z ⊑ rank (x ⊖ y)) zero_rank (nlt→⊑ (x ⊖ y) 0f r real_0 (subst (λ (t : Bool). T (not t)) (sym e) tt))) high)
