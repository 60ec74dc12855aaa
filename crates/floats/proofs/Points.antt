-- WHOLE FLOATS AND THEIR ORDER, as a proof about farm models states them: `int x` is the whole number that x is, `x ≼ y` says that x <= y tests true.
-- Sums, differences and products of whole numbers are exact up to 2 ^ 53, tests compare the numbers, and the order of all floats is one.
use Rattle.std.specs.Prelude.{◌≡◌, refl, ℕ, zero, suc, ◌+◌, ◌*◌, ◌/◌, ◌%◌, ◌^◌, ◌≤◌, ◌<◌, Bool, T, eqb, leb, ltb, ℤ, pos, negsuc, ◌+ℤ◌, ◌-ℤ◌, ◌*ℤ◌, Float}
use Rattle.std.proofs.Math.Path.{sym, ap}
use Rattle.std.proofs.Common.{◌∙◌, subst, arith, leb→le, le→leb, ltb→lt, lt→ltb, lit<, pow_pos}
use native.Mathlib.Nat.{le_trans, le_of_eq, lt_of_le_of_lt, mul_right_comm, mul-le-mul_right, mul-lt-mul_of_pos_right, lt_of_mul-lt-mul_right}
use native.Mathlib.Nat.{le_of_mul-le-mul_right, eq_of_mul-eq-mul_right, mul-div_cancel, mul-mod_left, div-add-mod', add-zero}
use Rattle.std.proofs.Math.Bool.{true, false}
use Rattle.std.proofs.Math.Dec.{eqb→eq}
use Rattle.std.specs.Float.{nan, inf}
use Rattle.std.specs.Float.Ieee.{fin, binary64, up, down, fits, lt, le, eq, of_int}
use Rattle.std.specs.Float.Ieee.Fits.{and_i, and_l, and_r, eq→eqb, down_pos, add-fits, sub-fits, mul-fits, div-fits}
use Rattle.floats.specs.Near.{rep_scaled}
use Rattle.floats.specs.Zed.{P, N, A}
use Rattle.floats.specs.Value.{mags, sign, units, signed, signed_A, Num, mags_val, mags_is, lt_units, eq_units, le_units, bool_eq}
use Rattle.floats.specs.Norm.{R, Parts, R_exact, R_round, parts_units}
use Rattle.floats.specs.Whole as W
use Rattle.floats.specs.Whole.{sc, P_sc, N_sc, is_add, is_sub, is_mul}
use Rattle.floats.proofs.Meaning.{signed_whole}
use Rattle.floats.specs.Order.{Real, num_real, rank, rank_num}
use Rattle.floats.specs.Num.{◌⊕◌, ◌⊖◌, ◌⊗◌, ◌⊘◌, abs}
use Rattle.floats.specs.Points.{Bounded, Held, Is, Whole, int, is_whole}

-- ---- whole numbers and their values, by units of 2 ^ -1074
pub units_fin : (s : Bool) (m : ℕ) (e : ℤ) → units (fin s m e) ≡ signed s (mags (fin s m e))
unfolding units sign
units_fin s m e = refl

module _ (s : Bool) (m : ℕ) (e : ℤ) where
  pub whole_units : T (is_whole (fin s m e)) → W.Is (fin s m e) (int (fin s m e))
  unfolding is_whole int
  whole_units t =
      let f = and_l (fits binary64 (fin s m e)) (eqb (m * up e % down e) 0) t in
      let z = eqb→eq (m * up e % down e) 0 (and_r (fits binary64 (fin s m e)) (eqb (m * up e % down e) 0) t) in
      let k = m * up e / down e in
      let a : k * down e ≡ m * up e = sym (add-zero (k * down e)) ∙ ap (λ (r : ℕ). k * down e + r) (sym z) ∙ div-add-mod' (m * up e) (down e) in
      let g : mags (fin s m e) ≡ k * 2 ^ 1074 = mags_is s m e (k * 2 ^ 1074) (ap (λ (w : ℕ). w * 2 ^ 1074) (sym a) ∙ mul_right_comm k (down e) (2 ^ 1074)) in
      record { num = (tt, f); val = units_fin s m e ∙ ap (signed s) g ∙ signed_whole s k (2 ^ 1074) }

  pub units_whole : (k : ℤ) → W.Is (fin s m e) k → Is (fin s m e) k
  unfolding is_whole int
  units_whole k i =
      let x = fin s m e in
      let sz : mags x ≡ A k * 2 ^ 1074 = W.size_is x k i in
      let a : m * up e ≡ A k * down e = eq_of_mul-eq-mul_right (2 ^ 1074) (pow_pos 1074) (m * up e) (A k * down e) (mags_val s m e i.num.1 ∙ ap
      (λ (n : ℕ). n * down e) sz ∙ mul_right_comm (A k) (2 ^ 1074) (down e)) in
      let q : m * up e / down e ≡ A k = ap (λ (n : ℕ). n / down e) a ∙ mul-div_cancel (A k) (down_pos e) in
      let r : m * up e % down e ≡ 0 = ap (λ (n : ℕ). n % down e) a ∙ mul-mod_left (A k) (down e) in
      let u : units x ≡ signed s (mags x) = units_fin s m e in
      record {
        whole = record { whole = and_i (fits binary64 x) (eqb (m * up e % down e) 0) i.num.1 (eq→eqb r) };
        is = ap (signed s) q ∙ W.sc_inj (2 ^ 1074) (signed s (A k)) k (pow_pos 1074) (sym (signed_whole s (A k) (2 ^ 1074)) ∙ ap (signed s) (sym sz) ∙ sym u ∙ i.val);
      }

pub to_units : (x : Float) → Whole x → W.Is x (int x)
to_units nan h = absurd (unfold is_whole in h.whole)
to_units (inf s) h = absurd (unfold is_whole in h.whole)
to_units (fin s m e) h = whole_units s m e h.whole

pub of_units : (x : Float) (k : ℤ) → W.Is x k → Is x k
of_units nan k i = absurd i.num.0
of_units (inf s) k i = absurd i.num.0
of_units (fin s m e) k i = units_whole s m e k i

pub whole_num : (x : Float) → Whole x → Num x
whole_num x h = (to_units x h).num

pub whole_real : (x : Float) → Whole x → Real x
whole_real x h = num_real x (whole_num x h)

pub whole_rank : (x : Float) → Whole x → rank x ≡ sc (2 ^ 1074) (int x)
whole_rank x h = rank_num x (whole_num x h) ∙ (to_units x h).val

-- ---- exact up to 2 ^ 53
pub add_is : {x y : Float} → Bounded (2 ^ 53) x → Bounded (2 ^ 53) y → A (int x +ℤ int y) ≤ 2 ^ 53 → Is (x ⊕ y) (int x +ℤ int y)
add_is {x} {y} a b h = of_units (x ⊕ y) (int x +ℤ int y) (is_add x y (int x) (int y) (to_units x a.whole) (to_units y b.whole) a.small b.small h)

pub sub_is : {x y : Float} → Bounded (2 ^ 53) x → Bounded (2 ^ 53) y → A (int x -ℤ int y) ≤ 2 ^ 53 → Is (x ⊖ y) (int x -ℤ int y)
sub_is {x} {y} a b h = of_units (x ⊖ y) (int x -ℤ int y) (is_sub x y (int x) (int y) (to_units x a.whole) (to_units y b.whole) a.small b.small h)

pub mul_is : {x y : Float} → Bounded (2 ^ 53) x → Bounded (2 ^ 53) y → A (int x *ℤ int y) ≤ 2 ^ 53 → Is (x ⊗ y) (int x *ℤ int y)
mul_is {x} {y} a b h = of_units (x ⊗ y) (int x *ℤ int y) (is_mul x y (int x) (int y) (to_units x a.whole) (to_units y b.whole) a.small b.small
    (le_trans (le_of_eq (sym (W.size_mul (int x) (int y)))) h))

pub of_is : (z : ℤ) → A z ≤ 2 ^ 53 → Is (of_int binary64 z) z
of_is (pos n) h = of_units (of_int binary64 (pos n)) (pos n)
    (subst (λ (x : Float). W.Is x (pos n)) (sym to)
    (record { num = p.num; val = parts_units (R false (n * 2 ^ 1074)) false (n * 2 ^ 1074) p ∙ signed_whole false n (2 ^ 1074) }))
  where
    to : of_int binary64 (pos n) ≡ R false (n * 2 ^ 1074)
    to = unfold of_int in R_round false n

    p : Parts (R false (n * 2 ^ 1074)) false (n * 2 ^ 1074)
    p = let g : n ≤ 2 ^ 53 = le_trans (le_of_eq (sym (add-zero n))) h in R_exact false (n * 2 ^ 1074) (rep_scaled n 1074 g) (lt_of_le_of_lt (mul-le-mul_right (2 ^ 1074) g) (lit< tt))
of_is (negsuc n) h = of_units (of_int binary64 (negsuc n)) (negsuc n)
    (subst (λ (x : Float). W.Is x (negsuc n)) (sym to)
    (record { num = p.num; val = parts_units (R true (suc n * 2 ^ 1074)) true (suc n * 2 ^ 1074) p ∙ signed_whole true (suc n) (2 ^ 1074) }))
  where
    to : of_int binary64 (negsuc n) ≡ R true (suc n * 2 ^ 1074)
    to = unfold of_int in R_round true (suc n)

    p : Parts (R true (suc n * 2 ^ 1074)) true (suc n * 2 ^ 1074)
    p = let g : suc n ≤ 2 ^ 53 = omega arith in R_exact true (suc n * 2 ^ 1074) (rep_scaled (suc n) 1074 g) (lt_of_le_of_lt (mul-le-mul_right (2 ^ 1074) g) (lit< tt))

-- ---- tests compare the numbers
pub scaled : (k l : ℤ) (L : ℕ) → P (sc L k) + N (sc L l) ≡ (P k + N l) * L
scaled k l L = ap (λ (z : ℕ). z + N (sc L l)) (P_sc L k) ∙ ap (λ (z : ℕ). P k * L + z) (N_sc L l) ∙ sym (native.Mathlib.Nat.add-mul (P k) (N l) L)

-- one for all tests that do not mind a common factor
pub by_int : (test : ℕ → ℕ → Bool) → ((a b L : ℕ) → 0 < L → test (a * L) (b * L) ≡ test a b) → (x y : Float) → Whole x → Whole y
    → test (P (units x) + N (units y)) (P (units y) + N (units x)) ≡ test (P (int x) + N (int y)) (P (int y) + N (int x))
by_int test cancel x y a b =
    let i = (to_units x a).val in
    let j = (to_units y b).val in
    ap (λ (u : ℤ). test (P u + N (units y)) (P (units y) + N u)) i ∙ ap (λ (u : ℤ). test (P (sc (2 ^ 1074) (int x)) + N u) (P u + N (sc (2 ^ 1074) (int x)))) j
    ∙ ap (λ (n : ℕ). test n (P (sc (2 ^ 1074) (int y)) + N (sc (2 ^ 1074) (int x)))) (scaled (int x) (int y) (2 ^ 1074)) ∙ ap
    (λ (n : ℕ). test ((P (int x) + N (int y)) * 2 ^ 1074) n) (scaled (int y) (int x) (2 ^ 1074))
    ∙ cancel (P (int x) + N (int y)) (P (int y) + N (int x)) (2 ^ 1074) (pow_pos 1074)

pub lt_is : {x y : Float} → Whole x → Whole y → lt x y ≡ ltb (P (int x) + N (int y)) (P (int y) + N (int x))
lt_is {x} {y} a b = lt_units x y (whole_num x a) (whole_num y b) ∙ by_int ltb cancel x y a b
  where
    cancel : (a b L : ℕ) → 0 < L → ltb (a * L) (b * L) ≡ ltb a b
    cancel a b L h = bool_eq (ltb (a * L) (b * L)) (ltb a b) (λ t. lt→ltb a b (lt_of_mul-lt-mul_right L (ltb→lt (a * L) (b * L) t)))
        (λ t. lt→ltb (a * L) (b * L) (mul-lt-mul_of_pos_right (ltb→lt a b t) h))

pub eq_is : {x y : Float} → Whole x → Whole y → eq x y ≡ eqb (P (int x) + N (int y)) (P (int y) + N (int x))
eq_is {x} {y} a b = eq_units x y (whole_num x a) (whole_num y b) ∙ by_int eqb cancel x y a b
  where
    cancel : (a b L : ℕ) → 0 < L → eqb (a * L) (b * L) ≡ eqb a b
    cancel a b L h = bool_eq (eqb (a * L) (b * L)) (eqb a b) (λ t. eq→eqb (eq_of_mul-eq-mul_right L h a b (eqb→eq (a * L) (b * L) t))) (λ t. eq→eqb (ap (λ (n : ℕ). n * L) (eqb→eq a b t)))

pub le_is : {x y : Float} → Whole x → Whole y → le x y ≡ leb (P (int x) + N (int y)) (P (int y) + N (int x))
le_is {x} {y} a b = le_units x y (whole_num x a) (whole_num y b) ∙ by_int leb cancel x y a b
  where
    cancel : (a b L : ℕ) → 0 < L → leb (a * L) (b * L) ≡ leb a b
    cancel a b L h = bool_eq (leb (a * L) (b * L)) (leb a b) (λ t. le→leb a b (le_of_mul-le-mul_right (leb→le (a * L) (b * L) t) h)) (λ t. le→leb (a * L) (b * L) (mul-le-mul_right L (leb→le a b t)))

-- ---- the magnitude of a whole number
pub abs_whole : (x : Float) → Whole x → Is (abs x) (pos (A (int x)))
unfolding is_whole int abs fits
abs_whole nan h = absurd h.whole
abs_whole (inf s) h = absurd h.whole
abs_whole (fin s zero e) h = record { whole = record { whole = h.whole }; is = ap pos (sym (signed_A s (0 * up e / down e))) }
abs_whole (fin s (suc m) e) h = record { whole = record { whole = h.whole }; is = ap pos (sym (signed_A s (suc m * up e / down e))) }

pub abs_is : {x : Float} → Whole x → Is (abs x) (pos (A (int x)))
abs_is {x} h = abs_whole x h

-- ---- results are floats of the format
pub fits_add : (x y : Float) → Held (x ⊕ y)
fits_add x y = record { fits = add-fits binary64 x y }

pub fits_sub : (x y : Float) → Held (x ⊖ y)
fits_sub x y = record { fits = sub-fits binary64 x y }

pub fits_mul : (x y : Float) → Held (x ⊗ y)
fits_mul x y = record { fits = mul-fits binary64 x y }

pub fits_div : (x y : Float) → Held (x ⊘ y)
fits_div x y = record { fits = div-fits binary64 x y }
