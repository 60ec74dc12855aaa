-- A ROW'S TOLERANCE, MARGIN AND BUDGET, the tolerance less the margin, are each from 0 to 3/8, for magnitudes up to 2 ^ 45 and up to 256 terms; so is a bound's tolerance. 1e-14 * 2 ^ 45 is below 3/8.
use Rattle.std.specs.Prelude.{◌≡◌, ℕ, ◌+◌, ◌*◌, ◌^◌, ◌≤◌, Bool, true, false, not, T, ℤ, pos, ◌+ℤ◌, ◌-ℤ◌, Float}
use Rattle.std.proofs.Math.Path.{refl}
use Rattle.std.proofs.Common.{sym, ap, ◌∙◌, subst, zero-le, arith, lit≤, lit<}
use native.Mathlib.Nat.{le_trans, le_of_eq, mul-le-mul_right, mul_comm, add-zero}
use Rattle.std.specs.Float.{binary64}
use Rattle.std.specs.Float.Ieee.{of_int, of_bits, fits, lt}
use Rattle.floats.specs.Zed.{P, A, ◌⊑◌, side, sub_parts}
use Rattle.floats.specs.Value.{mags, sign, units, Num}
use Rattle.floats.specs.Norm.{Parts, parts_units}
use Rattle.floats.specs.Order.{num_real, rank, rank_num, nlt→⊑}
use Rattle.floats.proofs.Meaning.{minf_first, minf_second}
use Rattle.floats.specs.Ranks as K
use Rattle.floats.specs.Ranks.{sub_result, held_of}
use Rattle.floats.specs.Points.{int, Bounded, Is}
use Rattle.floats.proofs.Points.{of_is, add_is, of_units, whole_num, abs_is}
use Rattle.floats.specs.WholeRounding.{NonNeg, Tol}
use Rattle.floats.proofs.WholeRounding.{nonneg_real, nonneg_rank, tol_real, tol_of, tol_num, tol_most, tol_least, small_num, zero_held, link, sub_above, sub_below}
use Rattle.floats.proofs.Slacks.{product_nonneg, product_most, whole_nonneg, roundoff, eighths_held, most_units, max_tol, pos_parts}
use Rattle.floats.specs.Num.{choose, ◌⊕◌, ◌⊖◌, ◌⊗◌, 2f, ½f, abs, is_finite, minf, of_count}
use Rattle.floats.specs.Whole as W
use Rattle.tolerances.specs.Tol.{ROUNDOFF_FLOOR, UNIT_ROUNDOFF, row_tolerance, bound_tolerance, slack_margin, slack_tol}

unit_parts : Parts UNIT_ROUNDOFF false (2 ^ 1021)
unfolding of_bits mags sign fits
unit_parts = record { num = (tt, tt); sgn = refl; mag = refl }

half_parts : Parts ½f false (2 ^ 1073)
unfolding of_bits mags sign fits
half_parts = record { num = (tt, tt); sgn = refl; mag = refl }

two_is : Is 2f (pos 2)
two_is = of_units 2f (pos 2) two_units
  where
    two_parts : Parts 2f false (2 * 2 ^ 1074)
    two_parts = unfold of_bits mags sign fits in record { num = (tt, tt); sgn = refl; mag = refl }

    two_units : W.Is 2f (pos 2)
    two_units = record { num = two_parts.num; val = parts_units 2f false (2 * 2 ^ 1074) two_parts ∙ (unfold W.sc in refl) }

bounded : (t : ℕ) (x : Float) (k : ℤ) → Is x k → A k ≤ t → Bounded t x
bounded t x k i h = record { whole = i.whole; small = le_trans (le_of_eq (ap A i.is)) h }

-- the tolerance at a magnitude
pub row_tol : {t m : Float} → Tol t → Bounded (2 ^ 45) m → pos 0 ⊑ int m → Tol (row_tolerance t m)
unfolding row_tolerance
row_tol {t} {m} a b h = max_tol Tol t (ROUNDOFF_FLOOR ⊗ m) (tol_real a) a (roundoff b h)

-- the count's part of the margin, (n + 2) * 2 ^ -53, is a number and not negative
record Part (x : Float) : Type 0 where
  num : Num x
  low : pos 0 ⊑ units x

part : (n : ℕ) → n ≤ 256 → Part ((of_count n ⊕ 2f) ⊗ UNIT_ROUNDOFF)
unfolding of_count
part n h =
    let i = of_is (pos n) (le_trans (le_of_eq (add-zero n)) (le_trans h (lit≤ tt))) in
    let c = of_int binary64 (pos n) in
    let s = add_is (bounded (2 ^ 53) c (pos n) i (le_trans (le_of_eq (add-zero n)) (le_trans h (lit≤ tt)))) (bounded (2 ^ 53) 2f (pos 2) two_is (lit≤ tt))
    (subst (λ (z : ℤ). A z ≤ 2 ^ 53) (sym (sums c i)) (le_trans (more n h) (lit≤ tt))) in
    let x = c ⊕ 2f in
    let si : Is x (pos (n + 2)) = record { whole = s.whole; is = s.is ∙ sums c i } in
    let nx = whole_num x si.whole in
    let ux = whole_nonneg x si.whole (subst (λ (z : ℤ). pos 0 ⊑ z) (sym si.is) zero-le) in
    let uu = pos_parts UNIT_ROUNDOFF (2 ^ 1021) unit_parts in
    let p = product_nonneg x UNIT_ROUNDOFF nx unit_parts.num ux uu in
    let most = product_most x UNIT_ROUNDOFF (3 * 2 ^ 1071) nx unit_parts.num ux uu eighths_held
    (le_trans (le_of_eq (ap (λ (z : ℤ). P (units x) * P z) (parts_units UNIT_ROUNDOFF false (2 ^ 1021) unit_parts)))
    (le_trans (mul-le-mul_right (2 ^ 1021) (most_units 258 x (bounded 258 x (pos (n + 2)) si (more n h)))) (lit≤ tt))) in
    let t = tol_of (nonneg_real p) (nonneg_rank p) most in
    record { num = tol_num t; low = tol_least t }
  where
    more : (n : ℕ) → n ≤ 256 → n + 2 + 0 ≤ 258
    more n h = omega arith

    sums : (c : Float) → Is c (pos n) → int c +ℤ int 2f ≡ pos (n + 2)
    sums c i = ap (λ (z : ℤ). z +ℤ int 2f) i.is ∙ ap (λ (z : ℤ). pos n +ℤ z) two_is.is

-- the margin: a number from 0 to the tolerance
record Margin (r s : Float) : Type 0 where
  num : Num s
  low : pos 0 ⊑ units s
  high : units s ⊑ units r

margin : (r x : Float) → Tol r → NonNeg x → Margin r (minf x (½f ⊗ r))
margin r x a hx = go (lt h x) refl
  where
    h : Float
    h = ½f ⊗ r

    nr : Num r
    nr = tol_num a

    ph : NonNeg (½f ⊗ r)
    ph = product_nonneg ½f r half_parts.num nr (pos_parts ½f (2 ^ 1073) half_parts) (tol_least a)

    held_r : K.HeldRank (pos (P (units r)))
    held_r = subst K.HeldRank (rank_num r nr ∙ only (units r) (tol_least a)) (held_of r (tol_real a))
      where
        only : (z : ℤ) → pos 0 ⊑ z → z ≡ pos (P z)
        only z h = Rattle.floats.specs.Zed.ext z (pos (P z)) (omega (arith, side z))

    below : rank (½f ⊗ r) ⊑ pos (P (units r))
    below = product_most ½f r (P (units r)) half_parts.num nr (pos_parts ½f (2 ^ 1073) half_parts) (tol_least a) held_r
        (le_trans (le_of_eq (ap (λ (z : ℤ). P z * P (units r)) (parts_units ½f false (2 ^ 1073) half_parts) ∙ mul_comm (2 ^ 1073) (P (units r))))
        (native.Mathlib.Nat.mul-le-mul_left (P (units r)) (lit≤ tt)))

    upto : (z u : ℤ) → pos 0 ⊑ u → z ⊑ pos (P u) → z ⊑ u
    upto z u h k = omega (arith, side u)

    size : (z u : ℤ) (t : ℕ) → pos 0 ⊑ z → z ⊑ u → u ⊑ pos t → A z ≤ t
    size z u t h k l = omega (arith, side z)

    made : (s : Float) → NonNeg s → rank s ⊑ units r → Margin r s
    made s p q =
        let n = small_num s (3 * 2 ^ 1071) (nonneg_real p) (size (rank s) (units r) (3 * 2 ^ 1071) (nonneg_rank p) q (tol_most a)) (lit< tt) in
        record { num = n; low = subst (λ (z : ℤ). pos 0 ⊑ z) (rank_num s n) (nonneg_rank p); high = subst (λ (z : ℤ). z ⊑ units r) (rank_num s n) q }

    go : (b : Bool) → lt (½f ⊗ r) x ≡ b → Margin r (minf x (½f ⊗ r))
    go true e = subst (Margin r) (sym (minf_second x (½f ⊗ r) e)) (made (½f ⊗ r) ph (upto (rank (½f ⊗ r)) (units r) (tol_least a) below))
    go false e = subst (Margin r) (sym (minf_first x (½f ⊗ r) (nonneg_real hx).real e))
        (made x hx (link (rank x) (rank (½f ⊗ r)) (units r) (nlt→⊑ (½f ⊗ r) x (nonneg_real ph) (nonneg_real hx) (subst (λ (t : Bool). T (not t)) (sym e) tt))
        (upto (rank (½f ⊗ r)) (units r) (tol_least a) below)))

margin_of : {t m : Float} (n : ℕ) → n ≤ 256 → Tol t → Bounded (2 ^ 45) m → pos 0 ⊑ int m → Margin (row_tolerance t m) (slack_margin t m n)
unfolding slack_margin
margin_of {t} {m} n h a b o =
    let q = part n h in
    margin (row_tolerance t m) ((of_count n ⊕ 2f) ⊗ UNIT_ROUNDOFF ⊗ m) (row_tol a b o)
    (product_nonneg ((of_count n ⊕ 2f) ⊗ UNIT_ROUNDOFF) m q.num (whole_num m b.whole) q.low (whole_nonneg m b.whole o))

pub budget : {t m : Float} (n : ℕ) → n ≤ 256 → Tol t → Bounded (2 ^ 45) m → pos 0 ⊑ int m → Tol (slack_tol t m n)
unfolding slack_tol
budget {t} {m} n h a b o =
    let r = row_tolerance t m in
    let s = slack_margin t m n in
    let R = row_tol a b o in
    let M = margin_of n h a b o in
    let nr = tol_num R in
    tol_of (sub_result r s nr M.num).real
    (sub_above r s nr M.num (pos 0) zero_held (not_below (units r) (units s) M.high))
    (link (rank (r ⊖ s)) (units r) (pos (3 * 2 ^ 1071)) (sub_below r s nr M.num (units r) (subst K.HeldRank (rank_num r nr) (held_of r (tol_real R)))
    (smaller (units r) (units s) M.low)) (tol_most R))
  where
    not_below : (u v : ℤ) → v ⊑ u → pos 0 ⊑ u -ℤ v
    not_below u v h = omega (arith, sub_parts u v)

    smaller : (u v : ℤ) → pos 0 ⊑ v → u -ℤ v ⊑ u
    smaller u v h = omega (arith, sub_parts u v)

-- the margin itself
pub margin_tol : {t m : Float} (n : ℕ) → n ≤ 256 → Tol t → Bounded (2 ^ 45) m → pos 0 ⊑ int m → Tol (slack_margin t m n)
margin_tol {t} {m} n h a b o =
    let r = row_tolerance t m in
    let s = slack_margin t m n in
    let M = margin_of n h a b o in
    let e = rank_num s M.num in
    tol_of (num_real s M.num) (subst (λ (z : ℤ). pos 0 ⊑ z) (sym e) M.low)
    (link (rank s) (units r) (pos (3 * 2 ^ 1071)) (subst (λ (z : ℤ). z ⊑ units r) (sym e) M.high) (tol_most (row_tol a b o)))

-- the tolerance at a bound
pub bound_tol_lem : {t b : Float} → Tol t → Bounded (2 ^ 45) b → Tol (bound_tolerance t b)
unfolding bound_tolerance
bound_tol_lem {t} {b} a k =
    let i = abs_is k.whole in
    either_one (is_finite b) (row_tol a (bounded (2 ^ 45) (abs b) (pos (A (int b))) i (le_trans (le_of_eq (add-zero (A (int b)))) k.small)) (subst (λ (z : ℤ). pos 0 ⊑ z) (sym i.is) zero-le)) a
  where
    either_one : (c : Bool) {x y : Float} → Tol x → Tol y → Tol (choose c x y)
    either_one true p q = unfold choose in p
    either_one false p q = unfold choose in q
