-- WHERE NOTHING IS LOST. In units of 2 ^ -1074, `units x` is the integer that a finite float x stands for and `mags x` its size:
-- two_sum_lem (Knuth)   hi is the rounded sum and hi + lo = a + b, for all numbers a and b, in any order, whose rounded sum is a number, b being neither the largest number nor its negative;
-- split (Dekker)    hi + lo = a, each half of at most 26 bits, for every a of which 2 ^ 27 + 1 times is within the largest number (`Splits`), so up to 2 ^ 996
--                   and almost to 2 ^ 997, subnormal numbers and zeros among them: there is no condition on underflow;
-- two_product_lem (Dekker)   hi is the rounded product and hi + lo = a * b, for such a and b and a product that is 0 or at least 2 ^ -969 in size, where neither it
--                        nor the product of the high halves overflows (`two_product_finite`):
--                    so for every product up to 2 ^ 1024 - 2 ^ 999 (`two_product_exact`), and 998 would not do for 999 (`two_product_sliver`).
-- `two_sum_largest`, `split_overflow`, `two_product_underflow` and `two_product_overflow` are numbers past these conditions at which it is false.
use Rattle.std.specs.Prelude.{◌≡◌, ℕ, ◌+◌, ◌*◌, ◌^◌, ◌≤◌, ◌<◌, T, leb, ℤ, ◌+ℤ◌, ◌-ℤ◌, Float}
use Rattle.std.proofs.Common.{sym, ap, ◌∙◌, subst, le_trans, le_of_eq, lt_of_le_of_lt, arith, leb→le, lit≤}
use Rattle.std.proofs.Math.Dec.{nleb→lt}
use Rattle.std.specs.Float.Ieee.Scale.{finite}
use Rattle.floats.specs.Zed.{A}
use Rattle.floats.specs.Signed.{rz, RepZ, rz_fix, rest_rep, A_rz, either}
use Rattle.floats.specs.Error.{rz_off, below_top}
use Rattle.floats.specs.Value.{mags, units, size_of, Num, TOP, mags_rep, mags_under, units_rep, add_units}
use Rattle.floats.specs.Value.{add_num, sum_finite_lem}
use Rattle.floats.specs.Order.{mags_top}
use Rattle.floats.specs.Num.{◌⊕◌, ◌⊖◌}
use Rattle.cdouble.specs.TwoSum.{two_sum_lem}
use Rattle.cdouble.specs.Double.{two_sum}
use Rattle.cdouble.proofs.Exact.{below_largest, bound_same, bound_t, bound_u, bound_v, bound_y, bound_z, minus}
use Rattle.cdouble.specs.Exact.{ExactSum}

pub two_sum_exact : (a b : Float) → Num a → Num b → T (finite (a ⊕ b)) → mags b < TOP → ExactSum a b
unfolding two_sum
two_sum_exact a b na nb fx hb =
    let E = 2 ^ 2044 in
    let x = a ⊕ b in
    let z = x ⊖ a in
    let nx = add_num a b fx in
    let ex : units x ≡ rz (units a +ℤ units b) = add_units a b na nb fx in
    let s = units a +ℤ units b in
    let offx : A (units x -ℤ s) ≤ E = subst (λ (w : ℤ). A (w -ℤ s) ≤ E) (sym ex)
    (rz_off s 2044 (below_top (A s) (lt_of_le_of_lt (le_of_eq (sym (A_rz s) ∙ ap A (sym ex) ∙ size_of x)) (mags_under x nx)))) in
    let cb : A (units b) + 2 * E ≤ TOP = subst (λ (n : ℕ). n + 2 * E ≤ TOP) (sym (size_of b)) (below_largest (mags b) (mags_rep b nb) hb) in
    let Z = minus x a nx na (bound_z (units a) (units b) (units x) E TOP offx cb) in
    let t_size : A (units x -ℤ units z) ≤ TOP = either (leb (A (units b)) (A (units a)))
    (λ h. bound_same (units a) (units x) (units z) TOP
    (Z.is ∙ rz_fix (units x -ℤ units a) (subst (λ (w : ℤ). RepZ (w -ℤ units a)) (sym ex) (rest_rep (units a) (units b) (units_rep a na) (units_rep b nb) (leb→le (A (units b)) (A (units a)) h))))
    (le_trans (le_of_eq (size_of a)) (mags_top a na)))
    (λ h. bound_t (units a) (units x) (units z) E TOP Z.off (smaller (A (units a)) (A (units b)) E TOP (nleb→lt (A (units b)) (A (units a)) h) cb)) in
    let Tt = minus x z nx Z.num t_size in
    let t = x ⊖ z in
    let u_size = bound_u (units a) (units x) (units z) (units t) E Z.off Tt.off in
    let Uu = minus a t na Tt.num (le_trans u_size (lit≤ tt)) in
    let v_size = bound_v (units a) (units b) (units x) (units z) E offx Z.off in
    let Vv = minus b z nb Z.num (le_trans v_size (lit≤ tt)) in
    let u = a ⊖ t in
    let v = b ⊖ z in
    let fy = sum_finite_lem u v Uu.num Vv.num (le_trans (bound_y (units u) (units v) (units a -ℤ units t) (units b -ℤ units z) E Uu.off u_size Vv.off v_size) (lit≤ tt)) in
    record {
      high_num = nx;
      low_num = add_num u v fy;
      exact = two_sum_lem (units a) (units b) (units x) (units z) (units t) (units u) (units v) (units (u ⊕ v)) (units_rep a na) (units_rep b nb) ex Z.is
          Tt.is Uu.is Vv.is (add_units u v Uu.num Vv.num fy);
    }
  where
    smaller : (x y E M : ℕ) → x < y → y + 2 * E ≤ M → x + E ≤ M
    smaller x y E M h k = omega arith
