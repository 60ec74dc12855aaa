-- WHERE NOTHING IS LOST. In units of 2 ^ -1074, `units x` is the integer that a finite float x stands for and `mags x` its size:
-- two_sum_lem (Knuth)   hi is the rounded sum and hi + lo = a + b, for all numbers a and b, in any order, whose rounded sum is a number, b being neither the largest number nor its negative;
-- split (Dekker)    hi + lo = a, each half of at most 26 bits, for every a of which 2 ^ 27 + 1 times is within the largest number (`Splits`), so up to 2 ^ 996
--                   and almost to 2 ^ 997, subnormal numbers and zeros among them: there is no condition on underflow;
-- two_product_lem (Dekker)   hi is the rounded product and hi + lo = a * b, for such a and b and a product that is 0 or at least 2 ^ -969 in size, where neither it
--                        nor the product of the high halves overflows (`two_product_finite`):
--                    so for every product up to 2 ^ 1024 - 2 ^ 999 (`two_product_exact`), and 998 would not do for 999 (`two_product_sliver`).
-- `two_sum_largest`, `split_overflow`, `two_product_underflow` and `two_product_overflow` are numbers past these conditions at which it is false.
use Rattle.std.specs.Prelude.{◌≡◌, ◌⊎◌, ℕ, ◌+◌, ◌-◌, ◌*◌, ◌^◌, ◌≤◌, ◌<◌, T, ◌+ℤ◌, Float}
use Rattle.std.proofs.Math.Path.{refl}
use Rattle.std.proofs.Common.{sym, subst, inl, inr, eq-zero-or-pos, mul-pos, lt_irrefl, arith}
use Rattle.std.specs.Float.Ieee.Digits.{back}
use Rattle.std.specs.Float.Ieee.Scale.{finite}
use Rattle.floats.specs.Value.{mags, units, Num, mags_rep}
use Rattle.floats.specs.Value.{mul_finite}
use Rattle.floats.specs.Product.{prod_mul}
use Rattle.floats.specs.Num.{◌⊗◌}
use Rattle.cdouble.specs.Dekker.{Splits, two_product_floats, prod_of}
use Rattle.cdouble.specs.Double.{split, two_product}
use Rattle.cdouble.proofs.Exact.{full, most, room, split_exact, split_full, zero_product}
use Rattle.cdouble.specs.Exact.{ExactProduct}

pub full_product : (a b : Float) → Num a → Num b → Splits a → Splits b → T (finite (a ⊗ b)) → T (finite ((split a).hi ⊗ (split b).hi)) → 2 ^ 1179 ≤ mags a * mags b
    → 0 < mags a → 0 < mags b → ExactProduct a b
unfolding two_product
full_product a b na nb ca cb fx f11 lo pa pb =
    let F = full (mags a) (mags_rep a na) pa in
    let G = full (mags b) (mags_rep b nb) pb in
    let g = F.j + G.j - 1178 in
    let ex : F.j + G.j ≡ g + 1178 = sym (back (F.j + G.j) 1178 (room (mags a) (mags b) F G lo)) in
    let S = two_product_floats a b na nb F.q F.j G.q G.j g F.lo F.hi G.lo G.hi F.is G.is ex (split a).hi (split a).lo
    (split b).hi (split b).lo (split_full a na F ca) (split_full b nb G cb) fx f11 in
    record {
      high = refl;
      high_num = S.high_num;
      low_num = S.low_num;
      exact = prod_mul (2 ^ 1074) (units (two_product a b).hi +ℤ units (two_product a b).lo) (units a) (units b)
          (prod_of F.j G.j g ex a b na nb F.q G.q F.is G.is (units (two_product a b).hi +ℤ units (two_product a b).lo) S.exact);
    }

-- short of overflow, of the product and of that of the high halves
pub two_product_finite : (a b : Float) → Num a → Num b → Splits a → Splits b → T (finite (a ⊗ b)) → T (finite ((split a).hi ⊗ (split b).hi))
    → (mags a * mags b ≡ 0) ⊎ (2 ^ 1179 ≤ mags a * mags b) → ExactProduct a b
two_product_finite a b na nb ca cb fx f11 lo = elim (eq-zero-or-pos (mags a)) [
  | inl z ↦ zero_product a b na nb ca cb (inl (record { num = na; none = z }))
  | inr p ↦ elim (eq-zero-or-pos (mags b)) [
    | inl z ↦ zero_product a b na nb ca cb (inr (record { num = nb; none = z }))
    | inr q ↦ elim lo [
      | inl e ↦ absurd (lt_irrefl 0 (subst (λ (n : ℕ). 0 < n) e (mul-pos p q)))
      | inr l ↦ full_product a b na nb ca cb fx f11 l p q
    ]
  ]
]

-- so: the sizes of products in units of 2 ^ -2148
pub two_product_exact : (a b : Float) → Num a → Num b → Splits a → Splits b → mags a * mags b + 2 ^ (999 + 2148) ≤ 2 ^ (1024 + 2148) → (mags a * mags b ≡ 0)
    ⊎ (2 ^ 1179 ≤ mags a * mags b) → ExactProduct a b
two_product_exact a b na nb ca cb hi lo =
    let S = split_exact a na ca in
    let R = split_exact b nb cb in
    two_product_finite a b na nb ca cb
    (mul_finite a b na nb (most (mags a) (mags b) (mags a) (mags b) (2 ^ 3119) (own (mags a)) (own (mags b)) hi))
    (mul_finite (split a).hi (split b).hi S.high_num R.high_num (most (mags a) (mags b) (mags (split a).hi) (mags (split b).hi) (2 ^ 3119) S.high_close R.high_close hi))
    lo
  where
    own : (n : ℕ) → 2 ^ 26 * n ≤ (2 ^ 26 + 1) * n
    own n = omega arith
