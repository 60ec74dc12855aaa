-- WHERE NOTHING IS LOST. In units of 2 ^ -1074, `units x` is the integer that a finite float x stands for and `mags x` its size:
-- two_sum_lem (Knuth)   hi is the rounded sum and hi + lo = a + b, for all numbers a and b, in any order, whose rounded sum is a number, b being neither the largest number nor its negative;
-- split (Dekker)    hi + lo = a, each half of at most 26 bits, for every a of which 2 ^ 27 + 1 times is within the largest number (`Splits`), so up to 2 ^ 996
--                   and almost to 2 ^ 997, subnormal numbers and zeros among them: there is no condition on underflow;
-- two_product_lem (Dekker)   hi is the rounded product and hi + lo = a * b, for such a and b and a product that is 0 or at least 2 ^ -969 in size, where neither it
--                        nor the product of the high halves overflows (`two_product_finite`):
--                    so for every product up to 2 ^ 1024 - 2 ^ 999 (`two_product_exact`), and 998 would not do for 999 (`two_product_sliver`).
-- `two_sum_largest`, `split_overflow`, `two_product_underflow` and `two_product_overflow` are numbers past these conditions at which it is false.
use Rattle.std.specs.Prelude.{◌≡◌, ◌⊎◌, ℕ, suc, ◌+◌, ◌-◌, ◌*◌, ◌^◌, ◌≤◌, ◌<◌, Bool, true, false, not, T, eqb, leb, ℤ, pos, negsuc, neg_ℤ, ◌+ℤ◌, ◌-ℤ◌, ◌*ℤ◌, Float}
use Rattle.std.proofs.Math.Path.{refl}
use Rattle.std.proofs.Common.{sym, ap, ◌∙◌, subst, inl, inr, zero-le, le_refl, le_trans, le_of_eq, le_of_lt, lt_of_lt_of_le, lt_of_le_of_lt, not-le_of_lt, eq-or-lt_of_le, eq-zero-or-pos, mul-one}
use Rattle.std.proofs.Common.{one-mul, zero-mul, mul-zero, mul_comm, mul_assoc, mul-pos, mul-le-mul_right, mul-le-mul_left, mul-le-mul, le_of_mul-le-mul_right}
use Rattle.std.proofs.Common.{mul-lt-mul_of_pos_right, arith, leb→le, lit≤, lit<, pow-add, pow_pos, pow_mono}
use Rattle.std.proofs.Math.Nat.{eq_of_mul-eq-mul_right}
use Rattle.std.proofs.Math.Dec.{nleb→lt}
use Rattle.std.specs.Float.{nan, inf, binary64}
use Rattle.std.specs.Float.Ieee.{add, sub, mul, round, unlike, of_bits, size}
use Rattle.std.specs.Float.Ieee.Digits.{back}
use Rattle.floats.specs.Near.{near, Rep, near_fix, rep_scaled}
use Rattle.floats.specs.Zed.{P, N, A, side, ext, add_parts, sub_parts}
use Rattle.floats.specs.Signed.{rz, near_exact, rep_zero, A_rz}
use Rattle.floats.specs.Error.{rz_off}
use Rattle.floats.specs.Next.{gap, next_le, grid}
use Rattle.floats.specs.Value.{mags, sign, units, signed, signed_A, size_of, Num, TOP, mags_rep}
use Rattle.floats.specs.Value.{sub_units, sub_num, sub_finite, mul_units, mul_num, mul_finite}
use Rattle.floats.specs.Product.{units_is}
use Rattle.floats.specs.Num.{◌⊕◌, ◌⊖◌, ◌⊗◌, MAX}
use Rattle.cdouble.specs.Dekker.{factor, SplitOf, Splits, split_floats}
use Rattle.cdouble.specs.Double.{two_sum, split, two_product, FACTOR}
use Rattle.cdouble.specs.Exact.{ExactProduct, ExactSplit, Full, Minus, Short, Zero}

-- a number below the largest is at least one of its last places below
pub below_largest : (n : ℕ) → Rep n → n < TOP → n + 2 * 2 ^ 2044 ≤ TOP
below_largest n R h = go (leb n ((2 ^ 53 - 2) * 2 ^ 2045)) (leb→le n ((2 ^ 53 - 2) * 2 ^ 2045)) (nleb→lt n ((2 ^ 53 - 2) * 2 ^ 2045))
  where
    next : (2 ^ 53 - 2) * 2 ^ 2045 + gap ((2 ^ 53 - 2) * 2 ^ 2045) ≡ TOP
    next = unfold gap size in refl

    go : (b : Bool) → (T b → n ≤ (2 ^ 53 - 2) * 2 ^ 2045) → (T (not b) → (2 ^ 53 - 2) * 2 ^ 2045 < n) → n + 2 * 2 ^ 2044 ≤ TOP
    go true a b = le_trans (more n ((2 ^ 53 - 2) * 2 ^ 2045) (2 * 2 ^ 2044) (a tt)) (lit≤ tt)
      where
        more : (n m k : ℕ) → n ≤ m → n + k ≤ m + k
        more n m k h = omega arith
    go false a b = absurd (not-le_of_lt h (le_trans (le_of_eq (sym next)) (next_le ((2 ^ 53 - 2) * 2 ^ 2045) n (rep_scaled (2 ^ 53 - 2) 2045 (lit≤ tt)) R (b tt))))

pub minus : (x y : Float) → Num x → Num y → A (units x -ℤ units y) ≤ TOP → Minus x y
minus x y nx ny h =
    let f = sub_finite x y nx ny h in
    let e = sub_units x y nx ny f in
    record { num = sub_num x y f; is = e; off = subst (λ (z : ℤ). A (z -ℤ (units x -ℤ units y)) ≤ 2 ^ 2044) (sym e) (rz_off (units x -ℤ units y) 2044 (le_trans h (lit≤ tt))) }

pub bound_z : (a b x : ℤ) (E M : ℕ) → A (x -ℤ (a +ℤ b)) ≤ E → A b + 2 * E ≤ M → A (x -ℤ a) ≤ M
bound_z a b x E M h k = omega (arith, sub_parts x (a +ℤ b), add_parts a b, sub_parts x a, side (x -ℤ a))

pub bound_t : (a x z : ℤ) (E M : ℕ) → A (z -ℤ (x -ℤ a)) ≤ E → A a + E ≤ M → A (x -ℤ z) ≤ M
bound_t a x z E M h k = omega (arith, sub_parts z (x -ℤ a), sub_parts x a, sub_parts x z, side (x -ℤ z))

pub bound_same : (a x z : ℤ) (M : ℕ) → z ≡ x -ℤ a → A a ≤ M → A (x -ℤ z) ≤ M
bound_same a x z M e k = omega (arith, ap P e, ap N e, sub_parts x a, sub_parts x z, side (x -ℤ z))

pub bound_u : (a x z t : ℤ) (E : ℕ) → A (z -ℤ (x -ℤ a)) ≤ E → A (t -ℤ (x -ℤ z)) ≤ E → A (a -ℤ t) ≤ 2 * E
bound_u a x z t E h k = omega (arith, sub_parts z (x -ℤ a), sub_parts x a, sub_parts t (x -ℤ z), sub_parts x z, sub_parts a t, side (a -ℤ t))

pub bound_v : (a b x z : ℤ) (E : ℕ) → A (x -ℤ (a +ℤ b)) ≤ E → A (z -ℤ (x -ℤ a)) ≤ E → A (b -ℤ z) ≤ 2 * E
bound_v a b x z E h k = omega (arith, sub_parts x (a +ℤ b), add_parts a b, sub_parts z (x -ℤ a), sub_parts x a, sub_parts b z, side (b -ℤ z))

pub bound_y : (u v p q : ℤ) (E : ℕ) → A (u -ℤ p) ≤ E → A p ≤ 2 * E → A (v -ℤ q) ≤ E → A q ≤ 2 * E → A (u +ℤ v) ≤ 6 * E
bound_y u v p q E h k l m = omega (arith, sub_parts u p, sub_parts v q, add_parts u v, side (u +ℤ v))

-- hi is the rounded sum, always
pub two_sum_high : (a b : Float) → (two_sum a b).hi ≡ a ⊕ b
unfolding two_sum
two_sum_high a b = refl

-- b may not be the largest number: a = -1.5 * 2 ^ 971, 1.5 of its last places, and it have a rounded sum, and yet what is left over is not a number
pub two_sum_largest : (two_sum (of_bits binary64 0xfca8_0000_0000_0000) MAX).lo ≡ nan
unfolding two_sum add sub of_bits round
two_sum_largest = refl

pub zero_units : (x : Float) → mags x ≡ 0 → units x ≡ pos 0
zero_units x e = units_is x ∙ ap (signed (sign x)) e ∙ of (sign x)
  where
    of : (s : Bool) → signed s 0 ≡ pos 0
    of true = refl
    of false = refl

pub zero_mul_r : (u v : Float) → Num u → Zero v → Zero (u ⊗ v)
zero_mul_r u v nu z =
    let e : mags u * mags v ≡ 0 = ap (λ (n : ℕ). mags u * n) z.none ∙ mul-zero (mags u) in
    let f = mul_finite u v nu z.num (le_trans (le_of_eq e) zero-le) in
    record {
      num = mul_num u v f;
      none = sym (size_of (u ⊗ v)) ∙ ap A (mul_units u v nu z.num f ∙ ap (λ (n : ℕ). signed (unlike (sign u) (sign v)) (near n (2 ^ 1074))) e)
          ∙ flat (unlike (sign u) (sign v)) (near 0 (2 ^ 1074)) zero_near;
    }
  where
    zero_near : near 0 (2 ^ 1074) ≡ 0
    zero_near = near_fix 0 (2 ^ 1074) rep_zero (pow_pos 1074)

    flat : (s : Bool) (n : ℕ) → n ≡ 0 → A (signed s n) ≡ 0
    flat true n e = ap (λ (k : ℕ). A (signed true k)) e
    flat false n e = ap (λ (k : ℕ). A (signed false k)) e

pub zero_mul_l : (u v : Float) → Zero u → Num v → Zero (u ⊗ v)
zero_mul_l u v z nv =
    let e : mags u * mags v ≡ 0 = ap (λ (n : ℕ). n * mags v) z.none ∙ zero-mul (mags v) in
    let f = mul_finite u v z.num nv (le_trans (le_of_eq e) zero-le) in
    record {
      num = mul_num u v f;
      none = sym (size_of (u ⊗ v)) ∙ ap A (mul_units u v z.num nv f ∙ ap (λ (n : ℕ). signed (unlike (sign u) (sign v)) (near n (2 ^ 1074))) e) ∙ ap
          (λ (n : ℕ). A (signed (unlike (sign u) (sign v)) n)) (near_fix 0 (2 ^ 1074) rep_zero (pow_pos 1074)) ∙ signed_A (unlike (sign u) (sign v)) 0;
    }

pub zero_minus : (u v : Float) → Zero u → Zero v → Zero (u ⊖ v)
zero_minus u v y z =
    let e : units u -ℤ units v ≡ pos 0 = ap (λ (w : ℤ). w -ℤ units v) (zero_units u y.none) ∙ ap (λ (w : ℤ). pos 0 -ℤ w) (zero_units v z.none) in
    let f = sub_finite u v y.num z.num (le_trans (le_of_eq (ap A e)) zero-le) in
    record { num = sub_num u v f; none = sym (size_of (u ⊖ v)) ∙ ap A (sub_units u v y.num z.num f ∙ ap rz e) ∙ A_rz (pos 0) ∙ near_exact 0 rep_zero }

pub zero_sum : (u v : ℤ) → u ≡ pos 0 → v ≡ pos 0 → u +ℤ v ≡ pos 0
zero_sum u v p q = ap (λ (z : ℤ). z +ℤ v) p ∙ ap (λ (z : ℤ). pos 0 +ℤ z) q

pub short : (n m j : ℕ) → m < 2 ^ 26 → n * 2 ^ 52 ≡ m * 2 ^ j → Short n
short n m j h e = go (leb 52 j) (leb→le 52 j) (nleb→lt 52 j)
  where
    go : (b : Bool) → (T b → 52 ≤ j) → (T (not b) → j < 52) → Short n
    go true a b =
        record {
          m = m;
          j = j - 52;
          small = h;
          is = eq_of_mul-eq-mul_right (2 ^ 52) (pow_pos 52) n (m * 2 ^ (j - 52))
              (e ∙ ap (λ (z : ℕ). m * z) (ap (λ (z : ℕ). 2 ^ z) (sym (back j 52 (a tt))) ∙ pow-add 2 (j - 52) 52) ∙ sym (mul_assoc m (2 ^ (j - 52)) (2 ^ 52)));
        }
    go false a b =
        let le : n ≤ m = le_of_mul-le-mul_right (le_trans (mul-le-mul_left n (pow_mono (le_of_lt (b tt)))) (le_of_eq e)) (pow_pos j) in
        record { m = n; j = 0; small = lt_of_le_of_lt le h; is = sym (mul-one n) }

-- 2 ^ 26 of a power of two is one of another
pub short_le : (n m j : ℕ) → m ≤ 2 ^ 26 → n * 2 ^ 52 ≡ m * 2 ^ j → Short n
short_le n m j h e = elim (eq-or-lt_of_le h) [
  | inl full ↦ short n 1 (26 + j) (lit< tt) (e ∙ ap (λ (z : ℕ). z * 2 ^ j) full ∙ sym (pow-add 2 26 j) ∙ sym (one-mul (2 ^ (26 + j))))
  | inr l ↦ short n m j l e
]

pub full : (n : ℕ) → Rep n → 0 < n → Full n
full n R h =
    let G = grid (n * 2 ^ 52) (record {
      m = R.m;
      j = R.j + 52;
      small = R.small;
      is = ap (λ (z : ℕ). z * 2 ^ 52) R.is ∙ mul_assoc R.m (2 ^ R.j) (2 ^ 52) ∙ ap (λ (z : ℕ). R.m * z) (sym (pow-add 2 R.j 52));
    }) in
    record {
      q = G.q;
      j = size (n * 2 ^ 52) - 53;
      hi = G.few;
      is = G.is;
      lo = elim (eq-zero-or-pos (size (n * 2 ^ 52) - 53)) [
        | inl z ↦ le_trans (le_trans (le_of_eq (sym (one-mul (2 ^ 52)))) (mul-le-mul_right (2 ^ 52) h)) (le_of_eq (G.is ∙ ap (λ (k : ℕ). G.q * 2 ^ k) z ∙ mul-one G.q))
        | inr k ↦ G.full k
      ];
    }

pub zero_split : (a : Float) → Zero a → (c : Float) → Zero c → Zero (c ⊖ (c ⊖ a)) × Zero (a ⊖ (c ⊖ (c ⊖ a)))
zero_split a z c k = let x = zero_minus c (c ⊖ a) k (zero_minus c a k z) in (x, zero_minus a (c ⊖ (c ⊖ a)) z x)

pub split_zero : (a : Float) → Zero a → Zero (split a).hi × Zero (split a).lo
unfolding split
split_zero a z = zero_split a z (FACTOR ⊗ a) (zero_mul_r FACTOR a factor.num z)

pub split_full : (a : Float) → Num a → (F : Full (mags a)) → Splits a → SplitOf a F.q F.j (split a).hi (split a).lo
unfolding split
split_full a na F cap = split_floats a na F.q F.j F.lo F.hi F.is cap

pub zero_short : (n : ℕ) → n ≡ 0 → Short n
zero_short n e = record { m = 0; j = 0; small = lit< tt; is = e }

pub split_exact : (a : Float) → Num a → Splits a → ExactSplit a
split_exact a na cap = elim (eq-zero-or-pos (mags a)) [
  | inl z ↦
      let (x, y) = split_zero a (record { num = na; none = z }) in
      record {
        high_num = x.num;
        low_num = y.num;
        exact = zero_sum (units (split a).hi) (units (split a).lo) (zero_units (split a).hi x.none) (zero_units (split a).lo y.none) ∙ sym (zero_units a z);
        high_short = zero_short (mags (split a).hi) x.none;
        low_short = zero_short (mags (split a).lo) y.none;
        high_close = le_trans (le_of_eq (ap (λ (n : ℕ). 2 ^ 26 * n) x.none)) zero-le;
      }
  | inr p ↦
      let F = full (mags a) (mags_rep a na) p in
      let S = split_full a na F cap in
      record {
        high_num = S.high_num;
        low_num = S.low_num;
        exact = ap (λ (z : ℤ). units (split a).hi +ℤ z) S.exact ∙ rejoin (units (split a).hi) (units a);
        high_short = short_le (mags (split a).hi) S.top (27 + F.j) S.top_small (S.high ∙ mul_assoc S.top (2 ^ 27) (2 ^ F.j) ∙ ap (λ (z : ℕ). S.top * z) (sym (pow-add 2 27 F.j)));
        low_short = short_le (mags (split a).lo) S.rest F.j S.rest_small S.low;
        high_close = close (mags (split a).hi) (mags a) F.q (S.top * 2 ^ 27) (2 ^ F.j) F.lo S.close S.high F.is;
      }
]
  where
    rejoin : (x a : ℤ) → x +ℤ (a -ℤ x) ≡ a
    rejoin x a = ext (x +ℤ (a -ℤ x)) a (omega (arith, add_parts x (a -ℤ x), sub_parts a x))

    close : (x n q t L : ℕ) → 2 ^ 52 ≤ q → t ≤ q + 2 ^ 26 → x * 2 ^ 52 ≡ t * L → n * 2 ^ 52 ≡ q * L → 2 ^ 26 * x ≤ (2 ^ 26 + 1) * n
    close x n q t L l h ex en =
        le_of_mul-le-mul_right (le_trans (le_of_eq (mul_assoc (2 ^ 26) x (2 ^ 52) ∙ ap (λ (z : ℕ). 2 ^ 26 * z) ex ∙ sym (mul_assoc (2 ^ 26) t L)))
        (le_trans (mul-le-mul_right L (part q t l h)) (le_of_eq (mul_assoc (2 ^ 26 + 1) q L ∙ ap (λ (z : ℕ). (2 ^ 26 + 1) * z) (sym en) ∙ sym (mul_assoc (2 ^ 26 + 1) n (2 ^ 52)))))) (pow_pos 52)
      where
        part : (q t : ℕ) → 2 ^ 52 ≤ q → t ≤ q + 2 ^ 26 → 2 ^ 26 * t ≤ (2 ^ 26 + 1) * q
        part q t l h = omega arith

pub high_is : (a b : Float) → (two_product a b).hi ≡ a ⊗ b
unfolding two_product
high_is a b = refl

-- of the parts: one of the factors is a zero, so each of its halves is
pub product_zero : (a b : Float) → Num a → Num b → (a1 a2 b1 b2 : Float) → Zero (a ⊗ b) → Zero (a1 ⊗ b1) → Zero (a2 ⊗ b1) → Zero (a1 ⊗ b2) → Zero (a2 ⊗ b2)
    → Zero (a2 ⊗ b2 ⊖ (((a ⊗ b ⊖ a1 ⊗ b1) ⊖ a2 ⊗ b1) ⊖ a1 ⊗ b2))
product_zero a b na nb a1 a2 b1 b2 x p11 p21 p12 p22 =
    zero_minus (a2 ⊗ b2) (((a ⊗ b ⊖ a1 ⊗ b1) ⊖ a2 ⊗ b1) ⊖ a1 ⊗ b2) p22
    (zero_minus ((a ⊗ b ⊖ a1 ⊗ b1) ⊖ a2 ⊗ b1) (a1 ⊗ b2) (zero_minus (a ⊗ b ⊖ a1 ⊗ b1) (a2 ⊗ b1) (zero_minus (a ⊗ b) (a1 ⊗ b1) x p11) p21) p12)

pub low_zero : (a b : Float) → Num a → Num b → Splits a → Splits b → Zero a ⊎ Zero b → Zero (two_product a b).lo
unfolding two_product
low_zero a b na nb ca cb (inl z) =
    let (x, y) = split_zero a z in
    let S = split_exact b nb cb in
    product_zero a b na nb (split a).hi (split a).lo (split b).hi (split b).lo (zero_mul_l a b z nb)
    (zero_mul_l (split a).hi (split b).hi x S.high_num) (zero_mul_l (split a).lo (split b).hi y S.high_num)
    (zero_mul_l (split a).hi (split b).lo x S.low_num) (zero_mul_l (split a).lo (split b).lo y S.low_num)
low_zero a b na nb ca cb (inr z) =
    let (x, y) = split_zero b z in
    let S = split_exact a na ca in
    product_zero a b na nb (split a).hi (split a).lo (split b).hi (split b).lo (zero_mul_r a b na z)
    (zero_mul_r (split a).hi (split b).hi S.high_num x) (zero_mul_r (split a).lo (split b).hi S.low_num x)
    (zero_mul_r (split a).hi (split b).lo S.high_num y) (zero_mul_r (split a).lo (split b).lo S.low_num y)

pub zero_product : (a b : Float) → Num a → Num b → Splits a → Splits b → Zero a ⊎ Zero b → ExactProduct a b
zero_product a b na nb ca cb z =
    let x : Zero (a ⊗ b) = elim z [ inl k ↦ zero_mul_l a b k nb | inr k ↦ zero_mul_r a b na k ] in
    let y = low_zero a b na nb ca cb z in
    let h = high_is a b in
    record {
      high = h;
      high_num = subst Num (sym h) x.num;
      low_num = y.num;
      exact = ap (λ (w : ℤ). w *ℤ pos (2 ^ 1074)) (zero_sum (units (two_product a b).hi) (units (two_product a b).lo)
          (ap units h ∙ zero_units (a ⊗ b) x.none) (zero_units (two_product a b).lo y.none))
          ∙ sym (elim z [ inl k ↦ ap (λ (w : ℤ). w *ℤ units b) (zero_units a k.none) ∙ left (units b) | inr k ↦ ap (λ (w : ℤ). units a *ℤ w) (zero_units b k.none) ∙ right (units a) ]);
    }
  where
    left : (w : ℤ) → pos 0 *ℤ w ≡ pos 0
    left (pos n) = ap pos (zero-mul n)
    left (negsuc n) = ap (λ (k : ℕ). neg_ℤ (pos k)) (zero-mul (suc n))

    right : (w : ℤ) → w *ℤ pos 0 ≡ pos 0
    right (pos n) = ap pos (mul-zero n)
    right (negsuc n) = ap (λ (k : ℕ). neg_ℤ (pos k)) (mul-zero (suc n))

-- the exponents leave room: nothing of the product is below the unit
pub room : (m n : ℕ) (F : Full m) (G : Full n) → 2 ^ 1179 ≤ m * n → 1178 ≤ F.j + G.j
room m n F G h = go (leb 1178 (F.j + G.j)) (leb→le 1178 (F.j + G.j)) (nleb→lt 1178 (F.j + G.j))
  where
    swap : (m n a b : ℕ) → m * n * (a * b) ≡ m * a * (n * b)
    swap m n a b = omega arith

    up : (k : ℕ) → k < 1178 → 106 + k ≤ 1283
    up k h = omega arith

    pow_sum : (a b : ℕ) → 2 ^ 53 * 2 ^ a * (2 ^ 53 * 2 ^ b) ≡ 2 ^ (106 + (a + b))
    pow_sum a b = sym (swap (2 ^ 53) (2 ^ 53) (2 ^ a) (2 ^ b)) ∙ ap (λ (z : ℕ). 2 ^ 106 * z) (sym (pow-add 2 a b)) ∙ sym (pow-add 2 106 (a + b))

    go : (t : Bool) → (T t → 1178 ≤ F.j + G.j) → (T (not t) → F.j + G.j < 1178) → 1178 ≤ F.j + G.j
    go true p q = p tt
    go false p q =
        let less : m * n * (2 ^ 52 * 2 ^ 52) < 2 ^ (106 + (F.j + G.j)) =
        lt_of_le_of_lt (le_of_eq (swap m n (2 ^ 52) (2 ^ 52) ∙ ap (λ (z : ℕ). z * (n * 2 ^ 52)) F.is ∙ ap (λ (z : ℕ). F.q * 2 ^ F.j * z) G.is))
        (lt_of_lt_of_le (product_lt F.q G.q (2 ^ F.j) (2 ^ G.j) F.hi G.hi (pow_pos F.j) (pow_pos G.j)) (le_of_eq (pow_sum F.j G.j))) in
        absurd (not-le_of_lt (lt_of_lt_of_le less (pow_mono (up (F.j + G.j) (q tt)))) (le_trans (le_of_eq (pow-add 2 1179 104)) (mul-le-mul_right (2 ^ 52 * 2 ^ 52) h)))
      where
        product_lt : (q r a b : ℕ) → q < 2 ^ 53 → r < 2 ^ 53 → 0 < a → 0 < b → q * a * (r * b) < 2 ^ 53 * a * (2 ^ 53 * b)
        product_lt q r a b hq hr pa pb =
            lt_of_le_of_lt (le_of_eq (swap_in q r a b))
            (lt_of_lt_of_le (mul-lt-mul_of_pos_right (lt_of_le_of_lt (mul-le-mul (le_of_lt hq) (le_refl r)) (mul_lt (2 ^ 53) r hr)) (mul-pos pa pb))
            (le_of_eq (sym (swap_in (2 ^ 53) (2 ^ 53) a b))))
          where
            swap_in : (q r a b : ℕ) → q * a * (r * b) ≡ q * r * (a * b)
            swap_in q r a b = omega arith

            mul_lt : (k r : ℕ) → r < 2 ^ 53 → 2 ^ 53 * r < 2 ^ 53 * 2 ^ 53
            mul_lt k r h = omega arith

-- nothing overflows up to 2 ^ 1024 - 2 ^ 999: the high halves add to the product a part in 2 ^ 25 of it, and a little
pub most : (m n x y c : ℕ) → 2 ^ 26 * x ≤ (2 ^ 26 + 1) * m → 2 ^ 26 * y ≤ (2 ^ 26 + 1) * n → m * n + 2 ^ 28 * c ≤ 2 ^ 53 * c → x * y ≤ (2 ^ 53 - 1) * c
most m n x y c h k hi =
    let p = (2 ^ 26 + 1) * (2 ^ 26 + 1) in
    let up : 2 ^ 52 * (x * y) ≤ p * (m * n) = le_trans (le_of_eq (swap (2 ^ 26) x (2 ^ 26) y)) (le_trans (mul-le-mul h k) (le_of_eq (sym (swap (2 ^ 26 + 1) m (2 ^ 26 + 1) n)))) in
    let down : p * (m * n) ≤ 2 ^ 52 * (2 ^ 53 - 1) * c = le_trans (mul-le-mul_left p (less (m * n) c hi))
    (le_trans (le_of_eq (sym (mul_assoc p (2 ^ 53 - 2 ^ 28) c))) (mul-le-mul_right c (lit≤ tt))) in
    le_of_mul-le-mul_right (le_trans (le_of_eq (mul_comm (x * y) (2 ^ 52)))
    (le_trans up (le_trans down (le_of_eq (mul_assoc (2 ^ 52) (2 ^ 53 - 1) c ∙ mul_comm (2 ^ 52) ((2 ^ 53 - 1) * c)))))) (pow_pos 52)
  where
    swap : (a m b n : ℕ) → a * b * (m * n) ≡ a * m * (b * n)
    swap a m b n = omega arith

    less : (w c : ℕ) → w + 2 ^ 28 * c ≤ 2 ^ 53 * c → w ≤ (2 ^ 53 - 2 ^ 28) * c
    less w c h = omega arith

-- ---- past the conditions
-- 2 ^ 997 times the factor is past the largest number
pub split_overflow : (split (of_bits binary64 0x7e40_0000_0000_0000)).hi ≡ nan
unfolding split add sub mul of_bits round
split_overflow = refl

-- (2 ^ 53 - 1) * 2 ^ -538 times twice that is just below 2 ^ -969, and its last digit, of 2 ^ -1075, is lost
pub two_product_underflow :
    let a = of_bits binary64 0x219f_ffff_ffff_ffff in let b = of_bits binary64 0x21af_ffff_ffff_ffff in let p = two_product a b in
    eqb (P ((units p.hi +ℤ units p.lo) *ℤ pos (2 ^ 1074))) (P (units a *ℤ units b)) ≡ false
unfolding two_product split add sub mul of_bits round units mags sign
two_product_underflow = refl

-- the largest number below 2 ^ 512, squared: its high half is 2 ^ 512, the square of which overflows
pub two_product_overflow : let a = of_bits binary64 0x5fef_ffff_ffff_ffff in let p = two_product a a in (p.hi ≡ of_bits binary64 0x7fef_ffff_ffff_fffe) × (p.lo ≡ inf false)
unfolding two_product split add sub mul of_bits round
two_product_overflow = (refl, refl)

-- a product below 2 ^ 1024 - 2 ^ 998, both of whose high halves are rounded up so far that theirs is past 2 ^ 1024
pub two_product_sliver :
    let a = of_bits binary64 0x5ff0_007f_fc00_0001 in let b = of_bits binary64 0x5fef_ff00_0400_0001 in
    (leb (mags a * mags b + 2 ^ (998 + 2148)) (2 ^ (1024 + 2148)) ≡ true) × ((two_product a b).lo ≡ inf false)
unfolding two_product split add sub mul of_bits round mags
two_product_sliver = (refl, refl)
