-- WHAT THE HELPERS ARE BY VALUE, after IEEE 754-2019:
-- floor     5.9 roundToIntegralTowardNegative, of a number x: the whole number r with r ≤ x < r + 1, so the greatest not above x, and +0 where it is a zero; an infinity and a NaN
--           stay. `ceil`, TowardPositive, likewise: the least whole number not below x. Each is the mirror of the other, but for a zero's sign;
-- next_up    5.3.1, of all but +∞ and NaN: above x, and no float lies between; `next_down` likewise;
-- maxf, minf   9.6, a NaN loses to a number, and where neither is above the other, two zeros for one, the first stays. `Extremes` has more of these.
use Rattle.std.specs.Prelude.{◌≡◌, ℕ, zero, suc, ◌+◌, ◌-◌, ◌*◌, ◌/◌, ◌^◌, ◌≤◌, ◌<◌, Bool, not, ◌||◌, T, leb, ℤ, pos, ◌+ℤ◌}
use Rattle.std.proofs.Math.Path.{refl, ap}
use Rattle.std.proofs.Common.{sym, ◌∙◌, subst, inl, inr, arith, leb→le, pow_pos}
use native.Mathlib.Nat.{le_refl, le_trans, le_of_eq, le_of_lt, lt_irrefl, lt_of_le_of_lt}
use native.Mathlib.Nat.{not-le_of_lt, eq-or-lt_of_le, mul-pos, zero-lt-suc, lt_of_mul-lt-mul_right, mul-le-mul_right, div-mul-le_self, lt-div-mul-add}
use Rattle.std.proofs.Math.Bool.{true, false, cond}
use Rattle.std.proofs.lemmas.Bool.{false≢true}
use Rattle.std.proofs.Math.Dec.{nleb→lt, eqb→eq, eqb-suc-zero, lit<, lit≤}
use Rattle.std.proofs.Math.IntN.{neg_ℤ}
use lib.Ieee.{Float, nan, inf, fin, binary64, up, down, fits, is_nan, neg, add, sub, of_bits, round, lt, le}
use Rattle.std.specs.Float.Ieee.Fits.{up_pos, neg-fits}
use Rattle.std.specs.Float.Ieee.Scale.{finite}
use Rattle.std.specs.Float.Ieee.Positive.{first_pos}
use Rattle.floats.specs.Near.{Rep, rep_pow}
use Rattle.floats.specs.Zed.{P, N, A, ◌⊑◌, ◌⊏◌, side, ext, P_neg, N_neg, add_parts}
use Rattle.floats.specs.Signed.{rz, rz_fix}
use Rattle.floats.specs.Value.{mags, sign, units, signed, size_of, Num, TOP, mags_is, mags_rep, mags_val, mags_under, add_units, add_num, sum_finite_lem, units_rep}
use Rattle.floats.specs.Product.{units_is}
use Rattle.floats.specs.Norm.{R, Parts, same, R_exact, own_parts, parts_units, neg_round}
use Rattle.floats.specs.Next.{gap, prev, next_le, next_rep, before}
use Rattle.floats.specs.Whole.{sc, P_sc, N_sc, Is}
use Rattle.floats.specs.Num.{choose, ◌⊖◌, 0f, sign_of, trunc_of, away_of, plus_zero, floor, ceil, next_up, next_down, maxf, minf}
use Rattle.floats.specs.Integral.{trunc_parts, away_parts}
use Rattle.floats.specs.Order.{Real, nan_real, num_real, rank, rank_num, rank_rep, mags_top, lt→⊏, ⊏→lt, ⊑→le, neg_real, rank_neg}
use Rattle.floats.specs.Meaning.{BeforeOf, CeilOf, FloorOf, Has, NextOf}
use Rattle.floats.proofs.Facts.{flat, zero_num, zero_parts}

-- k units of 1.0 with a sign, as an integer
pub signed_whole : (s : Bool) (k L : ℕ) → signed s (k * L) ≡ sc L (signed s k)
signed_whole s k L = ext (signed s (k * L)) (sc L (signed s k)) (omega (arith, P_sc L (signed s k), N_sc L (signed s k), parts s))
  where
    parts : (s : Bool) → P (signed s (k * L)) + N (signed s k) * L ≡ P (signed s k) * L + N (signed s (k * L))
    parts false = omega arith
    parts true = omega (arith, P_neg (pos (k * L)), N_neg (pos (k * L)), ap (λ (z : ℕ). z * L) (P_neg (pos k)), ap (λ (z : ℕ). z * L) (N_neg (pos k)))

pub whole_is : (r : Float) (s : Bool) (k : ℕ) → Parts r s (k * 2 ^ 1074) → Is r (signed s k)
whole_is r s k p = record { num = p.num; val = parts_units r s (k * 2 ^ 1074) p ∙ signed_whole s k (2 ^ 1074) }

-- the order of two signed sizes
pub down_order : (u v : ℤ) (X K L : ℕ) → u ≡ pos X → v ≡ pos K → K ≤ X → X < K + L → (v ⊑ u) × (u ⊏ v +ℤ pos L)
down_order u v X K L p q h k = (omega (arith, ap P p, ap N p, ap P q, ap N q), omega (arith, ap P p, ap N p, ap P q, ap N q, add_parts v (pos L)))

pub up_order : (u v : ℤ) (X K L : ℕ) → u ≡ pos X → v ≡ pos K → X ≤ K → K < X + L → (u ⊑ v) × (v ⊏ u +ℤ pos L)
up_order u v X K L p q h k = down_order v u K X L q p h k

pub flip_down : (u v : ℤ) (X K L : ℕ) → u ≡ neg_ℤ (pos X) → v ≡ neg_ℤ (pos K) → X ≤ K → K < X + L → (v ⊑ u) × (u ⊏ v +ℤ pos L)
flip_down u v X K L p q h k = (
  omega (arith, ap P p, ap N p, ap P q, ap N q, P_neg (pos X), N_neg (pos X), P_neg (pos K), N_neg (pos K)),
  omega (arith, ap P p, ap N p, ap P q, ap N q, P_neg (pos X), N_neg (pos X), P_neg (pos K), N_neg (pos K), add_parts v (pos L)),
)

pub sign_is : (x : Float) → sign_of x ≡ sign x
unfolding sign
sign_is nan = refl
sign_is (inf s) = refl
sign_is (fin s m e) = refl

-- ---- a zero without its sign: the same number, and no -0
pub plus_num : (x : Float) → Num x → Num (plus_zero x)
unfolding plus_zero fits
plus_num nan h = absurd h.0
plus_num (inf s) h = absurd h.0
plus_num (fin s zero e) h = (tt, h.1)
plus_num (fin s (suc m) e) h = h

pub mags_pos : (s : Bool) (m : ℕ) (e : ℤ) → T (fits binary64 (fin s (suc m) e)) → 0 < mags (fin s (suc m) e)
mags_pos s m e f = first_pos (mags (fin s (suc m) e)) (down e)
    (subst (λ (z : ℕ). 0 < z) (mags_val s (suc m) e f) (mul-pos (mul-pos (zero-lt-suc m) (up_pos e)) (pow_pos 1074)))

pub no_zero : (s : Bool) (m : ℕ) (e : ℤ) → T (fits binary64 (fin s (suc m) e)) → units (fin s (suc m) e) ≡ pos 0 → ⊥
no_zero s m e f z = lt_irrefl 0 (subst (λ (n : ℕ). 0 < n) (sym (size_of (fin s (suc m) e)) ∙ ap A z) (mags_pos s m e f))

pub plus_sign : (x : Float) → Num x → units (plus_zero x) ≡ pos 0 → sign (plus_zero x) ≡ false
unfolding plus_zero sign
plus_sign nan h z = absurd h.0
plus_sign (inf s) h z = absurd h.0
plus_sign (fin s zero e) h z = refl
plus_sign (fin s (suc m) e) h z = absurd (no_zero s m e h.1 z)

pub plus_units : (x : Float) → units (plus_zero x) ≡ units x
unfolding plus_zero units sign
plus_units nan = refl
plus_units (inf s) = refl
plus_units (fin false zero e) = refl
plus_units (fin true zero e) = ap pos (none false) ∙ ap (λ (n : ℕ). neg_ℤ (pos n)) (sym (none true))
  where
    none : (s : Bool) → mags (fin s zero e) ≡ 0
    none s = mags_is s zero e 0 (omega arith)
plus_units (fin s (suc m) e) = refl

pub plus_is : (r : Float) (k : ℤ) → Is r k → Is (plus_zero r) k
plus_is r k i = record { num = plus_num r i.num; val = plus_units r ∙ i.val }

-- equal numbers are one float, where neither is -0
pub same_units : (x y : Float) → Num x → Num y → (units x ≡ pos 0 → sign x ≡ false) → (units y ≡ pos 0 → sign y ≡ false) → units x ≡ units y → x ≡ y
same_units x y a b p q e = same x y a b (go (sign x) (sign y) refl refl) (sym (size_of x) ∙ ap A e ∙ size_of y)
  where
    none : (u v : ℤ) (X Y : ℕ) → u ≡ neg_ℤ (pos X) → v ≡ pos Y → u ≡ v → u ≡ pos 0
    none u v X Y p q e = ext u (pos 0) (omega (arith, ap P p, ap N p, ap P q, ap N q, ap P e, ap N e, P_neg (pos X), N_neg (pos X)))

    part : (x : Float) (s : Bool) → sign x ≡ s → units x ≡ signed s (mags x)
    part x s e = units_is x ∙ ap (λ (b : Bool). signed b (mags x)) e

    go : (s t : Bool) → sign x ≡ s → sign y ≡ t → sign x ≡ sign y
    go true true f g = f ∙ sym g
    go false false f g = f ∙ sym g
    go true false f g = p (none (units x) (units y) (mags x) (mags y) (part x true f) (part y false g) e) ∙ sym g
    go false true f g = f ∙ sym (q (none (units y) (units x) (mags y) (mags x) (part y true g) (part x false f) (sym e)))

-- ---- floor and ceil
pub pick_floor : (x : Float) (s : Bool) → sign x ≡ s → floor x ≡ plus_zero (cond s (away_of x) (trunc_of x))
unfolding floor
pick_floor x s e = ap (λ (b : Bool). plus_zero (cond b (away_of x) (trunc_of x))) (sign_is x ∙ e)

pub pick_ceil : (x : Float) (s : Bool) → sign x ≡ s → ceil x ≡ plus_zero (cond s (trunc_of x) (away_of x))
unfolding ceil
pick_ceil x s e = ap (λ (b : Bool). plus_zero (cond b (trunc_of x) (away_of x))) (sign_is x ∙ e)

floor_of : (x r : Float) (k : ℤ) → Is r k → units r ⊑ units x → units x ⊏ units r +ℤ pos (2 ^ 1074) → FloorOf x (plus_zero r)
floor_of x r k i l h = record {
  k = k;
  is = plus_is r k i;
  plus = plus_sign r i.num;
  low = subst (λ (u : ℤ). u ⊑ units x) (sym (plus_units r)) l;
  high = subst (λ (u : ℤ). units x ⊏ u +ℤ pos (2 ^ 1074)) (sym (plus_units r)) h;
}

ceil_of : (x r : Float) (k : ℤ) → Is r k → units x ⊑ units r → units r ⊏ units x +ℤ pos (2 ^ 1074) → CeilOf x (plus_zero r)
ceil_of x r k i h l = record {
  k = k;
  is = plus_is r k i;
  plus = plus_sign r i.num;
  high = subst (λ (u : ℤ). units x ⊑ u) (sym (plus_units r)) h;
  low = subst (λ (u : ℤ). u ⊏ units x +ℤ pos (2 ^ 1074)) (sym (plus_units r)) l;
}

pub floor_value : (x : Float) → Num x → FloorOf x (floor x)
floor_value x h = go (sign x) (own_parts x h)
  where
    go : (s : Bool) → Parts x s (mags x) → FloorOf x (floor x)
    go false p =
        let q = trunc_parts x false (mags x) p in
        let k = mags x / 2 ^ 1074 in
        let o = down_order (units x) (units (trunc_of x)) (mags x) (k * 2 ^ 1074) (2 ^ 1074) (parts_units x false (mags x) p)
        (parts_units (trunc_of x) false (k * 2 ^ 1074) q) (div-mul-le_self (mags x) (2 ^ 1074)) (lt-div-mul-add (pow_pos 1074)) in
        subst (FloorOf x) (sym (pick_floor x false p.sgn)) (floor_of x (trunc_of x) (pos k) (whole_is (trunc_of x) false k q) o.0 o.1)
    go true p =
        let a = away_parts x true (mags x) p in
        let o = flip_down (units x) (units (away_of x)) (mags x) (a.k * 2 ^ 1074) (2 ^ 1074) (parts_units x true (mags x) p)
        (parts_units (away_of x) true (a.k * 2 ^ 1074) a.parts) a.low a.high in
        subst (FloorOf x) (sym (pick_floor x true p.sgn))
        (floor_of x (away_of x) (signed true a.k) (whole_is (away_of x) true a.k a.parts) o.0 o.1)

pub ceil_value : (x : Float) → Num x → CeilOf x (ceil x)
ceil_value x h = go (sign x) (own_parts x h)
  where
    go : (s : Bool) → Parts x s (mags x) → CeilOf x (ceil x)
    go false p =
        let a = away_parts x false (mags x) p in
        let o = up_order (units x) (units (away_of x)) (mags x) (a.k * 2 ^ 1074) (2 ^ 1074) (parts_units x false (mags x) p)
        (parts_units (away_of x) false (a.k * 2 ^ 1074) a.parts) a.low a.high in
        subst (CeilOf x) (sym (pick_ceil x false p.sgn)) (ceil_of x (away_of x) (pos a.k) (whole_is (away_of x) false a.k a.parts) o.0 o.1)
    go true p =
        let q = trunc_parts x true (mags x) p in
        let k = mags x / 2 ^ 1074 in
        let o = flip_down (units (trunc_of x)) (units x) (k * 2 ^ 1074) (mags x) (2 ^ 1074) (parts_units (trunc_of x) true (k * 2 ^ 1074) q)
        (parts_units x true (mags x) p) (div-mul-le_self (mags x) (2 ^ 1074)) (lt-div-mul-add (pow_pos 1074)) in
        subst (CeilOf x) (sym (pick_ceil x true p.sgn)) (ceil_of x (trunc_of x) (signed true k) (whole_is (trunc_of x) true k q) o.0 o.1)

-- what is not a number stays
pub floor_nan : floor nan ≡ nan
unfolding floor plus_zero
floor_nan = refl

pub floor_inf : (s : Bool) → floor (inf s) ≡ inf s
unfolding floor plus_zero
floor_inf true = refl
floor_inf false = refl

pub ceil_nan : ceil nan ≡ nan
unfolding ceil plus_zero
ceil_nan = refl

pub ceil_inf : (s : Bool) → ceil (inf s) ≡ inf s
unfolding ceil plus_zero
ceil_inf true = refl
ceil_inf false = refl

-- the mirror: ceil x is -floor(-x), and floor x is -ceil(-x), of every float, but for a zero's sign
turned_zero : (x : Float) → plus_zero (neg (plus_zero x)) ≡ plus_zero (neg x)
unfolding plus_zero neg
turned_zero nan = refl
turned_zero (inf s) = refl
turned_zero (fin s zero e) = refl
turned_zero (fin s (suc m) e) = refl

turned : (s : Bool) (n : ℕ) → plus_zero (round binary64 (not s) n 1) ≡ plus_zero (neg (plus_zero (round binary64 s n 1)))
turned s n = ap plus_zero (sym (neg_round s n 1)) ∙ sym (turned_zero (round binary64 s n 1))

pub ceil_mirror : (x : Float) → ceil x ≡ plus_zero (neg (floor (neg x)))
unfolding floor ceil neg
ceil_mirror nan = unfold plus_zero in refl
ceil_mirror (inf true) = unfold plus_zero in refl
ceil_mirror (inf false) = unfold plus_zero in refl
ceil_mirror (fin true m e) = turned false (m * up e / down e)
ceil_mirror (fin false m e) = turned true ((m * up e + (down e - 1)) / down e)

pub floor_mirror : (x : Float) → floor x ≡ plus_zero (neg (ceil (neg x)))
unfolding floor ceil neg
floor_mirror nan = unfold plus_zero in refl
floor_mirror (inf true) = unfold plus_zero in refl
floor_mirror (inf false) = unfold plus_zero in refl
floor_mirror (fin true m e) = turned false ((m * up e + (down e - 1)) / down e)
floor_mirror (fin false m e) = turned true (m * up e / down e)

-- a difference from 0.0 turns a sign so: of equal numbers it is +0
pub zero_less : (y : Float) → T (fits binary64 y) → 0f ⊖ y ≡ plus_zero (neg y)
zero_less nan f = unfold plus_zero of_bits sub add neg in refl
zero_less (inf true) f = unfold plus_zero of_bits sub add neg in refl
zero_less (inf false) f = unfold plus_zero of_bits sub add neg in refl
zero_less (fin s zero e) f = subst (λ (d : ℤ). 0f ⊖ fin s zero d ≡ plus_zero (neg (fin s zero d))) (sym (flat e (eqb→eq (up e * down e) 1 (unfold fits in f)))) (zeros s)
  where
    zeros : (s : Bool) → 0f ⊖ fin s zero (pos 0) ≡ plus_zero (neg (fin s zero (pos 0)))
    zeros true = unfold plus_zero of_bits sub add neg in refl
    zeros false = unfold plus_zero of_bits sub add neg in refl
zero_less (fin s (suc m) e) f =
    let y = fin s (suc m) e in
    let z = fin (not s) (suc m) e in
    let nz : Num z = (tt, unfold fits in f) in
    let u : units 0f +ℤ units z ≡ units z = ext (units 0f +ℤ units z) (units z) (from (units 0f) (units z) (parts_units 0f false 0 zero_parts)) in
    let fn : T (finite (add binary64 0f z)) = sum_finite_lem 0f z zero_num nz
    (subst (λ (v : ℤ). A v ≤ TOP) (sym u) (le_trans (le_of_eq (size_of z)) (mags_top z nz))) in
    let v : units (add binary64 0f z) ≡ units z = add_units 0f z zero_num nz fn ∙ ap rz u ∙ rz_fix (units z) (units_rep z nz) in
    by_neg (same_units (add binary64 0f z) z (add_num 0f z fn) nz (λ e0. absurd (no_zero (not s) m e nz.1 (sym v ∙ e0))) (λ e0. absurd (no_zero (not s) m e nz.1 e0)) v)
  where
    from : (o v : ℤ) → o ≡ pos 0 → P (o +ℤ v) + N v ≡ P v + N (o +ℤ v)
    from o v p = omega (arith, add_parts o v, ap P p, ap N p)

    by_neg : add binary64 0f (fin (not s) (suc m) e) ≡ fin (not s) (suc m) e → 0f ⊖ fin s (suc m) e ≡ plus_zero (neg (fin s (suc m) e))
    by_neg h = unfold plus_zero sub neg in h

-- so that is how `ceil` is computed
pub ceil_code : (x : Float) → T (fits binary64 x) → 0f ⊖ floor (neg x) ≡ ceil x
ceil_code x f = zero_less (floor (neg x)) (floor_fits (neg x) (neg-fits binary64 x f)) ∙ sym (ceil_mirror x)
  where
    floor_fits : (x : Float) → T (fits binary64 x) → T (fits binary64 (floor x))
    floor_fits nan f = subst (λ (z : Float). T (fits binary64 z)) (sym floor_nan) f
    floor_fits (inf s) f = subst (λ (z : Float). T (fits binary64 z)) (sym (floor_inf s)) f
    floor_fits (fin s m e) f = (floor_value (fin s m e) (tt, f)).is.num.1

-- whole numbers that are less than one apart in one direction are in order
pub tight : (L : ℕ) (k l u v : ℤ) → u ≡ sc L k → v ≡ sc L l → u ⊏ v +ℤ pos L → k ⊑ l
tight L k l u v p q h =
    lin (P k) (N k) (P l) (N l)
    (lt_of_mul-lt-mul_right L (rows (P k) (N k) (P l) (N l) (P u) (N u) (P v) (N v) L (ap P p ∙ P_sc L k) (ap N p ∙ N_sc L k) (ap P q ∙ P_sc L l)
    (ap N q ∙ N_sc L l) (omega (arith, add_parts v (pos L)))))
  where
    rows : (pk nk pl nl pu nu pv nv L : ℕ) → pu ≡ pk * L → nu ≡ nk * L → pv ≡ pl * L → nv ≡ nl * L → pu + nv < pv + nu + L → (pk + nl) * L < suc (pl + nk) * L
    rows pk nk pl nl pu nu pv nv L a b c d h = omega arith

    lin : (pk nk pl nl : ℕ) → pk + nl < suc (pl + nk) → pk + nl ≤ pl + nk
    lin pk nk pl nl h = omega arith

pub sc_mono : (L : ℕ) (k l : ℤ) → k ⊑ l → sc L k ⊑ sc L l
sc_mono L k l h = rows (P k) (N k) (P l) (N l) (P (sc L k)) (N (sc L k)) (P (sc L l)) (N (sc L l)) L (P_sc L k) (N_sc L k) (P_sc L l) (N_sc L l) (mul-le-mul_right L h)
  where
    rows : (pk nk pl nl pu nu pv nv L : ℕ) → pu ≡ pk * L → nu ≡ nk * L → pv ≡ pl * L → nv ≡ nl * L → (pk + nl) * L ≤ (pl + nk) * L → pu + nv ≤ pv + nu
    rows pk nk pl nl pu nu pv nv L a b c d h = omega arith

pub between : (a b c : ℤ) → a ⊑ b → b ⊏ c → a ⊏ c
between a b c h k = omega arith

-- THE GREATEST: a whole number that is not above x is not above its floor, and one that is not below x is not below its ceil
pub floor_greatest : (x y : Float) (l : ℤ) (h : Num x) → Is y l → units y ⊑ units x → (l ⊑ (floor_value x h).k) × (units y ⊑ units (floor x))
floor_greatest x y l h i o =
    let F = floor_value x h in
    let g = tight (2 ^ 1074) l F.k (units y) (units (floor x)) i.val F.is.val (between (units y) (units x) (units (floor x) +ℤ pos (2 ^ 1074)) o F.high) in
    (g, subst (λ (z : ℤ). z ⊑ units (floor x)) (sym i.val) (subst (λ (z : ℤ). sc (2 ^ 1074) l ⊑ z) (sym F.is.val) (sc_mono (2 ^ 1074) l F.k g)))

pub ceil_least : (x y : Float) (l : ℤ) (h : Num x) → Is y l → units x ⊑ units y → ((ceil_value x h).k ⊑ l) × (units (ceil x) ⊑ units y)
ceil_least x y l h i o =
    let F = ceil_value x h in
    let g = tight (2 ^ 1074) F.k l (units (ceil x)) (units y) F.is.val i.val (over (units (ceil x)) (units x) (units y) (2 ^ 1074) F.low o) in
    (g, subst (λ (z : ℤ). units (ceil x) ⊑ z) (sym i.val) (subst (λ (z : ℤ). z ⊑ sc (2 ^ 1074) l) (sym F.is.val) (sc_mono (2 ^ 1074) F.k l g)))
  where
    over : (r x y : ℤ) (L : ℕ) → r ⊏ x +ℤ pos L → x ⊑ y → r ⊏ y +ℤ pos L
    over r x y L h k = omega (arith, add_parts x (pos L), add_parts y (pos L))

-- THE ONLY ONE: a whole number r with r ≤ x < r + 1, and no -0, is the floor of x
pub floor_only : (x r : Float) (k : ℤ) → Num x → Is r k → (units r ≡ pos 0 → sign r ≡ false) → units r ⊑ units x → units x ⊏ units r +ℤ pos (2 ^ 1074) → r ≡ floor x
floor_only x r k h i s o l =
    let F = floor_value x h in
    let down = (floor_greatest x r k h i o).1 in
    let g = tight (2 ^ 1074) F.k k (units (floor x)) (units r) F.is.val i.val (between (units (floor x)) (units x) (units r +ℤ pos (2 ^ 1074)) F.low l) in
    let up : units (floor x) ⊑ units r = subst (λ (z : ℤ). z ⊑ units r) (sym F.is.val) (subst (λ (z : ℤ). sc (2 ^ 1074) F.k ⊑ z) (sym i.val) (sc_mono (2 ^ 1074) F.k k g)) in
    same_units r (floor x) i.num F.is.num s F.plus (both (units r) (units (floor x)) down up)
  where
    both : (u v : ℤ) → u ⊑ v → v ⊑ u → u ≡ v
    both u v h k = ext u v (omega arith)

less_one : (u : ℤ) (L : ℕ) → 0 < L → u ⊏ u +ℤ pos L
less_one u L h = omega (arith, add_parts u (pos L))

-- so a whole number is its own, but for a zero's sign
pub floor_own : (x : Float) (k : ℤ) → Is x k → (units x ≡ pos 0 → sign x ≡ false) → x ≡ floor x
floor_own x k i z = floor_only x x k i.num i z (le_refl (P (units x) + N (units x))) (less_one (units x) (2 ^ 1074) (pow_pos 1074))

pub floor_plus : (x : Float) (k : ℤ) → Is x k → floor x ≡ plus_zero x
floor_plus x k i = sym (floor_only x (plus_zero x) k i.num (plus_is x k i) (plus_sign x i.num)
    (subst (λ (u : ℤ). u ⊑ units x) (sym (plus_units x)) (le_refl (P (units x) + N (units x))))
    (subst (λ (u : ℤ). units x ⊏ u +ℤ pos (2 ^ 1074)) (sym (plus_units x)) (less_one (units x) (2 ^ 1074) (pow_pos 1074))))

-- n units, n held and up to 2 ^ 2098: there it is the infinity
pub has_R : (n : ℕ) → Rep n → n ≤ 2 ^ 2098 → Has (R false n) (pos n)
has_R n r h = elim (eq-or-lt_of_le h) [
  | inl e ↦ subst (λ (k : ℕ). Has (R false k) (pos k)) (sym e) top
  | inr l ↦ let p = R_exact false n r l in record { real = num_real (R false n) p.num; is = rank_num (R false n) p.num ∙ parts_units (R false n) false n p }
]
  where
    is_inf : R false (2 ^ 2098) ≡ inf false
    is_inf = unfold R round in refl

    inf_has : Has (inf false) (pos (2 ^ 2098))
    inf_has = record { real = record { fit = (unfold fits in tt); real = (unfold is_nan in refl) }; is = (unfold rank in refl) }

    top : Has (R false (2 ^ 2098)) (pos (2 ^ 2098))
    top = subst (λ (z : Float). Has z (pos (2 ^ 2098))) (sym is_inf) inf_has

pub next_of : (x r : Float) (k : ℤ) → Has r k → rank x ⊏ k → ((y : Float) → Real y → rank x ⊏ rank y → k ⊑ rank y) → NextOf x r
next_of x r k h a l = record { real = h.real; above = subst (λ (z : ℤ). rank x ⊏ z) (sym h.is) a; least = λ y hy o. subst (λ (z : ℤ). z ⊑ rank y) (sym h.is) (l y hy o) }

pub gap_pos : (n : ℕ) → 0 < gap n
unfolding gap
gap_pos n = pow_pos (lib.Ieee.size n - 53)

-- from n ≥ 0 units on
pub next_from : (x : Float) (n : ℕ) → rank x ≡ pos n → Rep n → n < 2 ^ 2098 → (r : Float) → r ≡ R false (n + gap n) → NextOf x r
next_from x n e R0 h r er =
    subst (NextOf x) (sym er)
    (next_of x (R false (n + gap n)) (pos (n + gap n)) (has_R (n + gap n) (next_rep n R0) (next_le n (2 ^ 2098) R0 (rep_pow 2098) h))
    (subst (λ (z : ℤ). z ⊏ pos (n + gap n)) (sym e) (more n (gap n) (gap_pos n)))
    (λ y hy o. least y hy (subst (λ (z : ℤ). z ⊏ rank y) e o)))
  where
    more : (n g : ℕ) → 0 < g → pos n ⊏ pos (n + g)
    more n g h = omega arith

    least : (y : Float) → Real y → pos n ⊏ rank y → pos (n + gap n) ⊑ rank y
    least y hy o =
        let k = next_le n (P (rank y)) R0 (rank_rep y hy).p (at (rank y) n o) in
        fold (rank y) (n + gap n) n o k
      where
        at : (z : ℤ) (n : ℕ) → pos n ⊏ z → n < P z
        at z n h = omega (arith, side z)

        fold : (z : ℤ) (m n : ℕ) → pos n ⊏ z → m ≤ P z → pos m ⊑ z
        fold z m n h k = omega (arith, side z)

pub next_up_value : (x : Float) → Real x → (x ≡ inf false → ⊥) → NextOf x (next_up x)
next_up_value nan h k = absurd (nan_real h)
next_up_value (inf false) h k = absurd (k refl)
next_up_value (inf true) h k =
    next_of (inf true) (next_up (inf true)) (neg_ℤ (pos TOP)) (unfold next_up in largest) (unfold rank in lit< tt)
    (λ y hy o. low y hy o)
  where
    parts : Parts (fin true (2 ^ 53 - 1) (pos 971)) true TOP
    parts = unfold sign mags fits in record { num = (tt, tt); sgn = refl; mag = refl }

    largest : Has (fin true (2 ^ 53 - 1) (pos 971)) (neg_ℤ (pos TOP))
    largest = record {
      real = num_real (fin true (2 ^ 53 - 1) (pos 971)) parts.num;
      is = rank_num (fin true (2 ^ 53 - 1) (pos 971)) parts.num ∙ parts_units (fin true (2 ^ 53 - 1) (pos 971)) true TOP parts;
    }

    low : (y : Float) → Real y → rank (inf true) ⊏ rank y → neg_ℤ (pos TOP) ⊑ rank y
    low nan hy o = absurd (nan_real hy)
    low (inf true) hy o = absurd (not-le_of_lt o (le_refl (P (rank (inf true)) + N (rank (inf true)))))
    low (inf false) hy o = unfold rank in lit≤ tt
    low (fin s m e) hy o = unfold rank in over s (mags (fin s m e)) TOP (units (fin s m e)) (unfold units sign in refl) (mags_top (fin s m e) (tt, hy.fit))
      where
        over : (s : Bool) (n t : ℕ) (z : ℤ) → z ≡ signed s n → n ≤ t → neg_ℤ (pos t) ⊑ z
        over false n t z e h = omega (arith, ap P e, ap N e, P_neg (pos t), N_neg (pos t))
        over true n t z e h = omega (arith, ap P e, ap N e, P_neg (pos t), N_neg (pos t), P_neg (pos n), N_neg (pos n))
next_up_value (fin false m e) h k =
    let x = fin false m e in
    next_from x (mags x) (unfold rank units sign in refl) (mags_rep x (tt, h.fit)) (mags_under x (tt, h.fit)) (next_up x) (unfold next_up R in refl)
next_up_value (fin true zero e) h k =
    let x = fin true zero e in
    next_of x (next_up x) (pos 1) (subst (λ (z : Float). Has z (pos 1)) (sym to) (has_R 1 (rep_pow 0) (lit≤ tt))) (subst (λ (z : ℤ). z ⊏ pos 1) (sym zero_rank) (lit< tt))
    (λ y hy o. one (rank y) (subst (λ (z : ℤ). z ⊏ rank y) zero_rank o))
  where
    to : next_up (fin true zero e) ≡ R false 1
    to = unfold next_up R in refl

    zero_rank : rank (fin true zero e) ≡ pos 0
    zero_rank = unfold rank units mags sign in ap (λ (n : ℕ). neg_ℤ (pos (n * 2 ^ 1074 / down e))) (native.Mathlib.Nat.zero-mul (up e)) ∙ ap
        (λ (n : ℕ). neg_ℤ (pos (n / down e))) (native.Mathlib.Nat.zero-mul (2 ^ 1074)) ∙ ap (λ (n : ℕ). neg_ℤ (pos n)) (native.Mathlib.Nat.zero-div (down e))

    one : (z : ℤ) → pos 0 ⊏ z → pos 1 ⊑ z
    one z h = omega arith
next_up_value (fin true (suc m) e) h k =
    let x = fin true (suc m) e in
    let n = mags x in
    let n0 : 0 < n = first_pos n (down e) (subst (λ (z : ℕ). 0 < z) (mags_val true (suc m) e h.fit) (mul-pos (mul-pos (zero-lt-suc m) (up_pos e)) (pow_pos 1074))) in
    let b = before n (mags_rep x (tt, h.fit)) n0 in
    let less : prev n < n = smaller (prev n) (gap (prev n)) n (gap_pos (prev n)) b.1 in
    let p = R_exact true (prev n) b.0 (lt_of_le_of_lt (le_of_lt less) (mags_under x (tt, h.fit))) in
    let rx : rank x ≡ neg_ℤ (pos n) = unfold rank units sign in refl in
    next_of x (next_up x) (neg_ℤ (pos (prev n))) (subst (λ (z : Float). Has z (neg_ℤ (pos (prev n)))) (sym to)
    (record { real = num_real (R true (prev n)) p.num; is = rank_num (R true (prev n)) p.num ∙ parts_units (R true (prev n)) true (prev n) p }))
    (subst (λ (z : ℤ). z ⊏ neg_ℤ (pos (prev n))) (sym rx) (flip (prev n) n less))
    (λ y hy o. least y hy n (prev n) (gap (prev n)) b.0 b.1 refl (subst (λ (z : ℤ). z ⊏ rank y) rx o))
  where
    to : next_up (fin true (suc m) e) ≡ R true (prev (mags (fin true (suc m) e)))
    to = unfold next_up R in ap (λ (t : Bool). cond t (round binary64 false 1 (2 ^ 1074)) (round binary64 true (prev (mags (fin true (suc m) e))) (2 ^ 1074))) (eqb-suc-zero m)

    smaller : (p g n : ℕ) → 0 < g → p + g ≡ n → p < n
    smaller p g n h e = omega arith

    flip : (p n : ℕ) → p < n → neg_ℤ (pos n) ⊏ neg_ℤ (pos p)
    flip p n h = omega (arith, P_neg (pos n), N_neg (pos n), P_neg (pos p), N_neg (pos p))

    least : (y : Float) → Real y → (n p g : ℕ) → Rep p → p + g ≡ n → g ≡ gap p → neg_ℤ (pos n) ⊏ rank y → neg_ℤ (pos p) ⊑ rank y
    least y hy n p g Rp e eg o = go (leb (N (rank y)) p) (leb→le (N (rank y)) p) (nleb→lt (N (rank y)) p)
      where
        in_order : (z : ℤ) (p : ℕ) → N z ≤ p → neg_ℤ (pos p) ⊑ z
        in_order z p h = omega (arith, P_neg (pos p), N_neg (pos p))

        no : (z : ℤ) (n p g k : ℕ) → neg_ℤ (pos n) ⊏ z → p + g ≡ n → g ≡ k → p < N z → p + k ≤ N z → ⊥
        no z n p g k o e eg l h = omega (arith, P_neg (pos n), N_neg (pos n), side z)

        go : (b : Bool) → (T b → N (rank y) ≤ p) → (T (not b) → p < N (rank y)) → neg_ℤ (pos p) ⊑ rank y
        go true a b = in_order (rank y) p (a tt)
        go false a b = absurd (no (rank y) n p g (gap p) o e eg (b tt) (next_le p (N (rank y)) Rp (rank_rep y hy).n (b tt)))

-- the least float above, as floats compare
pub next_up_above : (x : Float) → Real x → (x ≡ inf false → ⊥) → T (lt x (next_up x))
next_up_above x h k = let V0 = next_up_value x h k in ⊏→lt x (next_up x) h V0.real V0.above

pub next_up_least : (x y : Float) → Real x → Real y → (x ≡ inf false → ⊥) → T (lt x y) → T (le (next_up x) y)
next_up_least x y hx hy k t = let V0 = next_up_value x hx k in ⊑→le (next_up x) y V0.real hy (V0.least y hy (lt→⊏ x y hx hy t))

pub next_up_end : (next_up (inf false) ≡ inf false) × (next_up nan ≡ nan)
unfolding next_up
next_up_end = (refl, refl)

pub is_inf : Float → Bool
is_inf nan = false
is_inf (inf s) = not s
is_inf (fin s m e) = false

pub neg_inf : (x : Float) → (x ≡ inf true → ⊥) → neg x ≡ inf false → ⊥
unfolding neg is_inf
neg_inf x k e = k (turned x (ap is_inf e))
  where
    turned : (x : Float) → is_inf (neg x) ≡ true → x ≡ inf true
    turned nan e = absurd (false≢true e)
    turned (inf true) e = refl
    turned (inf false) e = absurd (false≢true e)
    turned (fin s m d) e = absurd (false≢true e)

pub next_down_value : (x : Float) → Real x → (x ≡ inf true → ⊥) → BeforeOf x (next_down x)
unfolding next_down
next_down_value x h k =
    let V0 = next_up_value (neg x) (neg_real x h) (neg_inf x k) in
    let r = next_up (neg x) in
    let er = rank_neg r V0.real in
    let ex = rank_neg x h in
    record {
      real = neg_real r V0.real;
      below = turn (rank x) (rank r) (rank (neg r)) (rank (neg x)) er ex V0.above;
      greatest = λ y hy o. back (rank y) (rank r) (rank (neg r)) (rank (neg y)) er (rank_neg y hy)
          (V0.least (neg y) (neg_real y hy) (over (rank x) (rank y) (rank (neg x)) (rank (neg y)) ex (rank_neg y hy) o));
    }
  where
    turn : (x r r' x' : ℤ) → r' ≡ neg_ℤ r → x' ≡ neg_ℤ x → x' ⊏ r → r' ⊏ x
    turn x r r' x' p q h = omega (arith, ap P p, ap N p, ap P q, ap N q, P_neg r, N_neg r, P_neg x, N_neg x)

    over : (x y x' y' : ℤ) → x' ≡ neg_ℤ x → y' ≡ neg_ℤ y → y ⊏ x → x' ⊏ y'
    over x y x' y' p q h = omega (arith, ap P p, ap N p, ap P q, ap N q, P_neg x, N_neg x, P_neg y, N_neg y)

    back : (y r r' y' : ℤ) → r' ≡ neg_ℤ r → y' ≡ neg_ℤ y → r ⊑ y' → y ⊑ r'
    back y r r' y' p q h = omega (arith, ap P p, ap N p, ap P q, ap N q, P_neg r, N_neg r, P_neg y, N_neg y)

-- ---- the larger and the smaller
pub taken : (a b : Bool) (x y : Float) → b ≡ true → choose (a || b) y x ≡ y
unfolding choose
taken true b x y e = refl
taken false b x y e = ap (λ (t : Bool). choose t y x) e

pub left : (a b : Bool) (x y : Float) → a ≡ false → b ≡ false → choose (a || b) y x ≡ x
unfolding choose
left a b x y n e = ap (λ (t : Bool). choose (t || b) y x) n ∙ ap (λ (t : Bool). choose t y x) e

pub maxf_second : (x y : Float) → lt x y ≡ true → maxf x y ≡ y
unfolding maxf
maxf_second x y h = taken (is_nan x) (lt x y) x y h

pub maxf_first : (x y : Float) → is_nan x ≡ false → lt x y ≡ false → maxf x y ≡ x
unfolding maxf
maxf_first x y n h = left (is_nan x) (lt x y) x y n h

pub maxf_nan : (y : Float) → maxf nan y ≡ y
unfolding maxf choose is_nan
maxf_nan y = refl

pub minf_second : (x y : Float) → lt y x ≡ true → minf x y ≡ y
unfolding minf
minf_second x y h = taken (is_nan x) (lt y x) x y h

pub minf_first : (x y : Float) → is_nan x ≡ false → lt y x ≡ false → minf x y ≡ x
unfolding minf
minf_first x y n h = left (is_nan x) (lt y x) x y n h

pub minf_nan : (y : Float) → minf nan y ≡ y
unfolding minf choose is_nan
minf_nan y = refl
