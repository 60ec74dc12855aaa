-- A BOUND THAT WOULD NOT TIGHTEN DOES NOT TIGHTEN EITHER AFTER IT IS RELAXED by something that is not below zero: q plus it is at or above q, q less it is at
-- or below q, and floor and ceil keep the order.
-- "Not below zero" is the test's own answer, so a NaN is not below it; where one comes in, the result is a NaN, and no test against that holds.
use Rattle.std.specs.Prelude.{◌≡◌, ◌⊎◌, ℕ, zero, suc, ◌+◌, ◌*◌, ◌^◌, ◌<◌, min, Bool, true, not, ◌||◌, cond, T, ltb, eqb, ℤ, pos, neg_ℤ, ◌-ℤ◌, Float}
use Rattle.std.proofs.Math.Path.{refl, ap}
use Rattle.std.proofs.Common.{sym, ◌∙◌, subst, inl, inr, zero-le, le_of_eq, lt_of_lt_of_le, not-le_of_lt}
use Rattle.std.proofs.Common.{eq-zero-or-pos, zero-mul, mul-zero, mul-pos, mul_comm, mul-le-mul_right, arith, ltb→lt, lt→ltb, lit≤}
use Rattle.std.proofs.Math.Nat as Nat
use Rattle.std.proofs.Math.Bool.{false}
use Rattle.std.specs.Float.{nan, fin, binary64}
use Rattle.std.specs.Float.Ieee.{inf, up, down, fits, unlike, is_nan, add, sub, mul, div, neg, round, lt, le, eq, of_bits}
use Rattle.std.specs.Float.Ieee.Fits.{up_pos, down_pos}
use Rattle.floats.specs.Near.{near, near_fix}
use Rattle.floats.specs.Zed.{P, N, ◌⊑◌, side, ext, P_neg, N_neg, sub_parts}
use Rattle.floats.specs.Signed.{rep_zero}
use Rattle.floats.specs.Value.{units, signed, Num}
use Rattle.floats.specs.Norm.{parts_units}
use Rattle.floats.specs.Order.{Real, num_real, le_real, rank, rank_num, le→⊑, ⊑→le, nlt→⊑, neg_real, rank_neg}
use Rattle.floats.proofs.Meaning.{plus_units, floor_value, floor_nan, floor_inf, ceil_nan, ceil_mirror, minf_nan}
use Rattle.floats.specs.Ranks as K
use Rattle.floats.specs.Ranks.{sub_result, mul_result, round_rank, held_of}
use Rattle.floats.specs.Points.{◌≼◌, Held}
use Rattle.floats.proofs.Points.{of_units, fits_add, fits_sub}
use Rattle.floats.proofs.Growth.{add_grows_real, sub_shrinks_real}
use Rattle.floats.proofs.Compare.{le_trans, le_turns, le_left}
use Rattle.floats.specs.WholeRounding.{NonNeg}
use Rattle.floats.proofs.WholeRounding.{half_parts, zero_rank, zero_held, real_0, real_l, real_r, nonneg_real, nonneg_rank, nonneg_of}
use Rattle.floats.proofs.WholeRounding.{nonneg_cases, cases, inf_real, top, bottom, sub_above, floor_keeps, floor_real, ceil_real}
use Rattle.floats.proofs.Slacks.{nonneg_add, product_most, pos_parts}
use Rattle.floats.proofs.Extremes.{minf_value, no_lt}
use Rattle.floats.specs.Num.{◌⊕◌, ◌⊖◌, ◌⊗◌, ◌⊘◌, 0f, ½f, abs, maxf, minf, choose, plus_zero, floor, ceil}
use Rattle.floats.specs.Relaxed.{NotNeg, Plus, Within}

-- ---- what it is
pub notneg_of : (x : Float) → le 0f x ≡ true → NotNeg x
notneg_of x e = le_turns 0f x (subst T (sym e) tt)

pub notneg_nonneg : {x : Float} → NonNeg x → NotNeg x
notneg_nonneg {x} h = le_turns 0f x h.low.le

-- a NaN, or not
pub held_cases : (x : Float) → Held x → (x ≡ nan) ⊎ Real x
held_cases nan h = inl refl
held_cases (inf s) h = inr (inf_real s)
held_cases (fin s m e) h = inr (num_real (fin s m e) (tt, h.fits))

pub notneg_cases : (x : Float) → Held x → NotNeg x → (x ≡ nan) ⊎ NonNeg x
notneg_cases x h n = elim (held_cases x h) [ inl e ↦ inl e | inr r ↦ inr (nonneg_of r (subst (λ (z : ℤ). z ⊑ rank x) zero_rank (nlt→⊑ x 0f r real_0 (subst (λ (b : Bool). T (not b)) (sym n) tt)))) ]

-- no test against a NaN holds
pub nan_left : (x y : Float) → x ≡ nan → lt x y ≡ false
nan_left x y e = ap (λ (z : Float). lt z y) e ∙ (no_lt y).1

pub nan_right : (x y : Float) → y ≡ nan → lt x y ≡ false
nan_right x y e = ap (λ (z : Float). lt x z) e ∙ (no_lt x).0

-- ---- q plus t is no number, or at or above q; q less t is none, or at or below q
pub with_nan : (x : Float) → (nan ⊕ x ≡ nan) × (x ⊕ nan ≡ nan) × (x ⊖ nan ≡ nan)
unfolding add sub neg
with_nan nan = (refl, refl, refl)
with_nan (inf s) = (refl, refl, refl)
with_nan (fin s m e) = (refl, refl, refl)

pub opposite : (inf true ⊕ inf false ≡ nan) × (inf false ⊖ inf false ≡ nan)
unfolding add sub neg
opposite = (refl, refl)

pub plus_less : (x : Float) → Num x → (inf false ⊖ x ≡ inf false) × (x ⊖ inf true ≡ inf false)
unfolding add sub neg
plus_less nan h = absurd h.0
plus_less (inf s) h = absurd h.0
plus_less (fin s m e) h = (refl, refl)

pub add_up : (q t : Float) → Real q → Held t → NotNeg t → (q ⊕ t ≡ nan) ⊎ (q ≼ (q ⊕ t))
add_up q t r ht nt = elim (notneg_cases t ht nt) [ inl e ↦ inl (ap (λ (z : Float). q ⊕ z) e ∙ (with_nan q).1) | inr p ↦ go p (held_cases (q ⊕ t) (fits_add q t)) ]
  where
    go : NonNeg t → (q ⊕ t ≡ nan) ⊎ Real (q ⊕ t) → (q ⊕ t ≡ nan) ⊎ (q ≼ (q ⊕ t))
    go p (inl e) = inl e
    go p (inr s) = inr (add_grows_real (record { fits = r.fit }) p s.real)

pub sub_down : (q t : Float) → Real q → Held t → NotNeg t → (q ⊖ t ≡ nan) ⊎ ((q ⊖ t) ≼ q)
sub_down q t r ht nt = elim (notneg_cases t ht nt) [ inl e ↦ inl (ap (λ (z : Float). q ⊖ z) e ∙ (with_nan q).2) | inr p ↦ go p (held_cases (q ⊖ t) (fits_sub q t)) ]
  where
    go : NonNeg t → (q ⊖ t ≡ nan) ⊎ Real (q ⊖ t) → (q ⊖ t ≡ nan) ⊎ ((q ⊖ t) ≼ q)
    go p (inl e) = inl e
    go p (inr s) = inr (sub_shrinks_real (record { fits = r.fit }) p s.real)

-- ---- floor and ceil keep the order
pub real_floor : (x : Float) → Real x → Real (floor x)
real_floor x r = elim (cases x r) [
  | inl n ↦ num_real (floor x) (floor_value x n).is.num
  | inr (inl e) ↦ subst Real (sym (ap floor e ∙ floor_inf true)) (inf_real true)
  | inr (inr e) ↦ subst Real (sym (ap floor e ∙ floor_inf false)) (inf_real false)
]

pub floor_below : (x : Float) → Num x → floor x ≼ x
floor_below x n =
    let F = floor_value x n in
    let nf = F.is.num in
    record {
      le = ⊑→le (floor x) x (num_real (floor x) nf) (num_real x n) (subst (λ (z : ℤ). z ⊑ rank x) (sym (rank_num (floor x) nf)) (subst (λ (z : ℤ). units (floor x) ⊑ z) (sym (rank_num x n)) F.low));
    }

-- nothing else is at or above +∞
pub end : (y : Float) → inf false ≼ y → y ≡ inf false
unfolding le lt eq
end nan o = absurd o.le
end (inf true) o = absurd o.le
end (inf false) o = refl
end (fin s m e) o = absurd o.le

pub floor_mono : (x y : Float) → Real x → Real y → x ≼ y → floor x ≼ floor y
floor_mono x y rx ry o = elim (cases x rx) [
  | inl n ↦ let F = floor_value x n in floor_keeps (of_units (floor x) F.k F.is).whole (record { fits = ry.fit }) (le_trans (floor_below x n) o)
  | inr (inl e) ↦ subst (λ (z : Float). z ≼ floor y) (sym (ap floor e ∙ floor_inf true)) (bottom (real_floor y ry))
  | inr (inr e) ↦ subst (λ (z : Float). floor x ≼ z) (sym (ap floor (end y (subst (λ (z : Float). z ≼ y) e o)) ∙ floor_inf false)) (top (real_floor x rx))
]

pub turn : (x y : Float) → Real x → Real y → x ≼ y → neg y ≼ neg x
turn x y rx ry o = record { le = ⊑→le (neg y) (neg x) (neg_real y ry) (neg_real x rx) (at (rank x) (rank y) (rank (neg x)) (rank (neg y)) (rank_neg x rx) (rank_neg y ry) (le→⊑ x y rx ry o.le)) }
  where
    at : (x y x' y' : ℤ) → x' ≡ neg_ℤ x → y' ≡ neg_ℤ y → x ⊑ y → y' ⊑ x'
    at x y x' y' p q h = omega (arith, ap P p, ap N p, ap P q, ap N q, P_neg x, N_neg x, P_neg y, N_neg y)

-- nor does a zero's sign change it
plus_real : (x : Float) → Real x → Real (plus_zero x)
unfolding plus_zero
plus_real nan r = r
plus_real (inf s) r = r
plus_real (fin s zero e) r = record { fit = unfold fits in r.fit; real = unfold is_nan in refl }
plus_real (fin s (suc m) e) r = r

plus_rank : (x : Float) → rank (plus_zero x) ≡ rank x
plus_rank nan = unfold plus_zero in refl
plus_rank (inf s) = unfold plus_zero in refl
plus_rank (fin s m e) = both s m e (plus_units (fin s m e))
  where
    both : (s : Bool) (m : ℕ) (e : ℤ) → units (plus_zero (fin s m e)) ≡ units (fin s m e) → rank (plus_zero (fin s m e)) ≡ rank (fin s m e)
    both s zero e h = unfold rank plus_zero in (unfold plus_zero in h)
    both s (suc m) e h = unfold plus_zero in refl

plus_mono : (x y : Float) → Real x → Real y → x ≼ y → plus_zero x ≼ plus_zero y
plus_mono x y rx ry o = record {
  le = ⊑→le (plus_zero x) (plus_zero y) (plus_real x rx) (plus_real y ry)
      (subst (λ (z : ℤ). z ⊑ rank (plus_zero y)) (sym (plus_rank x)) (subst (λ (z : ℤ). rank x ⊑ z) (sym (plus_rank y)) (le→⊑ x y rx ry o.le)));
}

pub ceil_mono : (x y : Float) → Real x → Real y → x ≼ y → ceil x ≼ ceil y
ceil_mono x y rx ry o =
    let a = neg_real x rx in
    let b = neg_real y ry in
    let fx = real_floor (neg x) a in
    let fy = real_floor (neg y) b in
    subst (λ (z : Float). z ≼ ceil y) (sym (ceil_mirror x)) (subst (λ (z : Float). plus_zero (neg (floor (neg x))) ≼ z) (sym (ceil_mirror y))
    (plus_mono (neg (floor (neg x))) (neg (floor (neg y))) (neg_real (floor (neg x)) fx) (neg_real (floor (neg y)) fy)
    (turn (floor (neg y)) (floor (neg x)) fy fx (floor_mono (neg y) (neg x) b a (turn x y rx ry o)))))

-- ---- an integer's upper bound that q does not pass is not passed where q is relaxed; and a lower bound
pub floor_stays : (q t b : Float) → Held q → Held t → NotNeg t → le b (floor q) ≡ true → lt (floor (q ⊕ t)) b ≡ false
floor_stays q t b hq ht nt e =
    let o : b ≼ floor q = record { le = subst T (sym e) tt } in
    let r = floor_real q hq (le_real b (floor q) o.le).1 in
    elim (add_up q t r ht nt) [
      | inl n ↦ nan_left (floor (q ⊕ t)) b (ap floor n ∙ floor_nan)
      | inr u ↦ le_turns b (floor (q ⊕ t)) (le_trans o (floor_mono q (q ⊕ t) r (real_r (fits_add q t) u) u)).le
    ]

pub ceil_stays : (q t b : Float) → Held q → Held t → NotNeg t → le (ceil q) b ≡ true → lt b (ceil (q ⊖ t)) ≡ false
ceil_stays q t b hq ht nt e =
    let o : ceil q ≼ b = record { le = subst T (sym e) tt } in
    let r = ceil_real q hq (le_real (ceil q) b o.le).0 in
    elim (sub_down q t r ht nt) [
      | inl n ↦ nan_right b (ceil (q ⊖ t)) (ap ceil n ∙ ceil_nan)
      | inr u ↦ le_turns (ceil (q ⊖ t)) b (le_trans (ceil_mono (q ⊖ t) q (real_l (fits_sub q t) u) r u) o).le
    ]

-- ---- any other variable's bound b, with a margin k that is not below zero
-- of two in order the upper, moved up, is not below the lower, moved down
pub stays : (l k u t : Float) → Held l → Held k → Held u → Held t → NotNeg k → NotNeg t → le l u ≡ true → lt (u ⊕ t) (l ⊖ k) ≡ false
stays l k u t hl hk hu ht nk nt e = go (add_up u t (real_r hu o) ht nt) (sub_down l k (real_l hl o) hk nk)
  where
    o : l ≼ u
    o = record { le = subst T (sym e) tt }

    go : (u ⊕ t ≡ nan) ⊎ (u ≼ (u ⊕ t)) → (l ⊖ k ≡ nan) ⊎ ((l ⊖ k) ≼ l) → lt (u ⊕ t) (l ⊖ k) ≡ false
    go (inl n) d = nan_left (u ⊕ t) (l ⊖ k) n
    go (inr a) (inl n) = nan_right (u ⊕ t) (l ⊖ k) n
    go (inr a) (inr d) = le_turns (l ⊖ k) (u ⊕ t) (le_trans d (le_trans o a)).le

pub upper_stays : (q t b k : Float) → Held q → Held t → Held b → Held k → NotNeg t → NotNeg k → le b q ≡ true → lt (q ⊕ t) (b ⊖ k) ≡ false
upper_stays q t b k hq ht hb hk nt nk e = stays b k q t hb hk hq ht nk nt e

pub lower_stays : (q t b k : Float) → Held q → Held t → Held b → Held k → NotNeg t → NotNeg k → le q b ≡ true → lt (b ⊕ k) (q ⊖ t) ≡ false
lower_stays q t b k hq ht hb hk nt nk e = stays q t b k hq ht hb hk nt nk e

-- ---- what is not below zero: sums, and the larger of two
pub notneg_nan : (x : Float) → x ≡ nan → NotNeg x
notneg_nan x e = nan_left x 0f e

pub notneg_add : (x y : Float) → Held x → Held y → NotNeg x → NotNeg y → NotNeg (x ⊕ y)
notneg_add x y hx hy a b = go (notneg_cases x hx a) (notneg_cases y hy b)
  where
    go : (x ≡ nan) ⊎ NonNeg x → (y ≡ nan) ⊎ NonNeg y → NotNeg (x ⊕ y)
    go (inl e) q = notneg_nan (x ⊕ y) (ap (λ (z : Float). z ⊕ y) e ∙ (with_nan y).0)
    go (inr p) (inl e) = notneg_nan (x ⊕ y) (ap (λ (z : Float). x ⊕ z) e ∙ (with_nan x).1)
    go (inr p) (inr q) = notneg_nonneg (nonneg_add p q)

pub notneg_max : (x y : Float) → NotNeg x → NotNeg y → NotNeg (maxf x y)
unfolding maxf choose
notneg_max x y a b = pick (is_nan x || lt x y)
  where
    pick : (c : Bool) → NotNeg (choose c y x)
    pick true = b
    pick false = a

pub keep : {s t : Bool} {m n : ℕ} → (s ≡ false → t ≡ false) → (m ≡ 0 → n ≡ 0) → Plus s m → Plus t n
keep f g (inl e) = inl (f e)
keep f g (inr e) = inr (g e)

pub like : (s t : Bool) → s ≡ false → t ≡ false → unlike s t ≡ false
like s t e f = ap (λ (z : Bool). unlike z t) e ∙ ap (λ (z : Bool). unlike false z) f

pub none : (n a : ℕ) → n ≡ 0 → n * a ≡ 0
none n a e = ap (λ (z : ℕ). z * a) e ∙ zero-mul a

pub not_zero : (n : ℕ) → eqb n 0 ≡ false → n ≡ 0 → ⊥
not_zero n e f = subst T (ap (λ (z : ℕ). eqb z 0) (sym f) ∙ e) tt

pub plus : (s : Bool) (m : ℕ) (e : ℤ) → NotNeg (fin s m e) → Plus s m
unfolding lt of_bits
plus false m e h = inl refl
plus true m e h = elim (eq-zero-or-pos m) [ inl z ↦ inr z | inr p ↦ absurd (subst T h (lt→ltb 0 (m * up e * 1 + 0 * down e) (positive (m * up e) (0 * down e) (mul-pos p (up_pos e))))) ]
  where
    positive : (n k : ℕ) → 0 < n → 0 < n * 1 + k
    positive n k h = omega arith

pub fin_notneg : (m : ℕ) (e : ℤ) → NotNeg (fin false m e)
unfolding lt of_bits
fin_notneg m e = go (ltb (m * up e * 1) (0 * down e)) (λ t. not-le_of_lt (lt_of_lt_of_le (ltb→lt (m * up e * 1) (0 * down e) t) (le_of_eq (zero-mul (down e)))) zero-le)
  where
    go : (b : Bool) → (T b → ⊥) → b ≡ false
    go true f = absurd (f tt)
    go false f = refl

pub plus_inf : (s : Bool) → NotNeg (inf s) → s ≡ false
unfolding lt of_bits
plus_inf s h = h

pub inf_notneg : (s : Bool) → s ≡ false → NotNeg (inf s)
unfolding lt of_bits
inf_notneg s e = e

-- a zero of either sign
pub zero_notneg : (s : Bool) → NotNeg (fin s 0 (pos 0))
unfolding lt of_bits
zero_notneg true = refl
zero_notneg false = refl

pub round_notneg : (s : Bool) (n d : ℕ) → 0 < d → Plus s n → NotNeg (round binary64 s n d)
round_notneg s n d h k =
    let Q = round_rank s n d in
    notneg_nonneg (nonneg_of Q.real
    (subst (λ (z : ℤ). pos 0 ⊑ z) (sym Q.is)
    (at s (min (near (n * 2 ^ 1074) d) (2 ^ 2098)) (keep (λ e. e) (λ e. least (near (n * 2 ^ 1074) d) (2 ^ 2098) (rounds e)) k))))
  where
    at : (s : Bool) (k : ℕ) → Plus s k → pos 0 ⊑ signed s k
    at false k h = zero-le
    at true k (inl e) = absurd (subst T e tt)
    at true k (inr e) = omega (arith, P_neg (pos k), N_neg (pos k))

    least : (a b : ℕ) → a ≡ 0 → min a b ≡ 0
    least a b e = omega arith

    rounds : n ≡ 0 → near (n * 2 ^ 1074) d ≡ 0
    rounds e = ap (λ (z : ℕ). near z d) (none n (2 ^ 1074) e ∙ sym (zero-mul d)) ∙ near_fix 0 d rep_zero h

-- an infinity, but a NaN where m is a zero
pub inf_or_nan : (s : Bool) (m : ℕ) → Plus s m → NotNeg (cond (eqb m 0) nan (inf s))
inf_or_nan s m k = go (eqb m 0) refl k
  where
    go : (b : Bool) → eqb m 0 ≡ b → Plus s m → NotNeg (cond b nan (inf s))
    go true e k = notneg_nan nan refl
    go false e (inl f) = inf_notneg s f
    go false e (inr f) = absurd (not_zero m e f)

pub notneg_abs : (x : Float) → NotNeg (abs x)
unfolding abs
notneg_abs nan = notneg_nan nan refl
notneg_abs (inf s) = inf_notneg false refl
notneg_abs (fin s m e) = fin_notneg m e

pub notneg_mul : (x y : Float) → Held x → Held y → NotNeg x → NotNeg y → NotNeg (x ⊗ y)
unfolding mul
notneg_mul nan y hx hy a b = notneg_nan nan refl
notneg_mul (inf s) nan hx hy a b = notneg_nan nan refl
notneg_mul (fin s m e) nan hx hy a b = notneg_nan nan refl
notneg_mul (inf s) (inf t) hx hy a b = inf_notneg (unlike s t) (like s t (plus_inf s a) (plus_inf t b))
notneg_mul (inf s) (fin t n d) hx hy a b = inf_or_nan (unlike s t) n (keep (λ f. like s t (plus_inf s a) f) (λ f. f) (plus t n d b))
notneg_mul (fin s m e) (inf t) hx hy a b = inf_or_nan (unlike s t) m (keep (λ f. like s t f (plus_inf t b)) (λ f. f) (plus s m e a))
notneg_mul (fin s m e) (fin t n d) hx hy a b = round_notneg (unlike s t) (m * up e * (n * up d)) (down e * down d) (mul-pos (down_pos e) (down_pos d)) (both (plus s m e a) (plus t n d b))
  where
    both : Plus s m → Plus t n → Plus (unlike s t) (m * up e * (n * up d))
    both (inl f) k = keep (λ g. like s t f g) (λ g. ap (λ (z : ℕ). m * up e * z) (none n (up d) g) ∙ mul-zero (m * up e)) k
    both (inr f) k = inr (none (m * up e) (n * up d) (none m (up e) f))

pub notneg_div : (x a : Float) → Held x → Held a → NotNeg x → NotNeg (x ⊘ abs a)
unfolding div abs
notneg_div nan a hx ha k = notneg_nan nan refl
notneg_div (inf s) nan hx ha k = notneg_nan nan refl
notneg_div (inf s) (inf t) hx ha k = notneg_nan nan refl
notneg_div (inf s) (fin t n d) hx ha k = inf_notneg (unlike s false) (like s false (plus_inf s k) refl)
notneg_div (fin s m e) nan hx ha k = notneg_nan nan refl
notneg_div (fin s m e) (inf t) hx ha k = zero_notneg (unlike s false)
notneg_div (fin s m e) (fin t n d) hx ha k = go (eqb n 0) refl (keep (λ f. like s false f refl) (λ f. f) (plus s m e k))
  where
    some : eqb n 0 ≡ false → 0 < n
    some f = elim (eq-zero-or-pos n) [ inl z ↦ absurd (not_zero n f z) | inr p ↦ p ]

    go : (b : Bool) → eqb n 0 ≡ b → Plus (unlike s false) m → NotNeg (cond b (cond (eqb m 0) nan (inf (unlike s false))) (round binary64 (unlike s false) (m * up e * down d) (n * up d * down e)))
    go true f p = inf_or_nan (unlike s false) m p
    go false f p = round_notneg (unlike s false) (m * up e * down d) (n * up d * down e) (mul-pos (mul-pos (some f) (up_pos d)) (down_pos e))
        (keep (λ g. g) (λ g. none (m * up e) (down d) (none m (up e) g)) p)

-- ---- t less at most half of it: p is any float, a NaN and the infinities too
-- what is left of t
pub rest : (t m : Float) → NonNeg t → Real m → m ≼ t → NotNeg (t ⊖ m)
rest t m ht r o = go (nonneg_cases ht) (cases m r)
  where
    above : (u v : ℤ) → v ⊑ u → pos 0 ⊑ u -ℤ v
    above u v h = omega (arith, sub_parts u v)

    far : t ⊖ m ≡ inf false → NotNeg (t ⊖ m)
    far e = subst NotNeg (sym e) (inf_notneg false refl)

    no_num : Num (inf false) → ⊥
    no_num n = n.0

    go : Num t ⊎ (t ≡ inf false) → Num m ⊎ ((m ≡ inf true) ⊎ (m ≡ inf false)) → NotNeg (t ⊖ m)
    go (inl n) (inl k) = notneg_nonneg
        (nonneg_of (sub_result t m n k).real
        (sub_above t m n k (pos 0) zero_held
        (above (units t) (units m) (subst (λ (z : ℤ). z ⊑ units t) (rank_num m k)
        (subst (λ (z : ℤ). rank m ⊑ z) (rank_num t n) (le→⊑ m t r (num_real t n) o.le))))))
    go (inl n) (inr (inl f)) = far (ap (λ (z : Float). t ⊖ z) f ∙ (plus_less t n).1)
    go (inl n) (inr (inr f)) = absurd (no_num (subst Num (end t (subst (λ (z : Float). z ≼ t) f o)) n))
    go (inr e) (inl k) = far (ap (λ (z : Float). z ⊖ m) e ∙ (plus_less m k).0)
    go (inr e) (inr (inl f)) = far (ap (λ (z : Float). z ⊖ m) e ∙ ap (λ (z : Float). inf false ⊖ z) f ∙ (unfold sub add neg in refl))
    go (inr e) (inr (inr f)) = notneg_nan (t ⊖ m) (ap (λ (z : Float). z ⊖ m) e ∙ ap (λ (z : Float). inf false ⊖ z) f ∙ opposite.1)

pub smaller : (p h : Float) → Held p → Real h → Within h (minf p h)
smaller p h hp r = elim (held_cases p hp) [
  | inl e ↦ subst (Within h) (sym (ap (λ (z : Float). minf z h) e ∙ minf_nan h)) (record { real = r; below = le_left (top r) })
  | inr k ↦
      let S = minf_value p h k r in
      let f : Real (minf p h) = elim S.one [ inl e ↦ subst Real (sym e) k | inr e ↦ subst Real (sym e) r ] in
      record { real = f; below = record { le = ⊑→le (minf p h) h f r S.right } }
]

pub half : (t : Float) → NonNeg t → Within t (½f ⊗ t)
half t ht = elim (nonneg_cases ht) [
  | inl n ↦
      let r = nonneg_real ht in
      let l = subst (λ (z : ℤ). pos 0 ⊑ z) (rank_num t n) (nonneg_rank ht) in
      let f = (mul_result ½f t half_parts.num n).real in
      let is : rank t ≡ pos (P (units t)) = rank_num t n ∙ plain (units t) l in
      record {
        real = f;
        below = record {
          le = ⊑→le (½f ⊗ t) t f r (subst (λ (z : ℤ). rank (½f ⊗ t) ⊑ z) (sym is)
              (product_most ½f t (P (units t)) half_parts.num n (pos_parts ½f (2 ^ 1073) half_parts) l (subst K.HeldRank is (held_of t r))
              (Nat.le_trans (le_of_eq (ap (λ (z : ℤ). P z * P (units t)) (parts_units ½f false (2 ^ 1073) half_parts)))
              (Nat.le_trans (mul-le-mul_right (P (units t)) (lit≤ tt)) (le_of_eq (mul_comm (2 ^ 1074) (P (units t))))))));
        };
      }
  | inr e ↦ subst (λ (z : Float). Within z (½f ⊗ z)) (sym e) (subst (Within (inf false)) (sym far) (record { real = inf_real false; below = top (inf_real false) }))
]
  where
    plain : (u : ℤ) → pos 0 ⊑ u → u ≡ pos (P u)
    plain u h = ext u (pos (P u)) (omega (arith, side u))

    far : ½f ⊗ inf false ≡ inf false
    far = unfold mul of_bits in refl

pub notneg_less_half : (t p : Float) → Held t → Held p → le 0f t ≡ true → NotNeg (t ⊖ minf p (½f ⊗ t))
notneg_less_half t p ht hp e =
    let nt : NonNeg t = record { held = ht; low = record { le = subst T (sym e) tt } } in
    let H = half t nt in
    let S = smaller p (½f ⊗ t) hp H.real in
    rest t (minf p (½f ⊗ t)) nt S.real (le_trans S.below H.below)
