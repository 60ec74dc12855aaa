-- WHOLE FLOATS: their order is that of the numbers; sums, differences and products of known sizes are exact; the smaller and the larger of two; magnitudes; tolerances against whole numbers.
use Rattle.std.specs.Prelude.{ℕ, zero, suc, ◌≤◌, ◌+◌, ◌*◌, ◌/◌, ◌^◌, ◌≡◌, refl, ◌≢◌, Bool, true, false, not, ◌||◌, T, eqb, pos, neg_ℤ, ℤ, ◌+ℤ◌, ◌-ℤ◌, ◌*ℤ◌, Float}
use Rattle.std.proofs.Common.{arith, sym, ap, subst, ◌∙◌, inl, inr, ltb→lt, lt→ltb, nltb→le, T_not}
use Rattle.std.proofs.Math.Dec.{eqb_refl}
use Rattle.std.specs.Float.{nan, inf, fin, binary64}
use Rattle.std.specs.Float.Ieee.{fits, lt, le, neg, of_bits, is_nan, eq, up, down, div, sub, add, round}
use Rattle.floats.specs.Num.{◌⊕◌, ◌⊖◌, 0f, 1f, ½f, is_finite, is_infinite, ◌⊗◌, abs, maxf, minf, -∞f, ∞f, ◌⊘◌, choose}
use Rattle.floats.specs.Zed.{P, N, A, ◌⊑◌, ◌⊏◌, side, P_neg, N_neg, add_parts, ext}
use Rattle.floats.specs.Value.{signed}
use Rattle.floats.specs.Points.{int, is_whole, Whole, Held, ◌≼◌, ◌≺◌, ◌⊀◌, Is, Bounded}
use Rattle.floats.proofs.Points.{to_units}
use Rattle.floats.proofs.Quotients.{neg_is}
use Rattle.floats.specs.WholeRounding.{⅜f, NonNeg, Tol}
use Rattle.tolerances.specs.Laws.{laws}
use Rattle.points_kept.specs.Statements.{Tolerance}
use Rattle.points_kept.proofs.Integers.{size_add, size_sub, size_mul_le}
use Rattle.definition.specs.Tests.{and, taking, or, nor, or_intro, le_or, or_le}
use Rattle.points_kept.specs.WholeFloats.{Mag}

-- ---- what a whole float is not, its negation and its magnitude
pub finite : (x : Float) → Whole x → T (is_finite x)
unfolding is_whole is_finite
finite nan h = h.whole
finite (inf s) h = h.whole
finite (fin s m e) h = tt

pub not_infinite : (x : Float) → Whole x → T (not (is_infinite x))
unfolding is_whole is_infinite
not_infinite nan h = tt
not_infinite (inf s) h = absurd h.whole
not_infinite (fin s m e) h = tt

pub not_nan : (x : Float) → Whole x → T (is_nan x) → ⊥
unfolding is_nan is_whole
not_nan nan h t = h.whole
not_nan (inf s) h t = t
not_nan (fin s m e) h t = t

pub held : (x : Float) → Whole x → Held x
unfolding is_whole
held nan h = absurd h.whole
held (inf s) h = absurd h.whole
held (fin s m e) h = record { fits = (and (fits binary64 (fin s m e)) _ h.whole).0 }

pub whole_neg : (x : Float) → Whole x → Is (neg x) (neg_ℤ (int x))
whole_neg x h = neg_is x (int x) (to_units x h)

pub A_signed : (s : Bool) (n : ℕ) → A (signed s n) ≡ n
A_signed false n = omega arith
A_signed true n = omega (arith, P_neg (pos n), N_neg (pos n))

pub whole_abs : (x : Float) → Whole x → Is (abs x) (pos (A (int x)))
unfolding is_whole int abs fits
whole_abs nan h = absurd h.whole
whole_abs (inf s) h = absurd h.whole
whole_abs (fin s zero e) h = record { whole = record { whole = h.whole }; is = ap pos (sym (A_signed s (0 * up e / down e))) }
whole_abs (fin s (suc m) e) h = record { whole = record { whole = h.whole }; is = ap pos (sym (A_signed s (suc m * up e / down e))) }

-- ---- the order
pub le_of : {x y : Float} → Whole x → Whole y → int x ⊑ int y → x ≼ y
unfolding le
le_of p q h = record { le = rw (laws.lt_is p q, laws.eq_is p q) (le_or _ _ h) }

pub of_le : {x y : Float} → Whole x → Whole y → x ≼ y → int x ⊑ int y
unfolding le
of_le p q h = or_le _ _ (rw (laws.lt_is p q, laws.eq_is p q) at h.le)

pub lt_of : {x y : Float} → Whole x → Whole y → int x ⊏ int y → x ≺ y
lt_of p q h = record { lt = rw (laws.lt_is p q) (lt→ltb _ _ h) }

pub of_lt : {x y : Float} → Whole x → Whole y → x ≺ y → int x ⊏ int y
of_lt p q h = ltb→lt _ _ (rw (laws.lt_is p q) at h.lt)

pub of_nlt : {x y : Float} → Whole x → Whole y → x ⊀ y → int y ⊑ int x
of_nlt p q h = nltb→le _ _ (rw (laws.lt_is p q) at h.nlt)

pub self : {x : Float} → Whole x → x ≼ x
self {x} p = le_of p p (omega arith)

pub lt_le : {x y : Float} → x ≺ y → x ≼ y
unfolding le
lt_le {x} {y} h = record { le = or_intro (lt x y) (eq x y) (inl h.lt) }

-- ---- 0, 1 and tolerances
pub zero_is : Is 0f (pos 0)
unfolding is_whole int of_bits fits
zero_is = record { whole = record { whole = tt }; is = refl }

pub one_is : Is 1f (pos 1)
unfolding is_whole int of_bits fits
one_is = record { whole = record { whole = tt }; is = refl }

pub below_one : ⅜f ≺ 1f
unfolding lt of_bits
below_one = record { lt = tt }

pub half_nonneg : NonNeg ½f
unfolding le fits of_bits
half_nonneg = record { held = record { fits = tt }; low = record { le = tt } }

-- a whole number that is at most a tolerance is at most 0
pub small : {x t : Float} → Whole x → Tol t → x ≼ t → int x ⊑ pos 0
small {x} p t h =
    let l : x ≺ 1f = laws.le_lt_trans (laws.le_trans h t.high) below_one in
    let k : int x ⊏ int 1f = of_lt p one_is.whole l in
    omega (arith, ap P one_is.is, ap N one_is.is)

pub tol_nonneg : {t : Float} → Tol t → NonNeg t
tol_nonneg t = record { held = t.held; low = t.low }

pub whole_nonneg : {x : Float} → Whole x → pos 0 ⊑ int x → NonNeg x
whole_nonneg {x} p h = record { held = held x p; low = le_of zero_is.whole p (omega (arith, ap P zero_is.is, ap N zero_is.is)) }

-- x with something taken off, or y with something put on, still tells whole numbers apart
pub apart : {x y s t : Float} → Whole x → Whole y → NonNeg s → NonNeg t → (y ⊕ t) ≺ (x ⊖ s) → int y ⊏ int x
apart {x} {y} p q s t h = of_lt q p (laws.le_lt_trans (laws.add_keeps q (held y q) (self q) t) (laws.lt_le_trans h (laws.sub_keeps p (held x p) (self p) s)))

pub apart_le : {x y s t : Float} → Whole x → Whole y → NonNeg s → NonNeg t → (y ⊕ t) ≼ (x ⊖ s) → int y ⊑ int x
apart_le {x} {y} p q s t h = of_le q p (laws.le_trans (laws.add_keeps q (held y q) (self q) t) (laws.le_trans h (laws.sub_keeps p (held x p) (self p) s)))

pub tolerance : {x : Float} → Tolerance x → Tol x
unfolding le lt eq choose of_bits round
tolerance t = record { held = t.held; low = t.low; high = laws.le_trans t.high (record { le = tt }) }

-- ---- the sign of a coefficient other than 0
pub sign : (a : Float) → Whole a → T (not (eq a 0f)) → T (not (lt 0f a)) → int a ⊏ pos 0
sign a p n t =
    let z = zero_is in
    let l = of_nlt z.whole p (record { nlt = t }) in
    omega (arith, ne, ap P z.is, ap N z.is, side (int a))
  where
    ne : P (int a) + 0 ≢ 0 + N (int a)
    ne e = T_not (eq a 0f) n (subst T (sym (laws.eq_is p zero_is.whole)) (subst (λ (k : ℕ). T (eqb (P (int a) + N (int 0f)) k)) (same e) (eqb_refl (P (int a) + N (int 0f)))))
      where
        same : P (int a) + 0 ≡ 0 + N (int a) → P (int a) + N (int 0f) ≡ P (int 0f) + N (int a)
        same e = omega (arith, ap P zero_is.is, ap N zero_is.is)

pub sign_pos : (a : Float) → Whole a → T (lt 0f a) → pos 0 ⊏ int a
sign_pos a p t =
    let z = zero_is in
    omega (arith, of_lt z.whole p (record { lt = t }), ap P z.is, ap N z.is)

-- ---- sums, differences and products of whole numbers of known sizes
pub sized : {x : Float} {z : ℤ} {k : ℕ} → Is x z → A z ≤ k → k ≤ 2 ^ 53 → Bounded (2 ^ 53) x
sized {x} {z} {k} p h l = record { whole = p.whole; small = subst (λ (y : ℤ). A y ≤ 2 ^ 53) (sym p.is) (omega arith) }

pub sum : {x y : Float} {a b : ℤ} (j k : ℕ) → Is x a → Is y b → A a ≤ j → A b ≤ k → j + k ≤ 2 ^ 53 → Is (x ⊕ y) (a +ℤ b)
sum {x} {y} {a} {b} j k p q h l s =
    let r = laws.add_is (sized p h (omega arith)) (sized q l (omega arith))
    (subst (λ (z : ℤ). A (z +ℤ int y) ≤ 2 ^ 53) (sym p.is) (subst (λ (z : ℤ). A (a +ℤ z) ≤ 2 ^ 53) (sym q.is) (omega (arith, size_add a b)))) in
    record { whole = r.whole; is = r.is ∙ ap (λ (z : ℤ). z +ℤ int y) p.is ∙ ap (λ (z : ℤ). a +ℤ z) q.is }

pub diff : {x y : Float} {a b : ℤ} (j k : ℕ) → Is x a → Is y b → A a ≤ j → A b ≤ k → j + k ≤ 2 ^ 53 → Is (x ⊖ y) (a -ℤ b)
diff {x} {y} {a} {b} j k p q h l s =
    let r = laws.sub_is (sized p h (omega arith)) (sized q l (omega arith))
    (subst (λ (z : ℤ). A (z -ℤ int y) ≤ 2 ^ 53) (sym p.is) (subst (λ (z : ℤ). A (a -ℤ z) ≤ 2 ^ 53) (sym q.is) (omega (arith, size_sub a b)))) in
    record { whole = r.whole; is = r.is ∙ ap (λ (z : ℤ). z -ℤ int y) p.is ∙ ap (λ (z : ℤ). a -ℤ z) q.is }

-- a product of a coefficient and a bound
pub product : {a x : Float} {z : ℤ} → Bounded (2 ^ 15) a → Is x z → A z ≤ 2 ^ 20 → Is (a ⊗ x) (int a *ℤ z) × (A (int a *ℤ z) ≤ 2 ^ 35)
product {a} {x} {z} c p h =
    let s : A (int a *ℤ z) ≤ 2 ^ 15 * 2 ^ 20 = size_mul_le (int a) z (2 ^ 15) (2 ^ 20) c.small h in
    let r = laws.mul_is (record { whole = c.whole; small = omega (arith, c.small) }) (sized p h (omega arith)) (subst (λ (y : ℤ). A (int a *ℤ y) ≤ 2 ^ 53) (sym p.is) (omega arith)) in
    (record { whole = r.whole; is = r.is ∙ ap (λ (y : ℤ). int a *ℤ y) p.is }, omega arith)

pub mag_sum : {x y : Float} {j k : ℕ} → Mag j x → Mag k y → j + k ≤ 2 ^ 53 → Mag (j + k) (x ⊕ y)
mag_sum {x} {y} p q s =
    let r = laws.add_is (record { whole = p.whole; small = omega (arith, p.small) }) (record { whole = q.whole; small = omega (arith, q.small) })
    (omega (arith, size_add (int x) (int y), p.small, q.small)) in
    record {
      whole = r.whole;
      nonneg = omega (arith, ap P r.is, ap N r.is, add_parts (int x) (int y), p.nonneg, q.nonneg);
      small = omega (arith, ap P r.is, ap N r.is, size_add (int x) (int y), p.small, q.small);
    }

pub abs_bounded : {x : Float} {k : ℕ} → Bounded k x → Bounded k (abs x)
abs_bounded {x} b =
    let h = whole_abs x b.whole in
    record { whole = h.whole; small = omega (arith, b.small, ap P h.is, ap N h.is) }

pub abs_pos : {x : Float} → Whole x → pos 0 ⊑ int (abs x)
abs_pos {x} h = let e = whole_abs x h in omega (arith, ap P e.is, ap N e.is)

pub mag_abs : {x : Float} {k : ℕ} → Bounded k x → Mag k (abs x)
mag_abs b = record { whole = (abs_bounded b).whole; nonneg = abs_pos b.whole; small = (abs_bounded b).small }

-- ---- the smaller and the larger of two whole numbers in a known order
pub max_is : {x y : Float} → Whole x → Whole y → int x ⊑ int y → Is (maxf x y) (int y)
unfolding maxf
max_is {x} {y} p q h =
    taking (λ (u : Float). Is u (int y)) (is_nan x || lt x y) (λ t. record { whole = q; is = refl })
    (λ t. record { whole = p; is = ext (int x) (int y) (omega (arith, of_nlt p q (record { nlt = (nor (is_nan x) (lt x y) t).1 }))) })

pub min_is : {x y : Float} → Whole x → Whole y → int y ⊑ int x → Is (minf x y) (int y)
unfolding minf
min_is {x} {y} p q h =
    taking (λ (u : Float). Is u (int y)) (is_nan x || lt y x) (λ t. record { whole = q; is = refl })
    (λ t. record { whole = p; is = ext (int x) (int y) (omega (arith, of_nlt q p (record { nlt = (nor (is_nan x) (lt y x) t).1 }))) })

pub min_left : {x y : Float} → Whole x → Whole y → int x ⊑ int y → Is (minf x y) (int x)
unfolding minf
min_left {x} {y} p q h =
    taking (λ (u : Float). Is u (int x)) (is_nan x || lt y x)
    (λ t. elim (or (is_nan x) (lt y x) t) [ inl n ↦ absurd (not_nan x p n) | inr l ↦ absurd (no (of_lt q p (record { lt = l }))) ])
    (λ t. record { whole = p; is = refl })
  where
    no : int y ⊏ int x → ⊥
    no k = omega arith

pub max_left : {x y : Float} → Whole x → Whole y → int y ⊑ int x → Is (maxf x y) (int x)
unfolding maxf
max_left {x} {y} p q h =
    taking (λ (u : Float). Is u (int x)) (is_nan x || lt x y)
    (λ t. elim (or (is_nan x) (lt x y) t) [ inl n ↦ absurd (not_nan x p n) | inr l ↦ absurd (no (of_lt p q (record { lt = l }))) ])
    (λ t. record { whole = p; is = refl })
  where
    no : int x ⊏ int y → ⊥
    no k = omega arith

-- ---- infinities
pub ∞_is : ∞f ≡ inf false
unfolding of_bits
∞_is = refl

pub -∞_is : -∞f ≡ inf true
unfolding of_bits
-∞_is = refl

-- an infinity over a whole number is not finite
pub inf_div : (s : Bool) (a : Float) → Whole a → T (is_finite (inf s ⊘ a)) → ⊥
unfolding is_finite div is_whole
inf_div s nan h t = t
inf_div s (inf u) h t = t
inf_div s (fin u m e) h t = t

pub ∞_not : T (is_finite ∞f) → ⊥
unfolding is_finite of_bits
∞_not t = t

pub -∞_not : T (is_finite -∞f) → ⊥
unfolding is_finite of_bits
-∞_not t = t

-- an infinity less a whole number is that infinity
pub inf_sub : (s : Bool) (y : Float) → Whole y → inf s ⊖ y ≡ inf s
unfolding sub add neg is_whole
inf_sub s nan h = absurd h.whole
inf_sub s (inf u) h = absurd h.whole
inf_sub s (fin u m e) h = refl
