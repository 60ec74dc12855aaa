-- A ROW'S SUM IS EXACT, whatever its length: parts that are whole numbers of a known size add up to the exact total, each addition rounding once and none of them changing anything,
-- as long as the sizes together stay within 2 ^ 53. The parts may be products of coefficients and values, or their magnitudes. A row's activity is such a sum.
use Rattle.std.specs.Prelude.{◌≡◌, ℕ, suc, ◌+◌, ◌*◌, ◌^◌, ◌≤◌, Bool, true, List, [], ◌∷◌, length, ℤ, pos, ◌+ℤ◌, ◌*ℤ◌, Float}
use Rattle.std.proofs.Math.Path.{refl}
use Rattle.std.proofs.Common.{sym, ap, ◌∙◌, subst, le_trans, le_of_eq, mul-le-mul, add-zero, arith}
use Rattle.std.proofs.Math.IntN.{+ℤ_assoc, +ℤ_idr}
use Rattle.floats.specs.Zed.{A, side, add_parts}
use Rattle.floats.specs.Whole.{size_mul}
use Rattle.floats.proofs.Extremes.{num_finite}
use Rattle.floats.specs.Points.{int, Bounded}
use Rattle.floats.proofs.Points.{whole_num, add_is, mul_is, abs_is}
use Rattle.floats.specs.Num.{choose, ◌⊕◌, ◌⊗◌, abs}
use Rattle.floats.specs.Rows.{Each, Part, sum_finite, sum_from, total, total_from}

pub total_from_lem : {B : Type 0} (whole : B → ℤ) (z : ℤ) (ts : List B) → total_from whole z ts ≡ z +ℤ total whole ts
unfolding total_from total
total_from_lem whole z [] = sym (+ℤ_idr z)
total_from_lem whole z (t ∷ ts) = total_from_lem whole (z +ℤ whole t) ts ∙ +ℤ_assoc z (whole t) (total whole ts)

pub size_add : (a b : ℤ) → A (a +ℤ b) ≤ A a + A b
size_add a b = omega (arith, add_parts a b, side (a +ℤ b))

pub within : {k : ℕ} {x : Float} {z : ℤ} → Part k x z → k ≤ 2 ^ 53 → Bounded (2 ^ 53) x
within p h = record { whole = p.is.whole; small = le_trans (le_of_eq (ap A p.is.is)) (le_trans p.small h) }

pub part_of : {k : ℕ} {x : Float} → Bounded k x → Part k x (int x)
part_of b = record { is = record { whole = b.whole; is = refl }; small = b.small }

pub part_sum : {j k : ℕ} {x y : Float} {a b : ℤ} → Part j x a → Part k y b → j + k ≤ 2 ^ 53 → Part (j + k) (x ⊕ y) (a +ℤ b)
part_sum {j} {k} {x} {y} {a} {b} p q h =
    let e : int x +ℤ int y ≡ a +ℤ b = ap (λ (z : ℤ). z +ℤ int y) p.is.is ∙ ap (λ (z : ℤ). a +ℤ z) q.is.is in
    let s : A (a +ℤ b) ≤ j + k = omega (arith, size_add a b, p.small, q.small) in
    let r = add_is (within p (omega arith)) (within q (omega arith)) (subst (λ (z : ℤ). A z ≤ 2 ^ 53) (sym e) (le_trans s h)) in
    record { is = record { whole = r.whole; is = r.is ∙ e }; small = s }

pub part_product : {j k : ℕ} {x y : Float} {a b : ℤ} → Part j x a → Part k y b → j ≤ 2 ^ 53 → k ≤ 2 ^ 53 → j * k ≤ 2 ^ 53 → Part (j * k) (x ⊗ y) (a *ℤ b)
part_product {j} {k} {x} {y} {a} {b} p q hj hk h =
    let e : int x *ℤ int y ≡ a *ℤ b = ap (λ (z : ℤ). z *ℤ int y) p.is.is ∙ ap (λ (z : ℤ). a *ℤ z) q.is.is in
    let s : A (a *ℤ b) ≤ j * k = le_trans (le_of_eq (size_mul a b)) (mul-le-mul p.small q.small) in
    let r = mul_is (within p hj) (within q hk) (subst (λ (z : ℤ). A z ≤ 2 ^ 53) (sym e) (le_trans s h)) in
    record { is = record { whole = r.whole; is = r.is ∙ e }; small = s }

pub part_abs : {k : ℕ} {x : Float} {z : ℤ} → Part k x z → Part k (abs x) (pos (A z))
part_abs {k} {x} {z} p =
    let r = abs_is p.is.whole in
    record { is = record { whole = r.whole; is = r.is ∙ ap (λ (y : ℤ). pos (A y)) p.is.is }; small = le_trans (le_of_eq (add-zero (A z))) p.small }

-- ---- THE SUM OVER A ROW of any length, of parts of a size of at most w
pub row_sum : {B : Type 0} (part : B → Float) (whole : B → ℤ) (w : ℕ) {j : ℕ} {s : Float} {z : ℤ} (ts : List B)
    → Each (λ t. Part w (part t) (whole t)) ts → Part j s z → j + length ts * w ≤ 2 ^ 53 → Part (j + length ts * w) (sum_from part s ts) (total_from whole z ts)
unfolding sum_from total_from
row_sum part whole w {j} {s} {z} [] e p h = subst (λ (k : ℕ). Part k s z) (none j w) p
  where
    none : (j w : ℕ) → j ≡ j + 0 * w
    none j w = omega arith
row_sum part whole w {j} {s} {z} (t ∷ ts) e p h =
    subst (λ (k : ℕ). Part k (sum_from part (s ⊕ part t) ts) (total_from whole (z +ℤ whole t) ts)) (one j w (length ts))
    (row_sum part whole w {j = j + w} ts e.1 (part_sum p e.0 (first j w (length ts) (2 ^ 53) h)) (le_trans (le_of_eq (one j w (length ts))) h))
  where
    one : (j w n : ℕ) → j + w + n * w ≡ j + suc n * w
    one j w n = omega arith

    first : (j w n t : ℕ) → j + suc n * w ≤ t → j + w ≤ t
    first j w n t h = omega arith

pub sum_finite_is : {B : Type 0} (part : B → Float) (whole : B → ℤ) (w : ℕ) (s : Float) (ts : List B) → Each (λ t. Part w (part t) (whole t)) ts → sum_finite part s ts ≡ sum_from part s ts
unfolding sum_finite sum_from
sum_finite_is part whole w s [] e = refl
sum_finite_is part whole w s (t ∷ ts) e =
    ap (λ (z : Float). sum_finite part z ts) (ap (λ (b : Bool). choose b (s ⊕ part t) s) (num_finite (part t) (whole_num (part t) e.0.is.whole)) ∙ kept (s ⊕ part t) s)
    ∙ sum_finite_is part whole w (s ⊕ part t) ts e.1
  where
    kept : (x y : Float) → choose true x y ≡ x
    kept x y = unfold choose in refl

-- ---- of products: coefficients of a size of at most a, values of at most b
module _ {B : Type 0} (coeff value : B → Float) (a b : ℕ) (ha : a ≤ 2 ^ 53) (hb : b ≤ 2 ^ 53) (hab : a * b ≤ 2 ^ 53) where
  pub each_product : (ts : List B) → Each (λ t. Bounded a (coeff t) × Bounded b (value t)) ts → Each (λ t. Part (a * b) (coeff t ⊗ value t) (int (coeff t) *ℤ int (value t))) ts
  each_product [] e = tt
  each_product (t ∷ ts) e = (part_product (part_of e.0.0) (part_of e.0.1) ha hb hab, each_product ts e.1)

  pub each_size : (ts : List B) → Each (λ t. Bounded a (coeff t) × Bounded b (value t)) ts → Each (λ t. Part (a * b) (abs (coeff t ⊗ value t)) (pos (A (int (coeff t) *ℤ int (value t))))) ts
  each_size [] e = tt
  each_size (t ∷ ts) e = (part_abs (part_product (part_of e.0.0) (part_of e.0.1) ha hb hab), each_size ts e.1)

  pub row_products : {j : ℕ} {s : Float} {z : ℤ} (ts : List B) → Each (λ t. Bounded a (coeff t) × Bounded b (value t)) ts → Part j s z → j + length ts * (a * b) ≤ 2 ^ 53
      → Part (j + length ts * (a * b)) (sum_from (λ t. coeff t ⊗ value t) s ts) (total_from (λ t. int (coeff t) *ℤ int (value t)) z ts)
  row_products ts e p h = row_sum (λ t. coeff t ⊗ value t) (λ t. int (coeff t) *ℤ int (value t)) (a * b) ts (each_product ts e) p h

  -- and of their magnitudes
  pub row_magnitudes : {j : ℕ} {s : Float} {z : ℤ} (ts : List B) → Each (λ t. Bounded a (coeff t) × Bounded b (value t)) ts → Part j s z → j + length ts * (a * b) ≤ 2 ^ 53
      → Part (j + length ts * (a * b)) (sum_from (λ t. abs (coeff t ⊗ value t)) s ts) (total_from (λ t. pos (A (int (coeff t) *ℤ int (value t)))) z ts)
  row_magnitudes ts e p h = row_sum (λ t. abs (coeff t ⊗ value t)) (λ t. pos (A (int (coeff t) *ℤ int (value t)))) (a * b) ts (each_size ts e) p h
