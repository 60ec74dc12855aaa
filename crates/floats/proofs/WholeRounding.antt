-- THE FLOAT LAWS THAT A PROOF ABOUT FARM MODELS RESTS ON: a whole number that is below an exact value stays below what it rounds to; floor and ceil keep to it; half a unit, or a tolerance of at most
-- 3/8, tells whole numbers apart and moves no whole bound; quotients round to the right side; tolerances, margins and slacks are not negative.
use Rattle.std.specs.Prelude.{◌≡◌, ◌⊎◌, ℕ, ◌+◌, ◌*◌, ◌^◌, ◌≤◌, ◌<◌, Bool, true, false, not, T, ℤ, pos, neg_ℤ, ◌+ℤ◌, ◌-ℤ◌}
use Rattle.std.proofs.Math.Path.{refl}
use Rattle.std.proofs.Common.{sym, ap, ◌∙◌, subst, inl, inr, zero-le, le_of_eq, lt_of_le_of_lt, not-le_of_lt, zero-mul, mul-le-mul_right, arith, lit<, lit≤}
use Rattle.std.proofs.Math.Nat as Nat
use lib.Ieee.{Float, nan, inf, fin, binary64, fits, is_nan, lt, le, neg, add, sub, round, of_bits}
use Rattle.floats.specs.Near.{Rep, rep_scaled}
use Rattle.floats.specs.Zed.{P, N, A, ◌⊑◌, ◌⊏◌, side, ext, P_neg, N_neg, add_parts, sub_parts}
use Rattle.floats.specs.Signed.{rep_zero}
use Rattle.floats.specs.Value.{mags, sign, units, signed, size_of, Num}
use Rattle.floats.specs.Norm.{Parts, parts_units}
use Rattle.floats.specs.Whole as W
use Rattle.floats.specs.Whole.{sc, P_sc, N_sc}
use Rattle.floats.specs.Order.{Real, nan_real, num_real, le_real, rank, rank_num, le→⊑, ⊑→le, ⊏→lt, nlt→⊑}
use Rattle.floats.proofs.Meaning.{floor_value, ceil_value, floor_greatest, ceil_least, floor_nan, floor_inf, ceil_nan, ceil_inf, sc_mono, tight}
use Rattle.floats.specs.Ranks as K
use Rattle.floats.specs.Ranks.{quot_above, quot_below, sum_result, sub_result, held_of}
use Rattle.floats.specs.Points.{int, Whole, ◌≼◌, ◌≺◌, ◌⊀◌, Held, Bounded, Is}
use Rattle.floats.proofs.Points.{to_units, of_units, whole_num, whole_real, whole_rank}
use Rattle.floats.proofs.Compare.{lt_le}
use Rattle.floats.specs.Num.{◌⊕◌, ◌⊖◌, 0f, ½f, floor, ceil}
use Rattle.floats.specs.WholeRounding.{NonNeg, Tol, ⅜f}

pub eighths_literal : ⅜f ≡ round binary64 false 375 1000
unfolding of_bits round
eighths_literal = refl

-- ---- constants
pub zero_num : Num 0f
unfolding of_bits fits
zero_num = (tt, tt)

pub zero_units : units 0f ≡ pos 0
unfolding of_bits units sign mags
zero_units = refl

pub zero_rank : rank 0f ≡ pos 0
zero_rank = rank_num 0f zero_num ∙ zero_units

pub half_parts : Parts ½f false (2 ^ 1073)
unfolding of_bits mags sign fits
half_parts = record { num = (tt, tt); sgn = refl; mag = refl }

pub eighths : Parts ⅜f false (3 * 2 ^ 1071)
unfolding of_bits mags sign fits
eighths = record { num = (tt, tt); sgn = refl; mag = refl }

-- ---- what is known of a float
pub cases : (x : Float) → Real x → Num x ⊎ ((x ≡ inf true) ⊎ (x ≡ inf false))
cases nan h = absurd (nan_real h)
cases (inf true) h = inr (inl refl)
cases (inf false) h = inr (inr refl)
cases (fin s m e) h = inl (tt, h.fit)

pub real_r : {x y : Float} → Held y → x ≼ y → Real y
real_r {x} {y} h o = record { fit = h.fits; real = (le_real x y o.le).1 }

pub real_l : {x y : Float} → Held x → x ≼ y → Real x
real_l {x} {y} h o = record { fit = h.fits; real = (le_real x y o.le).0 }

pub real_0 : Real 0f
real_0 = num_real 0f zero_num

pub nonneg_real : {x : Float} → NonNeg x → Real x
nonneg_real h = real_r h.held h.low

pub nonneg_rank : {x : Float} → NonNeg x → pos 0 ⊑ rank x
nonneg_rank {x} h = subst (λ (z : ℤ). z ⊑ rank x) zero_rank (le→⊑ 0f x real_0 (nonneg_real h) h.low.le)

pub nonneg_of : {x : Float} → Real x → pos 0 ⊑ rank x → NonNeg x
nonneg_of {x} h o = record { held = record { fits = h.fit }; low = record { le = ⊑→le 0f x real_0 h (subst (λ (z : ℤ). z ⊑ rank x) (sym zero_rank) o) } }

pub eighths_rank : rank ⅜f ≡ pos (3 * 2 ^ 1071)
eighths_rank = rank_num ⅜f eighths.num ∙ parts_units ⅜f false (3 * 2 ^ 1071) eighths

pub tol_real : {x : Float} → Tol x → Real x
tol_real h = real_r h.held h.low

pub tol_low : {x : Float} → Tol x → pos 0 ⊑ rank x
tol_low {x} h = nonneg_rank (record { held = h.held; low = h.low })

pub tol_high : {x : Float} → Tol x → rank x ⊑ pos (3 * 2 ^ 1071)
tol_high {x} h = subst (λ (z : ℤ). rank x ⊑ z) eighths_rank (le→⊑ x ⅜f (tol_real h) (num_real ⅜f eighths.num) h.high.le)

pub tol_of : {x : Float} → Real x → pos 0 ⊑ rank x → rank x ⊑ pos (3 * 2 ^ 1071) → Tol x
tol_of {x} h o k = record {
  held = record { fits = h.fit };
  low = (nonneg_of h o).low;
  high = record { le = ⊑→le x ⅜f h (num_real ⅜f eighths.num) (subst (λ (z : ℤ). rank x ⊑ z) (sym eighths_rank) k) };
}

-- no infinity lies between two numbers
pub far_rank : (s : Bool) → rank (inf s) ≡ signed s (2 ^ 2098)
unfolding rank
far_rank true = refl
far_rank false = refl

pub small_num : (x : Float) (k : ℕ) → Real x → A (rank x) ≤ k → k < 2 ^ 2098 → Num x
small_num x k h a b = elim (cases x h) [
  | inl n ↦ n
  | inr (inl e) ↦ absurd (not-le_of_lt b (Nat.le_trans (le_of_eq (sym (ap (λ (y : Float). A (rank y)) e ∙ ap A (far_rank true)))) a))
  | inr (inr e) ↦ absurd (not-le_of_lt b (Nat.le_trans (le_of_eq (sym (ap (λ (y : Float). A (rank y)) e ∙ ap A (far_rank false)))) a))
]

pub tol_num : {x : Float} → Tol x → Num x
tol_num {x} h = small_num x (3 * 2 ^ 1071) (tol_real h) (at (rank x) (3 * 2 ^ 1071) (tol_low h) (tol_high h)) (lit< tt)
  where
    at : (z : ℤ) (k : ℕ) → pos 0 ⊑ z → z ⊑ pos k → A z ≤ k
    at z k h l = omega (arith, side z)

-- ---- rounding keeps the order
pub one : (w : ℤ) (p n : ℕ) → P w + n ≤ p + N w → P w * 1 + n ≤ p + N w * 1
one w p n h = omega arith

pub one' : (w : ℤ) (p n : ℕ) → p + N w ≤ P w + n → p + N w * 1 ≤ P w * 1 + n
one' w p n h = omega arith

pub sum_above : (x y : Float) → Num x → Num y → (w : ℤ) → K.HeldRank w → w ⊑ units x +ℤ units y → w ⊑ rank (x ⊕ y)
sum_above x y hx hy w hw o = let z = units x +ℤ units y in quot_above (rank (x ⊕ y)) w (P z) (N z) 1 (sum_result x y hx hy).quot hw (one w (P z) (N z) o)

pub sum_below : (x y : Float) → Num x → Num y → (w : ℤ) → K.HeldRank w → units x +ℤ units y ⊑ w → rank (x ⊕ y) ⊑ w
sum_below x y hx hy w hw o = let z = units x +ℤ units y in quot_below (rank (x ⊕ y)) w (P z) (N z) 1 (sum_result x y hx hy).quot hw (one' w (P z) (N z) o)

pub sub_above : (x y : Float) → Num x → Num y → (w : ℤ) → K.HeldRank w → w ⊑ units x -ℤ units y → w ⊑ rank (x ⊖ y)
sub_above x y hx hy w hw o = let z = units x -ℤ units y in quot_above (rank (x ⊖ y)) w (P z) (N z) 1 (sub_result x y hx hy).quot hw (one w (P z) (N z) o)

pub sub_below : (x y : Float) → Num x → Num y → (w : ℤ) → K.HeldRank w → units x -ℤ units y ⊑ w → rank (x ⊖ y) ⊑ w
sub_below x y hx hy w hw o = let z = units x -ℤ units y in quot_below (rank (x ⊖ y)) w (P z) (N z) 1 (sub_result x y hx hy).quot hw (one' w (P z) (N z) o)

-- a sum with an infinity
pub inf_real : (s : Bool) → Real (inf s)
inf_real s = record { fit = lib.Ieee.Fits.inf-fits binary64 s; real = unfold is_nan in refl }

pub num_fin : (x : Float) → Num x → (s : Bool) → (inf s ⊕ x ≡ inf s) × (x ⊕ inf s ≡ inf s)
unfolding add
num_fin nan h s = absurd h.0
num_fin (inf t) h s = absurd h.0
num_fin (fin t m e) h s = (refl, refl)

pub inf_inf : inf false ⊕ inf false ≡ inf false
unfolding add
inf_inf = refl

pub top : {x : Float} → Real x → x ≼ inf false
top {x} h = record { le = ⊑→le x (inf false) h (inf_real false) (subst (λ (z : ℤ). rank x ⊑ z) (sym (far_rank false)) (over (rank x) (2 ^ 2098) (held_of x h).high)) }
  where
    over : (z : ℤ) (k : ℕ) → P z ≤ k → z ⊑ pos k
    over z k h = omega arith

pub bottom : {x : Float} → Real x → inf true ≼ x
bottom {x} h = record { le = ⊑→le (inf true) x (inf_real true) h (subst (λ (z : ℤ). z ⊑ rank x) (sym (far_rank true)) (under (rank x) (2 ^ 2098) (held_of x h).low)) }
  where
    under : (z : ℤ) (k : ℕ) → N z ≤ k → neg_ℤ (pos k) ⊑ z
    under z k h = omega (arith, P_neg (pos k), N_neg (pos k))

-- an infinity is no number's bound on the wrong side
pub no_below : {x : Float} → Num x → x ≼ inf true → ⊥
no_below {x} h o =
    let k = le→⊑ x (inf true) (num_real x h) (inf_real true) o.le in
    absurd (no (units x) (2 ^ 2098) (lt_of_le_of_lt (le_of_eq (size_of x)) (Rattle.floats.specs.Value.mags_under x h))
    (subst (λ (z : ℤ). z ⊑ neg_ℤ (pos (2 ^ 2098))) (rank_num x h) (subst (λ (z : ℤ). rank x ⊑ z) (far_rank true) k)))
  where
    no : (z : ℤ) (k : ℕ) → A z < k → z ⊑ neg_ℤ (pos k) → ⊥
    no z k a b = omega (arith, P_neg (pos k), N_neg (pos k))

pub no_above : {x : Float} → Num x → inf false ≼ x → ⊥
no_above {x} h o =
    let k = le→⊑ (inf false) x (inf_real false) (num_real x h) o.le in
    absurd (no (units x) (2 ^ 2098) (lt_of_le_of_lt (le_of_eq (size_of x)) (Rattle.floats.specs.Value.mags_under x h))
    (subst (λ (z : ℤ). pos (2 ^ 2098) ⊑ z) (rank_num x h) (subst (λ (z : ℤ). z ⊑ rank x) (far_rank false) k)))
  where
    no : (z : ℤ) (k : ℕ) → A z < k → pos k ⊑ z → ⊥
    no z k a b = omega arith

-- 0 or more: a number, or +∞
pub nonneg_cases : {s : Float} → NonNeg s → Num s ⊎ (s ≡ inf false)
nonneg_cases {s} h = elim (cases s (nonneg_real h)) [ inl n ↦ inl n | inr (inl e) ↦ absurd (no_below zero_num (subst (λ (x : Float). 0f ≼ x) e h.low)) | inr (inr e) ↦ inr e ]

pub add_keeps : {x y s : Float} → Whole x → Held y → x ≼ y → NonNeg s → x ≼ (y ⊕ s)
add_keeps {x} {y} {s} a hy o ns = go (cases y ry) (nonneg_cases ns)
  where
    ry : Real y
    ry = real_r hy o

    go : Num y ⊎ ((y ≡ inf true) ⊎ (y ≡ inf false)) → Num s ⊎ (s ≡ inf false) → x ≼ (y ⊕ s)
    go (inl n) (inl m) = record {
      le = ⊑→le x (y ⊕ s) (whole_real x a) (sum_result y s n m).real (sum_above y s n m (rank x) (held_of x (whole_real x a))
          (more (rank x) (units y) (units s) (subst (λ (z : ℤ). rank x ⊑ z) (rank_num y n) (le→⊑ x y (whole_real x a) ry o.le)) (subst (λ (z : ℤ). pos 0 ⊑ z) (rank_num s m) (nonneg_rank ns))));
    }
      where
        more : (x y s : ℤ) → x ⊑ y → pos 0 ⊑ s → x ⊑ y +ℤ s
        more x y s h k = omega (arith, add_parts y s)
    go (inl n) (inr e) = subst (λ (z : Float). x ≼ z) (sym (ap (λ (t : Float). y ⊕ t) e ∙ (num_fin y n false).1)) (top (whole_real x a))
    go (inr (inl e)) m = absurd (no_below (whole_num x a) (subst (λ (z : Float). x ≼ z) e o))
    go (inr (inr e)) (inl m) = subst (λ (z : Float). x ≼ z) (sym (ap (λ (t : Float). t ⊕ s) e ∙ (num_fin s m false).0)) (top (whole_real x a))
    go (inr (inr e)) (inr f) = subst (λ (z : Float). x ≼ z) (sym (ap (λ (t : Float). t ⊕ s) e ∙ ap (λ (t : Float). inf false ⊕ t) f ∙ inf_inf)) (top (whole_real x a))

pub num_minus : (x : Float) → Num x → (inf true ⊖ x ≡ inf true) × (x ⊖ inf false ≡ inf true)
unfolding sub add neg
num_minus nan h = absurd h.0
num_minus (inf t) h = absurd h.0
num_minus (fin t m e) h = (refl, refl)

pub minus_minus : inf true ⊖ inf false ≡ inf true
unfolding sub add neg
minus_minus = refl

pub sub_keeps : {x y s : Float} → Whole x → Held y → y ≼ x → NonNeg s → (y ⊖ s) ≼ x
sub_keeps {x} {y} {s} a hy o ns = go (cases y ry) (nonneg_cases ns)
  where
    ry : Real y
    ry = real_l hy o

    go : Num y ⊎ ((y ≡ inf true) ⊎ (y ≡ inf false)) → Num s ⊎ (s ≡ inf false) → (y ⊖ s) ≼ x
    go (inl n) (inl m) = record {
      le = ⊑→le (y ⊖ s) x (sub_result y s n m).real (whole_real x a) (sub_below y s n m (rank x) (held_of x (whole_real x a))
          (more (rank x) (units y) (units s) (subst (λ (z : ℤ). z ⊑ rank x) (rank_num y n) (le→⊑ y x ry (whole_real x a) o.le)) (subst (λ (z : ℤ). pos 0 ⊑ z) (rank_num s m) (nonneg_rank ns))));
    }
      where
        more : (x y s : ℤ) → y ⊑ x → pos 0 ⊑ s → y -ℤ s ⊑ x
        more x y s h k = omega (arith, sub_parts y s)
    go (inl n) (inr e) = subst (λ (z : Float). z ≼ x) (sym (ap (λ (t : Float). y ⊖ t) e ∙ (num_minus y n).1)) (bottom (whole_real x a))
    go (inr (inr e)) m = absurd (no_above (whole_num x a) (subst (λ (z : Float). z ≼ x) e o))
    go (inr (inl e)) (inl m) = subst (λ (z : Float). z ≼ x) (sym (ap (λ (t : Float). t ⊖ s) e ∙ (num_minus s m).0)) (bottom (whole_real x a))
    go (inr (inl e)) (inr f) = subst (λ (z : Float). z ≼ x) (sym (ap (λ (t : Float). t ⊖ s) e ∙ ap (λ (t : Float). inf true ⊖ t) f ∙ minus_minus)) (bottom (whole_real x a))

-- ---- floor and ceil
pub floor_keeps : {x y : Float} → Whole x → Held y → x ≼ y → x ≼ (floor y)
floor_keeps {x} {y} a hy o = elim (cases y (real_r hy o)) [
  | inl n ↦
      let g = floor_greatest y x (int x) n (to_units x a) (subst (λ (z : ℤ). z ⊑ units y) (rank_num x (whole_num x a))
      (subst (λ (z : ℤ). rank x ⊑ z) (rank_num y n) (le→⊑ x y (whole_real x a) (num_real y n) o.le))) in
      let nf = (floor_value y n).is.num in
      record {
        le = ⊑→le x (floor y) (whole_real x a) (num_real (floor y) nf) (subst (λ (z : ℤ). z ⊑ rank (floor y)) (sym (rank_num x (whole_num x a)))
            (subst (λ (z : ℤ). units x ⊑ z) (sym (rank_num (floor y) nf)) g.1));
      }
  | inr (inl e) ↦ absurd (no_below (whole_num x a) (subst (λ (z : Float). x ≼ z) e o))
  | inr (inr e) ↦ subst (λ (z : Float). x ≼ z) (sym (ap floor e ∙ floor_inf false)) (top (whole_real x a))
]

pub ceil_keeps : {x y : Float} → Whole x → Held y → y ≼ x → (ceil y) ≼ x
ceil_keeps {x} {y} a hy o = elim (cases y (real_l hy o)) [
  | inl n ↦
      let g = ceil_least y x (int x) n (to_units x a) (subst (λ (z : ℤ). units y ⊑ z) (rank_num x (whole_num x a))
      (subst (λ (z : ℤ). z ⊑ rank x) (rank_num y n) (le→⊑ y x (num_real y n) (whole_real x a) o.le))) in
      let nf = (ceil_value y n).is.num in
      record {
        le = ⊑→le (ceil y) x (num_real (ceil y) nf) (whole_real x a) (subst (λ (z : ℤ). rank (ceil y) ⊑ z) (sym (rank_num x (whole_num x a)))
            (subst (λ (z : ℤ). z ⊑ units x) (sym (rank_num (ceil y) nf)) g.1));
      }
  | inr (inl e) ↦ subst (λ (z : Float). z ≼ x) (sym (ap ceil e ∙ ceil_inf true)) (bottom (whole_real x a))
  | inr (inr e) ↦ absurd (no_above (whole_num x a) (subst (λ (z : Float). z ≼ x) e o))
]

-- what floor and ceil give of a float that is held, and no NaN
pub floor_real : (y : Float) → Held y → is_nan (floor y) ≡ false → Real y
floor_real nan h e = absurd (subst T (sym (ap is_nan floor_nan) ∙ e) (unfold is_nan in tt))
floor_real (inf s) h e = inf_real s
floor_real (fin s m d) h e = record { fit = h.fits; real = unfold is_nan in refl }

pub ceil_real : (y : Float) → Held y → is_nan (ceil y) ≡ false → Real y
ceil_real nan h e = absurd (subst T (sym (ap is_nan ceil_nan) ∙ e) (unfold is_nan in tt))
ceil_real (inf s) h e = inf_real s
ceil_real (fin s m d) h e = record { fit = h.fits; real = unfold is_nan in refl }

pub floor_whole : {l h y : Float} → Whole l → Whole h → Held y → l ≼ (floor y) → (floor y) ≼ h → Whole (floor y)
floor_whole {l} {h} {y} a b hy o k = elim (cases y (floor_real y hy (le_real l (floor y) o.le).1)) [
  | inl n ↦ let F = floor_value y n in (of_units (floor y) F.k F.is).whole
  | inr (inl e) ↦ absurd (no_below (whole_num l a) (subst (λ (z : Float). l ≼ z) (ap floor e ∙ floor_inf true) o))
  | inr (inr e) ↦ absurd (no_above (whole_num h b) (subst (λ (z : Float). z ≼ h) (ap floor e ∙ floor_inf false) k))
]

pub ceil_whole : {l h y : Float} → Whole l → Whole h → Held y → l ≼ (ceil y) → (ceil y) ≼ h → Whole (ceil y)
ceil_whole {l} {h} {y} a b hy o k = elim (cases y (ceil_real y hy (le_real l (ceil y) o.le).1)) [
  | inl n ↦ let F = ceil_value y n in (of_units (ceil y) F.k F.is).whole
  | inr (inl e) ↦ absurd (no_below (whole_num l a) (subst (λ (z : Float). l ≼ z) (ap ceil e ∙ ceil_inf true) o))
  | inr (inr e) ↦ absurd (no_above (whole_num h b) (subst (λ (z : Float). z ≼ h) (ap ceil e ∙ ceil_inf false) k))
]

-- ---- whole multiples of a power of two are held
pub held_scaled : (z : ℤ) (k : ℕ) → A z ≤ 2 ^ 53 → 2 ^ 53 * 2 ^ k ≤ 2 ^ 2098 → K.HeldRank (sc (2 ^ k) z)
held_scaled z k h b =
    record {
      rep = record { p = subst Rep (sym (P_sc (2 ^ k) z)) (rep_scaled (P z) k (omega arith)); n = subst Rep (sym (N_sc (2 ^ k) z)) (rep_scaled (N z) k (omega arith)) };
      high = Nat.le_trans (le_of_eq (P_sc (2 ^ k) z)) (Nat.le_trans (mul-le-mul_right (2 ^ k) (left (P z) (N z) (2 ^ 53) h)) b);
      low = Nat.le_trans (le_of_eq (N_sc (2 ^ k) z)) (Nat.le_trans (mul-le-mul_right (2 ^ k) (right (P z) (N z) (2 ^ 53) h)) b);
    }
  where
    left : (p n t : ℕ) → p + n ≤ t → p ≤ t
    left p n t h = omega arith

    right : (p n t : ℕ) → p + n ≤ t → n ≤ t
    right p n t h = omega arith

pub zero_held : K.HeldRank (pos 0)
zero_held = record { rep = record { p = rep_zero; n = rep_zero }; low = zero-le; high = zero-le }

-- sizes of such multiples
pub near_size : (m c : ℕ) (z d : ℤ) (t : ℕ) → A z ≤ t → A d ≤ c → (A (sc m z -ℤ d) ≤ t * m + c) × (A (sc m z +ℤ d) ≤ t * m + c)
near_size m c z d t h k =
    let p = mul-le-mul_right m h in
    let e : A (sc m z) ≡ A z * m = W.sc_size m z in
    (minus (sc m z) d (A z * m) (t * m) c e p k, plus (sc m z) d (A z * m) (t * m) c e p k)
  where
    minus : (x d : ℤ) (y t c : ℕ) → A x ≡ y → y ≤ t → A d ≤ c → A (x -ℤ d) ≤ t + c
    minus x d y t c e h k = omega (arith, sub_parts x d, side (x -ℤ d))

    plus : (x d : ℤ) (y t c : ℕ) → A x ≡ y → y ≤ t → A d ≤ c → A (x +ℤ d) ≤ t + c
    plus x d y t c e h k = omega (arith, add_parts x d, side (x +ℤ d))

pub less_one : (x : ℤ) (d L : ℕ) → d < L → (y : ℤ) → x -ℤ pos d ⊑ y → x ⊏ y +ℤ pos L
less_one x d L h y k = omega (arith, sub_parts x (pos d), add_parts y (pos L))

pub more_one : (x : ℤ) (d L : ℕ) → d < L → (y : ℤ) → y ⊑ x +ℤ pos d → y ⊏ x +ℤ pos L
more_one x d L h y k = omega (arith, add_parts x (pos d), add_parts x (pos L))

-- ---- half a unit
pub floor_no_inf : (z : Float) → lt (inf false) z ≡ false
unfolding lt
floor_no_inf nan = refl
floor_no_inf (inf true) = refl
floor_no_inf (inf false) = refl
floor_no_inf (fin s m e) = refl

pub ceil_no_inf : (z : Float) → lt z (inf true) ≡ false
unfolding lt
ceil_no_inf nan = refl
ceil_no_inf (inf true) = refl
ceil_no_inf (inf false) = refl
ceil_no_inf (fin s m e) = refl

pub same_order : (u v : ℤ) → u ≡ v → u ⊑ v
same_order u v e = omega (arith, ap P e, ap N e)

pub link : (a b c : ℤ) → a ⊑ b → b ⊑ c → a ⊑ c
link a b c h k = omega arith

-- l less and plus d of the parts of 1.0 that 2 ^ k is
module _ (l : Float) (b : Bounded (2 ^ 20) l) (m k d : ℕ) (l_is : 2 ^ 1074 ≡ m * 2 ^ k) (fine : 2 ^ 20 * m + d ≤ 2 ^ 53) (cap : 2 ^ 53 * 2 ^ k ≤ 2 ^ 2098) where
  pub part : units l ≡ sc (2 ^ k) (sc m (int l))
  part = (to_units l b.whole).val ∙ ap (λ (n : ℕ). sc n (int l)) l_is ∙ W.sc_sc m (2 ^ k) (int l)

  pub unit : pos (d * 2 ^ k) ≡ sc (2 ^ k) (pos d)
  unfolding sc
  unit = refl

  -- both are held
  pub held_less : K.HeldRank (units l -ℤ pos (d * 2 ^ k))
  held_less = subst K.HeldRank (sym (ap (λ (u : ℤ). u -ℤ pos (d * 2 ^ k)) part ∙ ap (λ (u : ℤ). sc (2 ^ k) (sc m (int l)) -ℤ u) unit
      ∙ W.sc_sub (2 ^ k) (sc m (int l)) (pos d)))
      (held_scaled (sc m (int l) -ℤ pos d) k (Nat.le_trans (near_size m d (int l) (pos d) (2 ^ 20) b.small (le_of_eq (Nat.add-zero d))).0 fine) cap)

  pub held_more : K.HeldRank (units l +ℤ pos (d * 2 ^ k))
  held_more = subst K.HeldRank (sym (ap (λ (u : ℤ). u +ℤ pos (d * 2 ^ k)) part ∙ ap (λ (u : ℤ). sc (2 ^ k) (sc m (int l)) +ℤ u) unit
      ∙ W.sc_add (2 ^ k) (sc m (int l)) (pos d)))
      (held_scaled (sc m (int l) +ℤ pos d) k (Nat.le_trans (near_size m d (int l) (pos d) (2 ^ 20) b.small (le_of_eq (Nat.add-zero d))).1 fine) cap)

  -- a difference of no more than that
  pub less_low : (t : Float) → Num t → units t ⊑ pos (d * 2 ^ k) → units l -ℤ pos (d * 2 ^ k) ⊑ rank (l ⊖ t)
  less_low t n h = sub_above l t (whole_num l b.whole) n (units l -ℤ pos (d * 2 ^ k)) held_less (mono (units l) (units t) (d * 2 ^ k) h)
    where
      mono : (u v : ℤ) (c : ℕ) → v ⊑ pos c → u -ℤ pos c ⊑ u -ℤ v
      mono u v c h = omega (arith, sub_parts u (pos c), sub_parts u v)

  pub more_high : (t : Float) → Num t → units t ⊑ pos (d * 2 ^ k) → rank (l ⊕ t) ⊑ units l +ℤ pos (d * 2 ^ k)
  more_high t n h = sum_below l t (whole_num l b.whole) n (units l +ℤ pos (d * 2 ^ k)) held_more (mono (units l) (units t) (d * 2 ^ k) h)
    where
      mono : (u v : ℤ) (c : ℕ) → v ⊑ pos c → u +ℤ v ⊑ u +ℤ pos c
      mono u v c h = omega (arith, add_parts u (pos c), add_parts u v)

pub half_most : units ½f ⊑ pos (1 * 2 ^ 1073)
half_most = same_order (units ½f) (pos (1 * 2 ^ 1073)) (parts_units ½f false (2 ^ 1073) half_parts)

-- a whole number of farm size is far from the infinities
pub bound_size : (l : Float) → Bounded (2 ^ 20) l → A (units l) ≤ 2 ^ 20 * 2 ^ 1074
bound_size l b = Nat.le_trans (le_of_eq (size_of l ∙ W.size_is l (int l) (to_units l b.whole))) (mul-le-mul_right (2 ^ 1074) b.small)

pub not_low : (u v : ℤ) (t c B : ℕ) → A u ≤ t → t + c < B → u -ℤ pos c ⊑ v → v ⊑ neg_ℤ (pos B) → ⊥
not_low u v t c B a h k l = omega (arith, sub_parts u (pos c), P_neg (pos B), N_neg (pos B))

pub not_high : (u v : ℤ) (t c B : ℕ) → A u ≤ t → t + c < B → v ⊑ u +ℤ pos c → pos B ⊑ v → ⊥
not_high u v t c B a h k l = omega (arith, add_parts u (pos c))

pub floor_half : {l y z : Float} → Bounded (2 ^ 20) l → Held y → (floor y) ≺ z → (floor y) ⊀ (l ⊖ ½f) → l ≼ (floor y)
floor_half {l} {y} {z} b hy o k = go (cases y (floor_real y hy (le_real (floor y) z (lt_le (floor y) z o.lt)).0))
  where
    a : Whole l
    a = b.whole

    nl : Num l
    nl = whole_num l a

    rs : Real (l ⊖ ½f)
    rs = (sub_result l ½f nl half_parts.num).real

    low : units l -ℤ pos (1 * 2 ^ 1073) ⊑ rank (l ⊖ ½f)
    low = less_low l b 2 1073 1 refl (lit≤ tt) (lit≤ tt) ½f half_parts.num half_most

    go : Num y ⊎ ((y ≡ inf true) ⊎ (y ≡ inf false)) → l ≼ (floor y)
    go (inl n) =
        let F = floor_value y n in
        let nf = F.is.num in
        let h : rank (l ⊖ ½f) ⊑ rank (floor y) = nlt→⊑ (floor y) (l ⊖ ½f) (num_real (floor y) nf) rs k.nlt in
        let g = tight (2 ^ 1074) (int l) F.k (units l) (units (floor y)) (to_units l a).val F.is.val
        (less_one (units l) (1 * 2 ^ 1073) (2 ^ 1074) (lit< tt) (units (floor y))
        (subst (λ (u : ℤ). units l -ℤ pos (1 * 2 ^ 1073) ⊑ u) (rank_num (floor y) nf)
        (link (units l -ℤ pos (1 * 2 ^ 1073)) (rank (l ⊖ ½f)) (rank (floor y)) low h))) in
        record {
          le = ⊑→le l (floor y) (num_real l nl) (num_real (floor y) nf)
              (subst (λ (u : ℤ). u ⊑ rank (floor y)) (sym (whole_rank l a))
              (subst (λ (u : ℤ). sc (2 ^ 1074) (int l) ⊑ u) (sym (rank_num (floor y) nf ∙ F.is.val)) (sc_mono (2 ^ 1074) (int l) F.k g)));
        }
    go (inr (inl e)) =
        absurd (not_low (units l) (rank (l ⊖ ½f)) (2 ^ 20 * 2 ^ 1074) (1 * 2 ^ 1073) (2 ^ 2098) (bound_size l b) (lit< tt) low
        (subst (λ (u : ℤ). rank (l ⊖ ½f) ⊑ u) (far_rank true) (nlt→⊑ (inf true) (l ⊖ ½f) (inf_real true) rs (subst (λ (u : Float). T (not (lt u (l ⊖ ½f)))) (ap floor e ∙ floor_inf true) k.nlt))))
    go (inr (inr e)) = absurd (subst T (ap (λ (u : Float). lt u z) (ap floor e ∙ floor_inf false) ∙ floor_no_inf z) o.lt)

pub ceil_half : {l y z : Float} → Bounded (2 ^ 20) l → Held y → z ≺ (ceil y) → (l ⊕ ½f) ⊀ (ceil y) → (ceil y) ≼ l
ceil_half {l} {y} {z} b hy o k = go (cases y (ceil_real y hy (le_real z (ceil y) (lt_le z (ceil y) o.lt)).1))
  where
    a : Whole l
    a = b.whole

    nl : Num l
    nl = whole_num l a

    rs : Real (l ⊕ ½f)
    rs = (sum_result l ½f nl half_parts.num).real

    high : rank (l ⊕ ½f) ⊑ units l +ℤ pos (1 * 2 ^ 1073)
    high = more_high l b 2 1073 1 refl (lit≤ tt) (lit≤ tt) ½f half_parts.num half_most

    go : Num y ⊎ ((y ≡ inf true) ⊎ (y ≡ inf false)) → (ceil y) ≼ l
    go (inl n) =
        let F = ceil_value y n in
        let nf = F.is.num in
        let h : rank (ceil y) ⊑ rank (l ⊕ ½f) = nlt→⊑ (l ⊕ ½f) (ceil y) rs (num_real (ceil y) nf) k.nlt in
        let g = tight (2 ^ 1074) F.k (int l) (units (ceil y)) (units l) F.is.val (to_units l a).val
        (more_one (units l) (1 * 2 ^ 1073) (2 ^ 1074) (lit< tt) (units (ceil y))
        (subst (λ (u : ℤ). u ⊑ units l +ℤ pos (1 * 2 ^ 1073)) (rank_num (ceil y) nf)
        (link (rank (ceil y)) (rank (l ⊕ ½f)) (units l +ℤ pos (1 * 2 ^ 1073)) h high))) in
        record {
          le = ⊑→le (ceil y) l (num_real (ceil y) nf) (num_real l nl)
              (subst (λ (u : ℤ). rank (ceil y) ⊑ u) (sym (whole_rank l a))
              (subst (λ (u : ℤ). u ⊑ sc (2 ^ 1074) (int l)) (sym (rank_num (ceil y) nf ∙ F.is.val)) (sc_mono (2 ^ 1074) F.k (int l) g)));
        }
    go (inr (inr e)) =
        absurd (not_high (units l) (rank (l ⊕ ½f)) (2 ^ 20 * 2 ^ 1074) (1 * 2 ^ 1073) (2 ^ 2098) (bound_size l b) (lit< tt) high
        (subst (λ (u : ℤ). u ⊑ rank (l ⊕ ½f)) (far_rank false) (nlt→⊑ (l ⊕ ½f) (inf false) rs (inf_real false) (subst (λ (u : Float). T (not (lt (l ⊕ ½f) u))) (ap ceil e ∙ ceil_inf false) k.nlt))))
    go (inr (inl e)) = absurd (subst T (ap (λ (u : Float). lt z u) (ap ceil e ∙ ceil_inf true) ∙ ceil_no_inf z) o.lt)

-- ---- tolerances: from 0 to 3/8
pub tol_most : {t : Float} (h : Tol t) → units t ⊑ pos (3 * 2 ^ 1071)
tol_most {t} h = subst (λ (u : ℤ). u ⊑ pos (3 * 2 ^ 1071)) (rank_num t (tol_num h)) (tol_high h)

pub tol_least : {t : Float} (h : Tol t) → pos 0 ⊑ units t
tol_least {t} h = subst (λ (u : ℤ). pos 0 ⊑ u) (rank_num t (tol_num h)) (tol_low h)

pub round_lower : {l t : Float} → Bounded (2 ^ 20) l → Tol t → Is (ceil (l ⊖ t)) (int l)
round_lower {l} {t} b h =
    let a = b.whole in
    let nl = whole_num l a in
    let nt = tol_num h in
    let r = l ⊖ t in
    let low = less_low l b 8 1071 3 refl (lit≤ tt) (lit≤ tt) t nt (tol_most h) in
    let high : rank r ⊑ units l = sub_below l t nl nt (units l) (subst K.HeldRank (rank_num l nl) (held_of l (num_real l nl))) (smaller (units l) (units t) (tol_least h)) in
    let nr = small_num r (2 ^ 20 * 2 ^ 1074 + 3 * 2 ^ 1071) (sub_result l t nl nt).real (within (units l) (rank r) (2 ^ 20 * 2 ^ 1074) (3 * 2 ^ 1071) (bound_size l b) low high) (lit< tt) in
    let F = ceil_value r nr in
    let ur = rank_num r nr in
    let up = ceil_least r l (int l) nr (to_units l a) (subst (λ (u : ℤ). u ⊑ units l) ur high) in
    let dn = tight (2 ^ 1074) (int l) F.k (units l) (units (ceil r)) (to_units l a).val F.is.val
    (less_one (units l) (3 * 2 ^ 1071) (2 ^ 1074) (lit< tt) (units (ceil r))
    (link (units l -ℤ pos (3 * 2 ^ 1071)) (units r) (units (ceil r)) (subst (λ (u : ℤ). units l -ℤ pos (3 * 2 ^ 1071) ⊑ u) ur low) F.high)) in
    of_units (ceil r) (int l) (subst (λ (z : ℤ). W.Is (ceil r) z) (both F.k (int l) up.0 dn) F.is)
  where
    smaller : (u v : ℤ) → pos 0 ⊑ v → u -ℤ v ⊑ u
    smaller u v h = omega (arith, sub_parts u v)

    within : (u r : ℤ) (t c : ℕ) → A u ≤ t → u -ℤ pos c ⊑ r → r ⊑ u → A r ≤ t + c
    within u r t c h k l = omega (arith, sub_parts u (pos c), side r)

    both : (j k : ℤ) → j ⊑ k → k ⊑ j → j ≡ k
    both j k h l = ext j k (omega arith)

pub round_upper : {l t : Float} → Bounded (2 ^ 20) l → Tol t → Is (floor (l ⊕ t)) (int l)
round_upper {l} {t} b h =
    let a = b.whole in
    let nl = whole_num l a in
    let nt = tol_num h in
    let r = l ⊕ t in
    let high = more_high l b 8 1071 3 refl (lit≤ tt) (lit≤ tt) t nt (tol_most h) in
    let low : units l ⊑ rank r = sum_above l t nl nt (units l) (subst K.HeldRank (rank_num l nl) (held_of l (num_real l nl))) (larger (units l) (units t) (tol_least h)) in
    let nr = small_num r (2 ^ 20 * 2 ^ 1074 + 3 * 2 ^ 1071) (sum_result l t nl nt).real (within (units l) (rank r) (2 ^ 20 * 2 ^ 1074) (3 * 2 ^ 1071) (bound_size l b) low high) (lit< tt) in
    let F = floor_value r nr in
    let ur = rank_num r nr in
    let dn = floor_greatest r l (int l) nr (to_units l a) (subst (λ (u : ℤ). units l ⊑ u) ur low) in
    let up = tight (2 ^ 1074) F.k (int l) (units (floor r)) (units l) F.is.val (to_units l a).val
    (more_one (units l) (3 * 2 ^ 1071) (2 ^ 1074) (lit< tt) (units (floor r))
    (link (units (floor r)) (units r) (units l +ℤ pos (3 * 2 ^ 1071)) F.low (subst (λ (u : ℤ). u ⊑ units l +ℤ pos (3 * 2 ^ 1071)) ur high))) in
    of_units (floor r) (int l) (subst (λ (z : ℤ). W.Is (floor r) z) (both F.k (int l) up dn.0) F.is)
  where
    larger : (u v : ℤ) → pos 0 ⊑ v → u ⊑ u +ℤ v
    larger u v h = omega (arith, add_parts u v)

    within : (u r : ℤ) (t c : ℕ) → A u ≤ t → u ⊑ r → r ⊑ u +ℤ pos c → A r ≤ t + c
    within u r t c h k l = omega (arith, add_parts u (pos c), side r)

    both : (j k : ℤ) → j ⊑ k → k ⊑ j → j ≡ k
    both j k h l = ext j k (omega arith)

-- a tolerance tells a whole number from 0
pub zero_bounded : Bounded (2 ^ 20) 0f
zero_bounded = record { whole = Z.whole; small = subst (λ (z : ℤ). A z ≤ 2 ^ 20) (sym Z.is) (lit≤ tt) }
  where
    Z : Is 0f (pos 0)
    Z = of_units 0f (pos 0) (record { num = zero_num; val = zero_units ∙ (unfold sc in refl) })

pub tol_below : {x t : Float} → Whole x → Tol t → int x ⊏ pos 0 → x ≺ (0f ⊖ t)
tol_below {x} {t} a h o =
    let low = less_low 0f zero_bounded 8 1071 3 refl (lit≤ tt) (lit≤ tt) t (tol_num h) (tol_most h) in
    record {
      lt = ⊏→lt x (0f ⊖ t) (whole_real x a) (sub_result 0f t zero_num (tol_num h)).real
          (below (int x) (rank x) (units 0f) (rank (0f ⊖ t)) (3 * 2 ^ 1071) (2 ^ 1074) (lit< tt) (whole_rank x a) zero_units o low);
    }
  where
    below : (k r u v : ℤ) (c L : ℕ) → c < L → r ≡ sc L k → u ≡ pos 0 → k ⊏ pos 0 → u -ℤ pos c ⊑ v → r ⊏ v
    below k r u v c L h e f o l =
        let g : 1 * L ≤ N k * L = mul-le-mul_right L (at k o) in
        omega (arith, ap P e, ap N e, ap P f, ap N f, P_sc L k, N_sc L k, none k L o, sub_parts u (pos c))
      where
        at : (k : ℤ) → k ⊏ pos 0 → 1 ≤ N k
        at k h = omega (arith, side k)

        none : (k : ℤ) (L : ℕ) → k ⊏ pos 0 → P k * L ≡ 0
        none k L h = ap (λ (n : ℕ). n * L) (zero_p k h) ∙ zero-mul L
          where
            zero_p : (k : ℤ) → k ⊏ pos 0 → P k ≡ 0
            zero_p k h = omega (arith, side k)

pub tol_above : {x t : Float} → Whole x → Tol t → pos 0 ⊏ int x → (0f ⊕ t) ≺ x
tol_above {x} {t} a h o =
    let high = more_high 0f zero_bounded 8 1071 3 refl (lit≤ tt) (lit≤ tt) t (tol_num h) (tol_most h) in
    record {
      lt = ⊏→lt (0f ⊕ t) x (sum_result 0f t zero_num (tol_num h)).real (whole_real x a)
          (above (int x) (rank x) (units 0f) (rank (0f ⊕ t)) (3 * 2 ^ 1071) (2 ^ 1074) (lit< tt) (whole_rank x a) zero_units o high);
    }
  where
    above : (k r u v : ℤ) (c L : ℕ) → c < L → r ≡ sc L k → u ≡ pos 0 → pos 0 ⊏ k → v ⊑ u +ℤ pos c → v ⊏ r
    above k r u v c L h e f o l =
        let g : 1 * L ≤ P k * L = mul-le-mul_right L (at k o) in
        omega (arith, ap P e, ap N e, ap P f, ap N f, P_sc L k, N_sc L k, none k L o, add_parts u (pos c))
      where
        at : (k : ℤ) → pos 0 ⊏ k → 1 ≤ P k
        at k h = omega (arith, side k)

        none : (k : ℤ) (L : ℕ) → pos 0 ⊏ k → N k * L ≡ 0
        none k L h = ap (λ (n : ℕ). n * L) (zero_n k h) ∙ zero-mul L
          where
            zero_n : (k : ℤ) → pos 0 ⊏ k → N k ≡ 0
            zero_n k h = omega (arith, side k)
