-- LAWS OF ORDER that proofs cite by themselves: a sum with what is not negative does not fall, a difference does not rise, floor and ceil leave a whole number, a tolerance is below 1.
use Rattle.std.specs.Prelude.{◌≡◌, zero, suc, ◌⊎◌, Bool, ℤ, pos, ◌+ℤ◌, ◌-ℤ◌, Float}
use Rattle.std.proofs.Math.Path.{refl}
use Rattle.std.proofs.Common.{sym, ap, ◌∙◌, subst, inl, inr, arith, true≢false}
use Rattle.std.proofs.Math.Bool.{true, false}
use Rattle.std.specs.Float.{nan, inf, fin}
use Rattle.std.specs.Float.Ieee.{is_nan, neg, add, sub, lt, of_bits}
use Rattle.floats.specs.Zed.{◌⊑◌, add_parts, sub_parts}
use Rattle.floats.specs.Value.{units, Num}
use Rattle.floats.specs.Order.{num_real, rank, rank_num, ⊑→le}
use Rattle.floats.specs.Ranks.{sum_result, sub_result, held_of}
use Rattle.floats.proofs.Meaning.{floor_plus, ceil_mirror}
use Rattle.floats.specs.Points.{Whole, Held, ◌≼◌, ◌≺◌}
use Rattle.floats.proofs.Points.{to_units}
use Rattle.floats.proofs.Compare.{le_lt_trans}
use Rattle.floats.specs.WholeRounding.{⅜f, NonNeg, Tol}
use Rattle.floats.proofs.WholeRounding.{nonneg_rank, nonneg_cases, inf_real, num_fin, inf_inf, num_minus, minus_minus, top, bottom, sum_above, sub_below}
use Rattle.floats.proofs.Quotients.{neg_is}
use Rattle.floats.specs.Num.{◌⊕◌, ◌⊖◌, 1f, plus_zero, floor, ceil}

-- ---- x ⊕ r ≥ x and x ⊖ r ≤ x, for a number x and r from 0 to +∞
pub add_grows : {x r : Float} → Num x → NonNeg r → x ≼ (x ⊕ r)
add_grows {x} {r} n h = go (nonneg_cases h)
  where
    more : (u v : ℤ) → pos 0 ⊑ v → u ⊑ u +ℤ v
    more u v h = omega (arith, add_parts u v)

    go : Num r ⊎ (r ≡ inf false) → x ≼ (x ⊕ r)
    go (inl m) = record {
      le = ⊑→le x (x ⊕ r) (num_real x n) (sum_result x r n m).real
          (sum_above x r n m (rank x) (held_of x (num_real x n)) (subst (λ (z : ℤ). z ⊑ units x +ℤ units r) (sym (rank_num x n))
          (more (units x) (units r) (subst (λ (z : ℤ). pos 0 ⊑ z) (rank_num r m) (nonneg_rank h)))));
    }
    go (inr e) = subst (λ (z : Float). x ≼ z) (sym (ap (λ (t : Float). x ⊕ t) e ∙ (num_fin x n false).1)) (top (num_real x n))

pub sub_shrinks : {x r : Float} → Num x → NonNeg r → (x ⊖ r) ≼ x
sub_shrinks {x} {r} n h = go (nonneg_cases h)
  where
    less : (u v : ℤ) → pos 0 ⊑ v → u -ℤ v ⊑ u
    less u v h = omega (arith, sub_parts u v)

    go : Num r ⊎ (r ≡ inf false) → (x ⊖ r) ≼ x
    go (inl m) = record {
      le = ⊑→le (x ⊖ r) x (sub_result x r n m).real (num_real x n)
          (sub_below x r n m (rank x) (held_of x (num_real x n)) (subst (λ (z : ℤ). units x -ℤ units r ⊑ z) (sym (rank_num x n))
          (less (units x) (units r) (subst (λ (z : ℤ). pos 0 ⊑ z) (rank_num r m) (nonneg_rank h)))));
    }
    go (inr e) = subst (λ (z : Float). z ≼ x) (sym (ap (λ (t : Float). x ⊖ t) e ∙ (num_minus x n).1)) (bottom (num_real x n))

-- of an infinite x too, wherever the result is not a NaN, which an infinity less itself is
add_grows_at : (x r : Float) → Held x → NonNeg r → is_nan (x ⊕ r) ≡ false → x ≼ (x ⊕ r)
add_grows_at nan r f h k = absurd (true≢false (nan_sum r ∙ k))
  where
    nan_sum : (r : Float) → true ≡ is_nan (nan ⊕ r)
    nan_sum r = unfold add is_nan in refl
add_grows_at (inf s) r f h k = go s (nonneg_cases h) k
  where
    lost : is_nan (inf true ⊕ inf false) ≡ true
    lost = unfold add is_nan in refl

    go : (s : Bool) → Num r ⊎ (r ≡ inf false) → is_nan (inf s ⊕ r) ≡ false → inf s ≼ (inf s ⊕ r)
    go s (inl m) k = subst (λ (z : Float). inf s ≼ z) (sym (num_fin r m s).0) (self_le s)
      where
        self_le : (s : Bool) → inf s ≼ inf s
        self_le true = bottom (inf_real true)
        self_le false = top (inf_real false)
    go true (inr e) k = absurd (true≢false (sym lost ∙ ap (λ (t : Float). is_nan (inf true ⊕ t)) (sym e) ∙ k))
    go false (inr e) k = subst (λ (z : Float). inf false ≼ z) (sym (ap (λ (t : Float). inf false ⊕ t) e ∙ inf_inf)) (top (inf_real false))
add_grows_at (fin s m e) r f h k = add_grows (tt, f.fits) h

pub add_grows_real : {x r : Float} → Held x → NonNeg r → is_nan (x ⊕ r) ≡ false → x ≼ (x ⊕ r)
add_grows_real {x} {r} f h k = add_grows_at x r f h k

sub_shrinks_at : (x r : Float) → Held x → NonNeg r → is_nan (x ⊖ r) ≡ false → (x ⊖ r) ≼ x
sub_shrinks_at nan r f h k = absurd (true≢false (nan_less r ∙ k))
  where
    nan_less : (r : Float) → true ≡ is_nan (nan ⊖ r)
    nan_less r = unfold sub add is_nan in refl
sub_shrinks_at (inf s) r f h k = go s (nonneg_cases h) k
  where
    lost : is_nan (inf false ⊖ inf false) ≡ true
    lost = unfold sub add neg is_nan in refl

    less_num : (s : Bool) (r : Float) → Num r → inf s ⊖ r ≡ inf s
    less_num s nan m = absurd m.0
    less_num s (inf t) m = absurd m.0
    less_num s (fin t n d) m = unfold sub add neg in refl

    go : (s : Bool) → Num r ⊎ (r ≡ inf false) → is_nan (inf s ⊖ r) ≡ false → (inf s ⊖ r) ≼ inf s
    go s (inl m) k = subst (λ (z : Float). z ≼ inf s) (sym (less_num s r m)) (self_le s)
      where
        self_le : (s : Bool) → inf s ≼ inf s
        self_le true = bottom (inf_real true)
        self_le false = top (inf_real false)
    go true (inr e) k = subst (λ (z : Float). z ≼ inf true) (sym (ap (λ (t : Float). inf true ⊖ t) e ∙ minus_minus)) (bottom (inf_real true))
    go false (inr e) k = absurd (true≢false (sym lost ∙ ap (λ (t : Float). is_nan (inf false ⊖ t)) (sym e) ∙ k))
sub_shrinks_at (fin s m e) r f h k = sub_shrinks (tt, f.fits) h

pub sub_shrinks_real : {x r : Float} → Held x → NonNeg r → is_nan (x ⊖ r) ≡ false → (x ⊖ r) ≼ x
sub_shrinks_real {x} {r} f h k = sub_shrinks_at x r f h k

-- ---- floor and ceil leave a whole number, but for a zero's sign
pub floor_fixes : {x : Float} → Whole x → floor x ≡ plus_zero x
floor_fixes {x} w = floor_plus x _ (to_units x w)

pub ceil_fixes : {x : Float} → Whole x → ceil x ≡ plus_zero x
ceil_fixes {x} w = ceil_mirror x ∙ ap (λ (z : Float). plus_zero (neg z)) (floor_fixes (neg_is x _ (to_units x w)).whole) ∙ back x
  where
    back : (x : Float) → plus_zero (neg (plus_zero (neg x))) ≡ plus_zero x
    back nan = unfold plus_zero neg in refl
    back (inf true) = unfold plus_zero neg in refl
    back (inf false) = unfold plus_zero neg in refl
    back (fin s zero e) = unfold plus_zero neg in refl
    back (fin true (suc m) e) = unfold plus_zero neg in refl
    back (fin false (suc m) e) = unfold plus_zero neg in refl

-- ---- a tolerance is from 0 to below 1
pub tol_below_one : {t : Float} → Tol t → t ≺ 1f
tol_below_one t = le_lt_trans t.high below
  where
    below : ⅜f ≺ 1f
    below = unfold lt of_bits in record { lt = tt }
