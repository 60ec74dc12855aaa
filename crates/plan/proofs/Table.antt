-- The plan's table is the model's, but for the row about lent slices, unless a value that is not finite comes before it.
use Rattle.std.specs.Prelude.{ℕ, ◌≡◌, Bool, true, false, not, ◌&&◌, ◌||◌, List, [], ◌∷◌, eqb, length, Float}
use Rattle.std.proofs.Common.{sym, ap, ◌∙◌, ne_eqb}
use Rattle.std.proofs.Math.Dec.{eqb_refl}
use Rattle.std.specs.Float.Ieee.Bits.{is_true}
use Rattle.std.proofs.Math.Path.{refl}
use Rattle.std.proofs.Math.Option.{Option, some}
use Rattle.std.specs.List.{list_any}
use Rattle.std.specs.Float.{nan}
use Rattle.floats.specs.Num.{choose, is_finite}
use Rattle.definition.specs.Model.{Model}
use Rattle.definition.specs.Refusal.{Lent, some_below, vars, lengths_disagree, too_large, starts_wrong, indices_wrong, rows_long, codes_wrong, bounds_wrong}
use Rattle.definition.specs.Refusal.{numbers_wrong, rhses_wrong, tolerances_wrong, too_short, earliest, refusal}
use Rattle.definition.specs.Choices.{chosen, left, or_true_right}
use Rattle.refuse.specs.Laws.{any_below}
use Rattle.plan.specs.Refusal.{length_wrong, value_wrong, values_wrong, plan_refusal}
use Rattle.plan.specs.Table.{numbers_asked, but_space}

-- by the rows: t is the test of the values
by_rows : (a b c d e f g h i j s t : Bool)
    → earliest ((1, a || false) ∷ (2, b) ∷ (3, c) ∷ (4, d) ∷ (18, e) ∷ (5, f) ∷ (6, g) ∷ (7, h || t) ∷ (8, i) ∷ (9, j) ∷ [])
    ≡ choose (numbers_asked (earliest ((1, a) ∷ (2, b) ∷ (3, c) ∷ (4, d) ∷ (18, e) ∷ (5, f) ∷ (6, g) ∷ (7, h) ∷ (8, i) ∷ (9, j) ∷ (10, s) ∷ [])) && t) (some 7)
    (but_space (earliest ((1, a) ∷ (2, b) ∷ (3, c) ∷ (4, d) ∷ (18, e) ∷ (5, f) ∷ (6, g) ∷ (7, h) ∷ (8, i) ∷ (9, j) ∷ (10, s) ∷ [])))
unfolding earliest choose numbers_asked but_space
by_rows true b c d e f g h i j s t = refl
by_rows false true c d e f g h i j s t = refl
by_rows false false true d e f g h i j s t = refl
by_rows false false false true e f g h i j s t = refl
by_rows false false false false true f g h i j s t = refl
by_rows false false false false false true g h i j s t = refl
by_rows false false false false false false true h i j s t = refl
by_rows false false false false false false false true i j s t = refl
by_rows false false false false false false false false true j s true = refl
by_rows false false false false false false false false false true s true = refl
by_rows false false false false false false false false false false true true = refl
by_rows false false false false false false false false false false false true = refl
by_rows false false false false false false false false true j s false = refl
by_rows false false false false false false false false false true s false = refl
by_rows false false false false false false false false false false true false = refl
by_rows false false false false false false false false false false false false = refl

-- ---- what the code finds
pub other_length : (M : Model) (p : List Float) → (length p ≡ vars M → ⊥) → some 1 ≡ plan_refusal M p
unfolding plan_refusal length_wrong earliest choose
other_length M p h = sym (rw (or_true_right (lengths_disagree M) (not (eqb (length p) (vars M))) (ap not (ne_eqb (length p) (vars M) h))) refl)

module _ (M : Model) (L : Lent) (p : List Float) where
  same_length : length p ≡ vars M → length_wrong M p ≡ false
  unfolding length_wrong
  same_length e = ap not (ap (eqb (length p)) (sym e) ∙ is_true (eqb (length p) (length p)) (eqb_refl (length p)))

  pub by_table : length p ≡ vars M
      → plan_refusal M p ≡ choose (numbers_asked (refusal M L) && values_wrong M p) (some 7) (but_space (refusal M L))
  unfolding plan_refusal refusal
  by_table e =
      ap (λ (b : Bool). earliest ((1, lengths_disagree M || b) ∷ (2, too_large M) ∷ (3, starts_wrong M) ∷ (4, indices_wrong M) ∷ (18, rows_long M) ∷ (5, codes_wrong M)
      ∷ (6, bounds_wrong M) ∷ (7, numbers_wrong M || values_wrong M p) ∷ (8, rhses_wrong M) ∷ (9, tolerances_wrong M) ∷ [])) (same_length e)
      ∙ by_rows (lengths_disagree M) (too_large M) (starts_wrong M) (indices_wrong M) (rows_long M) (codes_wrong M) (bounds_wrong M) (numbers_wrong M) (rhses_wrong M)
      (tolerances_wrong M) (too_short M L) (values_wrong M p)

  pub values_are : {b : Bool} → length p ≡ vars M → b ≡ list_any (λ x. not (is_finite x)) p → b ≡ values_wrong M p
  unfolding values_wrong value_wrong
  values_are e f = f ∙ any_below (λ (x : Float). not (is_finite x)) p nan ∙ ap (some_below _) e

  module _ {r : Option ℕ} {a b : Bool} (e : length p ≡ vars M) (t : r ≡ refusal M L) (f : a ≡ numbers_asked r) (g : b ≡ list_any (λ x. not (is_finite x)) p) where
    tests : (a && b) ≡ (numbers_asked (refusal M L) && values_wrong M p)
    tests = ap (λ (c : Bool). c && b) (f ∙ ap numbers_asked t) ∙ ap (λ (c : Bool). numbers_asked (refusal M L) && c) (values_are e g)

    pub a_value : (a && b) ≡ true → some 7 ≡ plan_refusal M p
    a_value h = sym (by_table e ∙ chosen (some 7) (but_space (refusal M L)) (sym tests ∙ h))

    pub the_model : (a && b) ≡ false → but_space r ≡ plan_refusal M p
    the_model h = ap but_space t ∙ sym (by_table e ∙ left (some 7) (but_space (refusal M L)) (sym tests ∙ h))
