-- NO NaN IS PRINTED: an accepted call's bounds and coefficients are numbers, and presolve makes only numbers of numbers.
use Rattle.std.specs.Prelude.{ℕ, suc, ◌<◌, ◌≡◌, Bool, ◌&&◌, ◌||◌, List, [], ◌∷◌, eqb, get_or, Float}
use Rattle.std.proofs.Common.{add-one, arith, sym, ◌∙◌, true≢false}
use Rattle.std.proofs.Math.Bool.{true, false, not}
use Rattle.std.proofs.Math.Option.{none}
use Rattle.std.proofs.Math.Dec.{T}
use Rattle.std.proofs.Math.ListN.{length}
use Rattle.std.specs.Float.Ieee.{is_nan, eq, le}
use borrow.Author.Tests.{eqb-true, not-false}
use Rattle.floats.specs.Num.{0f, ½f, ∞f, -∞f, is_finite}
use Rattle.floats.specs.Order.{le_real}
use Rattle.tolerances.specs.Tol.{Term, at}
use Rattle.definition.specs.Model.{Model, Emit, Reduced, done, from}
use Rattle.definition.specs.Presolve.{presolve}
use Rattle.definition.specs.Refusal.{Lent, some_below, start_falls, starts_wrong, bound_wrong, bounds_wrong, obj_wrong, coeff_wrong, numbers_wrong, tolerance_wrong, tolerances_wrong, refusal}
use Rattle.rows_kept.specs.Statements.{All, no_one, each, Spans}
use Rattle.rows_kept.proofs.Numbers.{finite_number}
use Rattle.rows_kept.specs.NoNan.{Numbers}
use Rattle.rows_kept.proofs.Theorems.{no_eq_rewritten, no_nan, no_nan_terms}
use Rattle.definition.specs.Accepted.{accepted, accepted_shaped}
use Rattle.refuse.specs.Laws.{none_below}
use Rattle.refuse.specs.Rows.{neither, lengths_agree}

-- ---- every float that is printed of an answer: each variable's bounds, a rewritten row's right side, and the terms
pub record Printable (M : Model) (R : Reduced) : Type 0 where
  pub lower : (v : ℕ) → v < length M.lower → is_nan (at R.lower v) ≡ false
  pub upper : (v : ℕ) → v < length M.lower → is_nan (at R.upper v) ≡ false
  pub rhs : All (λ (x : Emit). x.rewritten ≡ true → is_nan x.rhs ≡ false) R.emitted
  pub terms : All (λ (t : Term). is_nan t.coeff ≡ false) R.terms

-- ---- lists of which each has a property
pub all_at : {A : Type 0} {P : A → Type 0} (d : A) (l : List A) → ((k : ℕ) → k < length l → P (get_or l k d)) → All P l
all_at d [] h = no_one
all_at d (x ∷ l) h = each (h 0 (omega arith)) (all_at d l (λ k i. h (suc k) (omega arith)))

all_map : {A : Type 0} {P Q : A → Type 0} {l : List A} → ((x : A) → P x → Q x) → All P l → All Q l
all_map f no_one = no_one
all_map f (each {x} p h) = each (f x p) (all_map f h)

-- ---- what a row of the table that does not apply tells
module _ (M : Model) where
  -- 6: no bound is a NaN
  bound_number : (v : ℕ) → bound_wrong M v ≡ false → (is_nan (at M.lower v) ≡ false) × (is_nan (at M.upper v) ≡ false)
  unfolding bound_wrong
  bound_number v e =
      let l = at M.lower v in
      let h = at M.upper v in
      let p = neither (is_nan l || is_nan h || eq l ∞f) (eq h -∞f) e in
      let q = neither (is_nan l || is_nan h) (eq l ∞f) p.0 in
      neither (is_nan l) (is_nan h) q.0

  bounds_number : bounds_wrong M ≡ false → (v : ℕ) → v < length M.obj → (is_nan (at M.lower v) ≡ false) × (is_nan (at M.upper v) ≡ false)
  unfolding bounds_wrong
  bounds_number e v h = bound_number v (none_below (bound_wrong M) (length M.obj) v e h)

  -- 7: no coefficient is a NaN
  coeff_number : numbers_wrong M ≡ false → (k : ℕ) → k < length M.index → is_nan (at M.coeff k) ≡ false
  unfolding numbers_wrong coeff_wrong
  coeff_number e k h =
      let p = neither (some_below (obj_wrong M) (length M.obj)) (some_below (coeff_wrong M) (length M.index)) e in
      finite_number _ (not-false (is_finite (at M.coeff k)) (none_below (coeff_wrong M) (length M.index) k p.1 h))

  -- 9: the integrality tolerance is no NaN
  tolerance_number : tolerances_wrong M ≡ false → is_nan M.int_tol ≡ false
  unfolding tolerances_wrong tolerance_wrong
  tolerance_number e =
      let p = neither (tolerance_wrong M M.feas) (tolerance_wrong M M.int_tol) e in
      (le_real 0f M.int_tol (first (le 0f M.int_tol) (le M.int_tol ½f) p.1)).1
    where
      first : (a b : Bool) → not (a && b) ≡ false → T a
      first true b e = tt
      first false b e = absurd (true≢false e)

  -- 3: the first row starts at no term, and the last one ends at the last
  ends : starts_wrong M ≡ false → (from M 0 ≡ 0) × (from M (length M.rhs) ≡ length M.index)
  unfolding starts_wrong
  ends e =
      let r = length M.rhs in
      let p = neither (not (eqb (from M 0) 0) || some_below (start_falls M) r) (not (eqb (from M r) (length M.index))) e in
      let q = neither (not (eqb (from M 0) 0)) (some_below (start_falls M) r) p.0 in
      (same _ _ q.0, same _ _ p.1)
    where
      same : (m n : ℕ) → not (eqb m n) ≡ false → m ≡ n
      same m n h = eqb-true m n (not-false (eqb m n) h)

module _ (M : Model) (L : Lent) (e : refusal M L ≡ none) where
  numbers_of_lem : Numbers M
  numbers_of_lem =
      let a = accepted M L e in
      let g = lengths_agree M a.lengths in
      let b : (v : ℕ) → v < length M.lower → (is_nan (at M.lower v) ≡ false) × (is_nan (at M.upper v) ≡ false) = λ v h. bounds_number M a.bounds v (omega (arith, g.lower)) in
      record { sizes = g.upper ∙ sym g.lower; lower = λ v h. (b v h).0; upper = λ v h. (b v h).1; tolerance = tolerance_number M a.tolerances }

  pub spans_of_lem : Spans M
  spans_of_lem =
      let a = accepted M L e in
      let g = lengths_agree M a.lengths in
      let s = ends M a.starts in
      record { starts = g.starts ∙ add-one _; coeffs = g.coeff; first = s.0; rise = (accepted_shaped M L e).starts; last = s.1 }

  coeffs_of_lem : All (λ (x : Float). is_nan x ≡ false) M.coeff
  coeffs_of_lem =
      let a = accepted M L e in
      let g = lengths_agree M a.lengths in
      all_at _ M.coeff (λ k h. coeff_number M a.numbers k (omega (arith, g.coeff)))

-- NO NaN REACHES THE PRINTER, whatever model was accepted
pub numbers_printed : (M : Model) (L : Lent) → refusal M L ≡ none → (R : Reduced) → presolve M ≡ done R → Printable M R
numbers_printed M L e R p =
    record {
      lower = λ v h. (no_nan M R p (numbers_of_lem M L e) v h).0;
      upper = λ v h. (no_nan M R p (numbers_of_lem M L e) v h).1;
      rhs = all_map (λ x f t. finite_number x.rhs (f t).1) (no_eq_rewritten M R p);
      terms = no_nan_terms M R p (spans_of_lem M L e) (coeffs_of_lem M L e);
    }
