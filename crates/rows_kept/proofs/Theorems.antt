-- Demand 3, first part: what holds of every answer of presolve, for every model.
use Rattle.std.specs.Prelude.{ℕ, ◌+◌, ◌≤◌, ◌<◌, ◌≡◌, refl, true, false, ◌&&◌, List, [], eqb, length, get_or, Float}
use Rattle.std.proofs.Common.{arith, sym, ◌∙◌, subst}
use Rattle.std.proofs.Math.Path.{ap}
use Rattle.std.proofs.Math.Bool.{not, and-false}
use Rattle.std.specs.Float.Ieee.{is_nan}
use Rattle.floats.specs.Num.{is_finite}
use Rattle.tolerances.specs.Tol.{Term, at}
use Rattle.definition.specs.declared.Counts.{Counts}
use Rattle.definition.specs.Params.{params, max_waves}
use Rattle.definition.specs.Model.{Model, op_of, is_int, is_mip, is_int_domain, Emit, Reduced, infeasible, done}
use Rattle.definition.specs.Presolve.{presolve}
use Rattle.rows_kept.specs.Statements.{All, no_one, each, entries_of, occurs, Fate, count_below, no_entry, Rising, rows_of, Consecutive, no_span, skips, spans, Spans}
use Rattle.definition.specs.Choices.{true≢false}
use Rattle.rows_kept.specs.Whole.{From, gave_up, found}
use Rattle.rows_kept.proofs.Whole.{whole, state_only, of_done}
use Rattle.rows_kept.proofs.Lists.{count_same}
use Rattle.rows_kept.specs.Fates.{Fates, Any, Settled}
use Rattle.rows_kept.proofs.Fates.{settles}
use Rattle.rows_kept.specs.Counted.{dead}
use Rattle.rows_kept.proofs.Counted.{tallies}
use Rattle.rows_kept.specs.Given.{Keeps}
use Rattle.rows_kept.proofs.GivenBounds.{given_held}
use Rattle.rows_kept.proofs.Sizes.{room_kept}
use Rattle.rows_kept.specs.NoNan.{Numbers}
use Rattle.rows_kept.proofs.NoNan.{no_nan_held}
use Rattle.rows_kept.specs.NoMinusZero.{minus_zero}
use Rattle.rows_kept.proofs.NoMinusZero.{clean_answer}
use Rattle.rows_kept.specs.Coefficients.{NumberTerm}
use Rattle.rows_kept.proofs.Coefficients.{out_numbers}
use Rattle.rows_kept.specs.EqRows.{NotEqEntry}
use Rattle.rows_kept.proofs.EqRows.{not_eq}

module _ (M : Model) where
  -- ---- 5: the waves, in an infeasible answer too
  cap_done : {R : Reduced} → From M Any (Settled M) (done R) → R.counts.passes ≤ max_waves M.params
  cap_done (found w o c p j) = c

  cap_infeasible : {k : Counts} → From M Any (Settled M) (infeasible k) → k.passes ≤ max_waves M.params
  cap_infeasible (gave_up c) = c

  pub waves_bounded : (R : Reduced) → presolve M ≡ done R → R.counts.passes ≤ max_waves M.params
  waves_bounded R e = cap_done (subst (From M Any (Settled M)) e (whole M (settles M)))

  pub waves_bounded_infeasible : (k : Counts) → presolve M ≡ infeasible k → k.passes ≤ max_waves M.params
  waves_bounded_infeasible k e = cap_infeasible (subst (From M Any (Settled M)) e (whole M (settles M)))

-- 30 with the Rust's params
pub thirty : max_waves params ≡ 30
thirty = refl

module _ (M : Model) where
  real_not_int : (v : ℕ) → get_or M.domain v 0 ≡ 1 → is_int M v ≡ false
  unfolding is_int is_int_domain is_mip
  real_not_int v d = ap (λ (n : ℕ). not (eqb M.mode 0) && not (eqb n 1)) d ∙ and-false (not (eqb M.mode 0))

  lp_not_int : M.mode ≡ 0 → (v : ℕ) → is_int M v ≡ false
  unfolding is_int is_int_domain is_mip
  lp_not_int m v = ap (λ (n : ℕ). not (eqb n 0) && not (eqb (get_or M.domain v 0) 1)) m

-- a list of spans that follow one another stays below its end
span_end : {m n : ℕ} {es : List Emit} → Consecutive m n es → n ≤ m
span_end no_span = omega arith
span_end (skips f h) = span_end h
span_end (spans a b c h) = omega (arith, span_end h)

within_spans : {m n : ℕ} {es : List Emit} → Consecutive m n es → All (λ (x : Emit). x.rewritten ≡ true → (x.from ≤ x.upto) × (x.upto ≤ m)) es
within_spans no_span = no_one
within_spans (skips f h) = each (λ t. true≢false t f) (within_spans h)
within_spans (spans {e = x} a b c h) = each {x = x} (λ t. (subst (λ (k : ℕ). k ≤ x.upto) (sym b) c, span_end h)) (within_spans h)

module _ (M : Model) (R : Reduced) (e : presolve M ≡ done R) where
  fates : Fates M (length M.rhs) R.emitted R.kept
  fates = of_done M (settles M) (λ R. Fates M (length M.rhs) R.emitted R.kept) (λ w o p j. j) e

  -- ---- 1: every row's fate, and nothing past the rows
  pub fate : (r : ℕ) → r < length M.rhs → Fate M r R.emitted R.kept
  fate = fates.settled

  pub none_beyond : (r : ℕ) → length M.rhs ≤ r → (entries_of r R.emitted ≡ []) × (occurs r R.kept ≡ 0)
  none_beyond r h = (fates.entries r h, fates.kept r h)

  -- ---- 4: both lists rise, within the rows
  pub emitted_rising : Rising (length M.rhs) 0 (rows_of R.emitted)
  emitted_rising = fates.rows_rise

  pub kept_rising : Rising (length M.rhs) 0 R.kept
  kept_rising = fates.kept_rise

  -- ---- 2: the first count, the running one, is the number of rows with no entry
  pub dropped_count : R.counts.rowsDropped ≡ count_below (length M.rhs) (no_entry R.emitted)
  dropped_count =
      of_done M (tallies M) (λ R. R.counts.rowsDropped ≡ count_below (length M.rhs) (no_entry R.emitted))
      (λ w o p j. p.count ∙ count_same (length M.rhs) (no_entry o.emitted) (dead w.rows) (λ q k. sym (j.alive q k))) e

  pub conserved : length R.emitted + R.counts.rowsDropped ≡ length M.rhs
  conserved =
      ap (λ (n : ℕ). length R.emitted + n) dropped_count
      ∙ of_done M (tallies M) (λ R. length R.emitted + count_below (length M.rhs) (no_entry R.emitted) ≡ length M.rhs) (λ w o p j. j.total) e

  -- ---- 3: the bounds of a variable that is no integer one are the given ones
  lowers : Keeps M M.lower R.lower
  lowers = of_done M (state_only (given_held M)) (λ R. Keeps M M.lower R.lower) (λ w o p j. p.lower) e

  uppers : Keeps M M.upper R.upper
  uppers = of_done M (state_only (given_held M)) (λ R. Keeps M M.upper R.upper) (λ w o p j. p.upper) e

  pub bounds_given : (v : ℕ) → is_int M v ≡ false → (at R.lower v ≡ at M.lower v) × (at R.upper v ≡ at M.upper v)
  bounds_given v h = (lowers.same v h, uppers.same v h)

  pub bounds_lengths : (length R.lower ≡ length M.lower) × (length R.upper ≡ length M.upper)
  bounds_lengths = (lowers.size, uppers.size)

  -- a Real variable's, and in mode 0 every variable's
  pub real_bounds_given : (v : ℕ) → get_or M.domain v 0 ≡ 1 → (at R.lower v ≡ at M.lower v) × (at R.upper v ≡ at M.upper v)
  real_bounds_given v d = bounds_given v (real_not_int M v d)

  pub lp_bounds_given : M.mode ≡ 0 → (v : ℕ) → (at R.lower v ≡ at M.lower v) × (at R.upper v ≡ at M.upper v)
  lp_bounds_given m v = bounds_given v (lp_not_int M m v)

  -- ---- 7: no Eq row is rewritten; and a rewritten row's right side is finite
  pub no_eq_rewritten : All (λ (x : Emit). x.rewritten ≡ true → (op_of M x.row ≡ 0 → ⊥) × (is_finite x.rhs ≡ true)) R.emitted
  no_eq_rewritten = of_done M (not_eq M) (λ R. All (NotEqEntry M) R.emitted) (λ w o p j. j) e

  -- ---- 6: the rewritten terms fit where the model's do, and the spans of the rewritten rows follow one another from 0
  pub terms_fit : Spans M → length R.terms ≤ length M.index
  terms_fit S =
      of_done M (room_kept M) (λ R. length R.terms ≤ length M.index) (λ w o p j. omega (arith, j.room S (omega arith), S.last)) e

  pub spans_follow_lem : Consecutive (length R.terms) 0 R.emitted
  spans_follow_lem = of_done M (room_kept M) (λ R. Consecutive (length R.terms) 0 R.emitted) (λ w o p j. j.spans_follow) e

  pub spans_within : All (λ (x : Emit). x.rewritten ≡ true → (x.from ≤ x.upto) × (x.upto ≤ length R.terms)) R.emitted
  spans_within = within_spans spans_follow_lem

  -- ---- 8: no bound and no rewritten coefficient is a NaN
  pub no_nan : Numbers M → (v : ℕ) → v < length M.lower → (is_nan (at R.lower v) ≡ false) × (is_nan (at R.upper v) ≡ false)
  no_nan N v h =
      of_done M (state_only (no_nan_held M N)) (λ R. (is_nan (at R.lower v) ≡ false) × (is_nan (at R.upper v) ≡ false)) (λ w o p j. (p.lower.number v h, p.upper.number v h)) e

  pub no_nan_terms : Spans M → All (λ (a : Float). is_nan a ≡ false) M.coeff → All (λ (t : Term). is_nan t.coeff ≡ false) R.terms
  no_nan_terms S N = of_done M (out_numbers M) (λ R. All NumberTerm R.terms) (λ w o p j. j S N) e

  -- ---- 9: in Mip no bound of an integer variable is minus zero
  pub no_minus_zero : (v : ℕ) → v < length M.lower → is_int M v ≡ true → (minus_zero (at R.lower v) ≡ false) × (minus_zero (at R.upper v) ≡ false)
  no_minus_zero v h i = let p = clean_answer M e in (p.0 v h i, p.1 v h i)
