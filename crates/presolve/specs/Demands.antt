-- 01's DEMANDS ABOUT THE CALL ITSELF: what follows of the promise, in terms of the call's answer and of what the lent slices hold after it.
use Rattle.std.specs.Prelude.{ℕ, ◌+◌, ◌≤◌, ◌<◌, ◌≡◌, refl, ◌↔◌, Bool, true, false, ℤ, take, drop, replicate, Float}
use Rattle.std.proofs.Common.{arith, sym, ◌∙◌}
use Rattle.std.proofs.Math.Path.{ap, subst}
use mathlib.Core.List.{List, [], Memᴰ}
use Rattle.std.proofs.Math.Option.{Option, none, some}
use Rattle.std.proofs.Math.ListN.{length, get_or}
use Rattle.std.proofs.Math.Seq.{take_all}
use Rattle.floats.specs.Num.{0f, choose}
use Rattle.tolerances.specs.Tol.{Term, at}
use Rattle.definition.specs.declared.Counts.{Counts}
use Rattle.definition.specs.Model as definition
use Rattle.definition.specs.Model.{Model, is_int, Emit, Reduced}
use Rattle.definition.specs.Presolve.{presolve}
use Rattle.definition.specs.Refusal.{refusal}
use Rattle.rows_kept.specs.Statements.{Fate, entries_of, occurs, count_below, no_entry}
use Rattle.rows_kept.specs.NoMinusZero.{minus_zero}
use Rattle.rows_kept.proofs.Theorems as kept
use Rattle.points_kept.specs.Statements.{WholeNumbers, Point, terms_of, MeetsReduced, WholeReduced, Exact}
use Rattle.best_kept.specs.Objective.{WholeObjective, SameFeasible, SameLeast, BestKept}
use Rattle.points_kept.proofs.Theorem.{points_kept}
use Rattle.best_kept.proofs.BestKept.{best_kept}
use Rattle.points_kept.specs.ActivityEverywhere.{WholeBounds}
use Rattle.points_kept.proofs.ActivityEverywhere.{answer_whole}
use Rattle.definition.specs.Accepted.{Shaped, accepted_shaped}
use Rattle.definition.specs.Of.{model_of}
use Rattle.view.specs.Lists.{length_map}
use Rattle.row_terms.specs.declared.Place.{Place}
use Rattle.row_terms.specs.RowMark.{marked}
use Rattle.row_terms.specs.Place.{place_of, vars_there, coeffs_there, count_all_lem}
use Rattle.emit.specs.Terms.{vars_of, coeffs_of}
use Rattle.output.specs.Results.{Results, written}
use Rattle.presolve.specs.Promise.{Working, working, lengths, Outcome, refused, infeasible, presolved, Answer, answer_is, outcome, results_after, working_after, Promise}
use Rattle.presolve.specs.Fronts.{entry_at, entries_from, entry_member, entries_length, reduced_in, reduced_in_lem}
use Rattle.presolve.specs.RowTerms.{row_vars, row_coeffs, all_member, row_vars_lem, row_coeffs_lem}

-- ---- the three answers are three
abbrev kind : Outcome → ℕ
kind (refused k) = 0
kind (infeasible k) = 1
kind (presolved k n t q g) = 2

abbrev number : Outcome → ℕ
number (refused k) = k
number (infeasible k) = 0
number (presolved k n t q g) = 0

abbrev counts_in : Counts → Outcome → Counts
counts_in d (refused k) = d
counts_in d (infeasible k) = k
counts_in d (presolved k n t q g) = k

differ : {A : Type 0} {o p : Outcome} → o ≡ p → (kind o ≡ kind p → ⊥) → A
differ e f = absurd (f (ap kind e))

-- which answer it is says which case of the definition holds
refused_by : (r : Option ℕ) (a : definition.Answer) (k : ℕ) → outcome r a ≡ refused k → r ≡ some k
unfolding outcome
refused_by (some j) a k e = ap some (ap number e)
refused_by none (definition.infeasible c) k e = differ e (λ q. omega (arith, q))
refused_by none (definition.done x) k e = differ e (λ q. omega (arith, q))

refused_of : (r : Option ℕ) (a : definition.Answer) (k : ℕ) → r ≡ some k → outcome r a ≡ refused k
unfolding outcome
refused_of r a k e = rw e refl

infeasible_by : (r : Option ℕ) (a : definition.Answer) (k : Counts) → outcome r a ≡ infeasible k → (r ≡ none) × (a ≡ definition.infeasible k)
unfolding outcome
infeasible_by (some j) a k e = differ e (λ q. omega (arith, q))
infeasible_by none (definition.infeasible c) k e = (refl, ap (λ (o : Outcome). definition.infeasible (counts_in k o)) e)
infeasible_by none (definition.done x) k e = differ e (λ q. omega (arith, q))

infeasible_of : (r : Option ℕ) (a : definition.Answer) (k : Counts) → (r ≡ none) × (a ≡ definition.infeasible k) → outcome r a ≡ infeasible k
unfolding outcome
infeasible_of r a k e = rw (e.0, e.1) refl

-- a model: its values are the definition's
pub record Modelled (r : Option ℕ) (a : definition.Answer) (k : Counts) (n t q : ℕ) (g : Bool) : Type 0 where
  pub reduced : Reduced
  pub accepted : r ≡ none
  pub is : a ≡ definition.done reduced
  pub values : presolved reduced.counts (length reduced.emitted) (length reduced.terms) (length reduced.kept) reduced.flag ≡ presolved k n t q g

presolved_by : (r : Option ℕ) (a : definition.Answer) (k : Counts) (n t q : ℕ) (g : Bool) → outcome r a ≡ presolved k n t q g → Modelled r a k n t q g
unfolding outcome
presolved_by (some j) a k n t q g e = differ e (λ u. omega (arith, u))
presolved_by none (definition.infeasible c) k n t q g e = differ e (λ u. omega (arith, u))
presolved_by none (definition.done x) k n t q g e = record { reduced = x; accepted = refl; is = refl; values = e }

-- the model that an outcome says stands in the slices
abbrev in_slices : Model → Results → Reduced → Outcome → Reduced
in_slices M b d (refused k) = d
in_slices M b d (infeasible k) = d
in_slices M b d (presolved k n t q g) = reduced_in M b k n t q g

module _ {M : Model} {b b' : Results} {x x' : Working} {z : Answer} (p : Promise M b x z b' x') where
  abbrev table : Option ℕ
  table = refusal M (lengths b x)

  -- ---- DEMAND 1: a refusal is given exactly where the table has it, and writes nothing
  pub refused_exactly : (k : ℕ) → (answer_is z ≡ refused k) ↔ (table ≡ some k)
  refused_exactly k = ((λ e. refused_by table (presolve M) k (sym p.answer ∙ e)), (λ e. p.answer ∙ refused_of table (presolve M) k e))

  pub refusal_writes_nothing : (k : ℕ) → answer_is z ≡ refused k → (b' ≡ b) × (x' ≡ x)
  unfolding results_after working_after
  refusal_writes_nothing k e =
      let r = refused_by table (presolve M) k (sym p.answer ∙ e) in
      (p.results ∙ ap (λ (o : Option ℕ). results_after o (presolve M) b) r, p.working ∙ ap (λ (o : Option ℕ). working_after o x) r)

  -- an accepted call, infeasible included, leaves zeros throughout in the working slices
  pub zeros_after : table ≡ none → x' ≡ working (replicate (length x.floats) 0f) (replicate (length x.numbers) 0) (replicate (length x.adjacency) 0)
  unfolding working_after
  zeros_after e = p.working ∙ ap (λ (o : Option ℕ). working_after o x) e

  -- ---- DEMAND 2, infeasible: exactly where the definition says so, with its counts, and the result slices stay as they were
  pub infeasible_exactly : (k : Counts) → (answer_is z ≡ infeasible k) ↔ ((table ≡ none) × (presolve M ≡ definition.infeasible k))
  infeasible_exactly k = ((λ e. infeasible_by table (presolve M) k (sym p.answer ∙ e)), (λ e. p.answer ∙ infeasible_of table (presolve M) k e))

  pub infeasible_leaves : (k : Counts) → answer_is z ≡ infeasible k → b' ≡ b
  unfolding results_after
  infeasible_leaves k e =
      let r = infeasible_by table (presolve M) k (sym p.answer ∙ e) in
      p.results ∙ ap (λ (o : Option ℕ). results_after o (presolve M) b) r.0 ∙ ap (λ (a : definition.Answer). results_after none a b) r.1

  -- ---- a model
  module _ {k : Counts} {n t q : ℕ} {g : Bool} (e : answer_is z ≡ presolved k n t q g) where
    found : Modelled table (presolve M) k n t q g
    found = presolved_by table (presolve M) k n t q g (sym p.answer ∙ e)

    shaped : Shaped M
    shaped = accepted_shaped M (lengths b x) found.accepted

    -- DEMAND 2: what stands in the used fronts of the result slices is the definition's answer
    abbrev pub model : Reduced
    model = reduced_in M b' k n t q g

    -- the slices after the call, and the model in them, are those of the definition's answer
    slices_are : b' ≡ written found.reduced b
    unfolding results_after
    slices_are = p.results ∙ ap (λ (o : Option ℕ). results_after o (presolve M) b) found.accepted ∙ ap (λ (y : definition.Answer). results_after none y b) found.is

    model_is : model ≡ found.reduced
    model_is =
        let a = found.reduced in
        let l = kept.bounds_lengths M a found.is in
        ap (λ (c : Results). reduced_in M c k n t q g) slices_are ∙ sym (ap (in_slices M (written a b) a) found.values) ∙ reduced_in_lem M a b l.0 (l.1 ∙ shaped.uppers)

    pub in_slices_lem : presolve M ≡ definition.done model
    in_slices_lem = found.is ∙ ap definition.done (sym model_is)

    -- DEMAND 3: no row is lost. What became of row r: trivially true as handed in, emitted unchanged, dropped and kept, or rewritten and kept
    pub row_fate : (r : ℕ) → r < length M.rhs → Fate M r (entries_from b' n 0) (take q b'.kept)
    unfolding reduced_in
    row_fate = kept.fate M model in_slices_lem

    pub no_other_row : (r : ℕ) → length M.rhs ≤ r → (entries_of r (entries_from b' n 0) ≡ []) × (occurs r (take q b'.kept) ≡ 0)
    unfolding reduced_in
    no_other_row = kept.none_beyond M model in_slices_lem

    -- the first count is the number of rows with no emitted entry
    pub rows_dropped : k.rowsDropped ≡ count_below (length M.rhs) (no_entry (entries_from b' n 0))
    unfolding reduced_in
    rows_dropped = kept.dropped_count M model in_slices_lem

    -- rows emitted and rows dropped are the rows given
    pub rows_conserved : n + k.rowsDropped ≡ length M.rhs
    unfolding reduced_in
    rows_conserved = ap (λ (l : ℕ). l + k.rowsDropped) (sym (entries_length b' n 0)) ∙ kept.conserved M model in_slices_lem

    -- the readers of an emitted row's terms return the definition's: `row_vars` and `row_coeffs` are what row_terms' `row_vars` and `row_coeffs` promise
    module _ (y : Emit) (m : Memᴰ y (entries_from b' n 0)) where
      inside : y.rewritten ≡ true → y.upto ≤ length found.reduced.terms
      unfolding reduced_in
      inside w = (all_member (kept.spans_within M found.reduced found.is) y (subst (Memᴰ y) (ap (λ (R : Reduced). R.emitted) model_is) m) w).1

      pub row_terms_lem : (row_vars M b' y ≡ vars_of (terms_of M model y)) × (row_coeffs M b' y ≡ coeffs_of (terms_of M model y))
      row_terms_lem = (
        ap (λ (c : Results). row_vars M c y) slices_are ∙ row_vars_lem M found.reduced y inside b shaped.coeffs ∙ ap (λ (R : Reduced). vars_of (terms_of M R y)) (sym model_is),
        ap (λ (c : Results). row_coeffs M c y) slices_are ∙ row_coeffs_lem M found.reduced y inside b shaped.coeffs ∙ ap (λ (R : Reduced). coeffs_of (terms_of M R y)) (sym model_is),
      )

    -- so do those whose place and count `row_place` tells, and the C face's `suedeonyx_row_terms`: i is the entry's number
    module _ (i : ℕ) (l : i < n) where
      abbrev pub stands : Place
      stands = place_of (get_or b'.emit_rewritten i 0) (get_or b'.emit_from i 0) (get_or b'.emit_upto i 0) M.index M.coeff b'.term_index b'.term_coeff

      abbrev terms : List Term
      terms = terms_of M model (entry_at b' i)

      parts : (row_vars M b' (entry_at b' i) ≡ vars_of terms) × (row_coeffs M b' (entry_at b' i) ≡ coeffs_of terms)
      parts = row_terms_lem (entry_at b' i) (entry_member b' n 0 i i (omega arith) l)

      all : stands.count ≡ length terms
      unfolding entry_at
      all =
          count_all_lem (get_or b'.emit_rewritten i 0) (get_or b'.emit_from i 0) (get_or b'.emit_upto i 0) M.index M.coeff b'.term_index b'.term_coeff (length terms)
          (ap length parts.0 ∙ length_map (λ (u : Term). u.var) terms) (ap length parts.1 ∙ length_map (λ (u : Term). u.coeff) terms)

      pub row_place : (take stands.count (drop stands.start (choose (marked stands.rewritten) b'.term_index M.index)) ≡ vars_of terms)
          × (take stands.count (drop stands.start (choose (marked stands.rewritten) b'.term_coeff M.coeff)) ≡ coeffs_of terms)
      unfolding entry_at
      row_place =
          let m = get_or b'.emit_rewritten i 0 in
          let f = get_or b'.emit_from i 0 in
          let u = get_or b'.emit_upto i 0 in (
            vars_there m f u M.index M.coeff b'.term_index b'.term_coeff ∙ ap (take stands.count) parts.0
                ∙ take_all stands.count (vars_of terms) (omega (arith, all, length_map (λ (v : Term). v.var) terms)),
            coeffs_there m f u M.index M.coeff b'.term_index b'.term_coeff ∙ ap (take stands.count) parts.1
                ∙ take_all stands.count (coeffs_of terms) (omega (arith, all, length_map (λ (v : Term). v.coeff) terms)),
          )

    -- a variable that is not an integer one keeps its given bounds
    pub bounds_given : (v : ℕ) → is_int M v ≡ false → (at (take (length M.lower) b'.lower) v ≡ at M.lower v) × (at (take (length M.lower) b'.upper) v ≡ at M.upper v)
    unfolding reduced_in
    bounds_given = kept.bounds_given M model in_slices_lem

    -- 02's W1: an integer variable's are not minus zero in Mip, dual fixing off or on
    pub no_minus_zero : (v : ℕ) → v < length M.lower → is_int M v ≡ true
        → (minus_zero (at (take (length M.lower) b'.lower) v) ≡ false) × (minus_zero (at (take (length M.lower) b'.upper) v) ≡ false)
    unfolding reduced_in
    no_minus_zero = kept.no_minus_zero M model in_slices_lem

    -- on a farm model, dual fixing off or on and coefficients rewritten or not, the reduced bounds are whole numbers of the given box, in order
    pub bounds_whole : WholeNumbers M → WholeBounds M model
    bounds_whole f = answer_whole M (record { shape = shaped; numbers = f }) in_slices_lem

-- ---- OF THE ENTRY'S OWN MODEL: `model_of` (refuse) of a call's numbers, with the Rust's parameters
module _ {obj lower upper : List Float} {domain starts index : List ℕ} {coeff : List Float} {cmp : List ℕ} {rhs : List Float} {mode : ℕ} {feas int_tol : Float}
    {b b' : Results} {x x' : Working} {z : Answer} (p : Promise (model_of obj lower upper domain starts index coeff cmp rhs mode feas int_tol) b x z b' x') where
  abbrev called : Model
  called = model_of obj lower upper domain starts index coeff cmp rhs mode feas int_tol

  -- at most 30 waves
  pub waves_infeasible : (k : Counts) → answer_is z ≡ infeasible k → k.passes ≤ 30
  waves_infeasible k e = omega (arith, kept.waves_bounded_infeasible called k ((infeasible_exactly p k).0 e).1, kept.thirty)

  -- DEMAND 3, infeasible: on a farm model with dual fixing off and nothing rewritten there is no point
  pub no_point : WholeNumbers called → mode ≡ 1 → (k : Counts) → answer_is z ≡ infeasible k → k.coeffsTightened ≡ 0 → (y : ℕ → ℤ) → Point called y → ⊥
  no_point f one k e =
      let r = (infeasible_exactly p k).0 e in
      subst (Exact called) r.1 (points_kept called (record { shape = accepted_shaped called (lengths b x) r.0; numbers = f }) one refl)

  -- 02's W13: nor is there with dual fixing on
  pub no_point_either_way : WholeNumbers called → (k : Counts) → answer_is z ≡ infeasible k → k.coeffsTightened ≡ 0 → (y : ℕ → ℤ) → Point called y → ⊥
  no_point_either_way f k e =
      let r = (infeasible_exactly p k).0 e in
      subst (BestKept called) r.1 (best_kept called (record { shape = accepted_shaped called (lengths b x) r.0; numbers = f }) refl)

  module _ {k : Counts} {n t q : ℕ} {g : Bool} (e : answer_is z ≡ presolved k n t q g) where
    pub waves_run : k.passes ≤ 30
    unfolding reduced_in
    waves_run = omega (arith, kept.waves_bounded called (model p e) (in_slices_lem p e), kept.thirty)

    -- on a farm model with dual fixing off and nothing rewritten the reduced model is of whole numbers, and has exactly the input's points
    pub same_points : WholeNumbers called → mode ≡ 1 → k.coeffsTightened ≡ 0
        → WholeReduced called (model p e) × ((y : ℕ → ℤ) → MeetsReduced called (model p e) y ↔ Point called y)
    unfolding reduced_in
    same_points f one = subst (Exact called) (in_slices_lem p e) (points_kept called (record { shape = shaped p e; numbers = f }) one refl)

    -- 02's W13: on a farm model with nothing rewritten, dual fixing off or on, the reduced model's points are points of the input, and one has a point exactly when
    -- the other has; where the objective is whole, the least objective of one is that of the other
    pub best_point : WholeNumbers called → k.coeffsTightened ≡ 0 → SameFeasible called (model p e) × (WholeObjective called → SameLeast called (model p e))
    unfolding reduced_in
    best_point f = subst (BestKept called) (in_slices_lem p e) (best_kept called (record { shape = shaped p e; numbers = f }) refl)
