-- `presolve` WITH ANOTHER ACTIVITY: the definition's steps from `several_terms` and `tighten_form` up to `presolve`, with `act` in the place of `activity M` in
-- the three places where an activity is taken: twice for the turn of a row of several terms, and once for the coefficient step's look at a row. `Looks` says
-- what `act` has to agree on.
use Rattle.std.specs.Prelude.{ℕ, zero, suc, ◌-◌, Bool, true, false, ◌&&◌, ◌||◌, List, [], ◌∷◌, length, get_or, set, Float}
use Rattle.floats.specs.Num.{choose}
use Rattle.tolerances.specs.Tol.{Term}
use Rattle.definition.specs.declared.Activity.{Activity}
use Rattle.definition.specs.Params.{max_waves}
use Rattle.definition.specs.Model.{Model, is_mip, Row, counts, passed, Answer, infeasible}
use Rattle.definition.specs.Work.{Work, with_marks, with_row, with_counts, Step, stop, next, ◌>>=◌, no_row, drop_row}
use Rattle.definition.specs.Folds.{fold_fixed}
use Rattle.definition.specs.Begin.{crossed, Bounds, cross, bounds, Rows, false_row, rows_are, round_from, read_from}
use Rattle.definition.specs.Singles.{empty_row_check, singleton_row}
use Rattle.definition.specs.Sides.{unreachable, redundant}
use Rattle.definition.specs.Forcing.{forces_min, forces_max, fix_all}
use Rattle.definition.specs.Implied.{implied_bounds}
use Rattle.definition.specs.Wave.{idle}
use Rattle.definition.specs.Rewrites.{Form, le_form, ge_form, no_form, form_of, vacuous_room}
use Rattle.definition.specs.Tighten.{eligible, rewrite_loop, spared}
use Rattle.definition.specs.Rounds.{dual_step}
use Rattle.definition.specs.Presolve.{finish}
use Rattle.rows_kept.specs.Whole.{begun}

module _ (M : Model) (act : Work → Row → Bool → Activity) where
  unfoldable pub several_with : ℕ → Row → Work → Step
  several_with r row w =
      let wact = act w row true in
      let e = act w row false in
      choose (unreachable M r row wact)
      (stop w.counts)
      (choose (forces_min M r row wact e w)
      (next (drop_row r row (fix_all M true w row.terms w)))
      (choose (forces_max M r row wact e w)
      (next (drop_row r row (fix_all M false w row.terms w)))
      (choose (redundant M row wact e)
      (next (drop_row r row w))
      (implied_bounds M r row wact row.terms w))))

  unfoldable pub by_count_with : ℕ → Row → List Term → Work → Step
  by_count_with r row [] w = empty_row_check M r row w
  by_count_with r row (t ∷ []) w = singleton_row M r row t w
  by_count_with r row (t ∷ u ∷ ts) w = several_with r row w

  unfoldable pub wave_row_with : ℕ → Work → Step
  wave_row_with r w =
      let w1 = with_marks (set w.dirty r false) w.coeff_dirty w.queue w in
      let row = get_or w1.rows r no_row in
      choose row.alive
      (let row1 = fold_fixed M r w1 row in
      by_count_with r row1 row1.terms (with_row r row1 w1))
      (next w1)

  unfoldable pub wave_rows_with : List ℕ → Work → Step
  wave_rows_with [] w = next w
  wave_rows_with (r ∷ rs) w = wave_row_with r w >>= λ w1. wave_rows_with rs w1

  unfoldable pub wave_with : Work → Step
  wave_with w = wave_rows_with w.queue (with_counts (passed w.counts) (with_marks w.dirty w.coeff_dirty [] w))

  unfoldable pub waves_with : ℕ → Work → Step
  waves_with zero w = next w
  waves_with (suc n) w =
      let on = wave_with w >>= λ w1. waves_with n w1 in
      choose (idle w.queue) (next w) on

  unfoldable pub tighten_form_with : Form → ℕ → Row → Work → Bool → Work × Bool
  tighten_form_with f r row w changed =
      let a = act w row true in
      let nz = vacuous_room f row a in
      choose (spared M row (eligible M f nz w row a row.terms 0))
      ((w, changed))
      (let s = rewrite_loop M (length row.terms) f nz r 0 (record { row = row; act = a; work = w; changed = changed; broke = false }) in
      (with_row r s.row s.work, s.changed))

  unfoldable pub tighten_by_with : Form → ℕ → Row → Work → Bool → Work × Bool
  tighten_by_with le_form r row w changed = tighten_form_with le_form r row w changed
  tighten_by_with ge_form r row w changed = tighten_form_with ge_form r row w changed
  tighten_by_with no_form r row w changed = (w, changed)

  unfoldable pub tighten_row_with : ℕ → Work → Bool → Work × Bool
  tighten_row_with r w changed =
      let row = get_or w.rows r no_row in
      let w1 = with_marks w.dirty (set w.coeff_dirty r false) w.queue w in
      choose (row.alive && get_or w.coeff_dirty r false) (tighten_by_with (form_of row) r row w1 changed) ((w, changed))

  unfoldable pub tighten_from_with : ℕ → ℕ → Work → Bool → Work × Bool
  tighten_from_with zero r w changed = (w, changed)
  tighten_from_with (suc n) r w changed =
      let s = tighten_row_with r w changed in
      tighten_from_with n (suc r) s.0 s.1

  unfoldable pub after_waves_with : Work → Work × Bool
  after_waves_with w =
      let s = tighten_from_with (length w.rows) 0 w false in
      let d = dual_step M s.0 in
      choose (is_mip M) (d.0, s.1 || d.1) (w, false)

  unfoldable pub rounds_with : ℕ → Work → Step
  rounds_with zero w = next w
  rounds_with (suc n) w =
      waves_with (max_waves M.params - w.counts.passes) w >>= λ w1.
      let s = after_waves_with w1 in
      let again = rounds_with n s.0 in
      choose s.1 again (next s.0)

  unfoldable pub start_with : List Float → List Float → Rows → Answer
  start_with ls hs (false_row n) = infeasible (counts n 0 0 0 0)
  start_with ls hs (rows_are rows queue dirty n) = finish M (rounds_with M.params.max_rounds (begun ls hs rows queue dirty n))

  unfoldable pub after_rounding_with : Bounds → Answer
  after_rounding_with cross = infeasible (counts 0 0 0 0 0)
  after_rounding_with (bounds ls hs) = start_with ls hs (read_from M (length M.rhs) 0 (rows_are [] [] [] 0))

  unfoldable pub presolve_with : Answer
  presolve_with =
      choose (crossed M.lower M.upper)
      (infeasible (counts 0 0 0 0 0))
      (after_rounding_with (round_from M (length M.lower) 0 (bounds M.lower M.upper)))
