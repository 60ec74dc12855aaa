-- `primal_wave` of src/presolve/work.rs of microlp 0.7.0, and its loop in mod.rs, changed: a queued row is folded and handled by its count of terms;
-- the waves of a round.
-- A wave takes the rows queued so far, in the queue's order. A row that something changes meanwhile is in the next wave, unless its turn in this one
-- is still to come. The cap on waves is a safety net: every reduction may be left out, so what is queued when it is reached is abandoned without
-- harm.
use Rattle.std.specs.Prelude.{ℕ, zero, suc, Bool, true, false, List, [], ◌∷◌, get_or, set}
use Rattle.floats.specs.Num.{choose}
use Rattle.tolerances.specs.Tol.{Term}
use Rattle.definition.specs.Model.{Model, Row, passed}
use Rattle.definition.specs.Work.{Work, with_marks, with_row, with_counts, Step, stop, next, ◌>>=◌, no_row, drop_row}
use Rattle.definition.specs.Activities.{activity}
use Rattle.definition.specs.Folds.{fold_fixed}
use Rattle.definition.specs.Singles.{empty_row_check, singleton_row}
use Rattle.definition.specs.Sides.{unreachable, redundant}
use Rattle.definition.specs.Forcing.{forces_min, forces_max, fix_all}
use Rattle.definition.specs.Implied.{implied_bounds}

unfoldable pub idle : List ℕ → Bool
idle [] = true
idle (r ∷ rs) = false

module _ (M : Model) where
  -- a row of two terms or more: infeasible, forcing (the low side only where the high side gave nothing), redundant, else implied bounds
  unfoldable pub several_terms : ℕ → Row → Work → Step
  several_terms r row w =
      let wact = activity M w row true in
      let e = activity M w row false in
      choose (unreachable M r row wact)
      (stop w.counts)
      (choose (forces_min M r row wact e w)
      (next (drop_row r row (fix_all M true w row.terms w)))
      (choose (forces_max M r row wact e w)
      (next (drop_row r row (fix_all M false w row.terms w)))
      (choose (redundant M row wact e)
      (next (drop_row r row w))
      (implied_bounds M r row wact row.terms w))))

  unfoldable pub by_count : ℕ → Row → List Term → Work → Step
  by_count r row [] w = empty_row_check M r row w
  by_count r row (t ∷ []) w = singleton_row M r row t w
  by_count r row (t ∷ u ∷ ts) w = several_terms r row w

  -- the row is no longer queued while it is handled, so a bound that it changes queues it again
  unfoldable pub wave_row : ℕ → Work → Step
  wave_row r w =
      let w1 = with_marks (set w.dirty r false) w.coeff_dirty w.queue w in
      let row = get_or w1.rows r no_row in
      choose row.alive
      (let row1 = fold_fixed M r w1 row in
      by_count r row1 row1.terms (with_row r row1 w1))
      (next w1)

  unfoldable pub wave_rows : List ℕ → Work → Step
  wave_rows [] w = next w
  wave_rows (r ∷ rs) w = wave_row r w >>= λ w1. wave_rows rs w1

  -- 01's "wave": it is counted as it begins, and takes the rows queued so far. A row that is dropped by then still costs the wave
  unfoldable pub wave : Work → Step
  wave w = wave_rows w.queue (with_counts (passed w.counts) (with_marks w.dirty w.coeff_dirty [] w))

  -- while the queue is not empty, at most n waves more
  unfoldable pub waves : ℕ → Work → Step
  waves zero w = next w
  waves (suc n) w =
      let on = wave w >>= λ w1. waves n w1 in
      choose (idle w.queue) (next w) on
