-- src/presolve/mod.rs of microlp 0.7.0, changed: `presolve` over the call's numbers alone, and `reduced_model` above it.
-- Each reduction is meant to keep, up to round-off, every point whose integer variables are whole (dual fixing: a best one). points_kept proves both,
-- with no round-off, of models of whole numbers where no coefficient is rewritten: every point with dual fixing off, a best one with it on and a
-- whole objective. For the Rust *infeasible* is no certificate: where `presolve` says so, `reduced_model` has the model solved as written.
use Rattle.std.specs.Prelude.{List, [], length, Float}
use Rattle.std.proofs.Math.Option.{Option, none, some}
use Rattle.floats.specs.Num.{choose}
use Rattle.definition.specs.Model.{Model, counts, Reduced, Answer, infeasible, done}
use Rattle.definition.specs.Work.{Step, stop, next}
use Rattle.definition.specs.Begin.{crossed, Bounds, cross, bounds, Rows, false_row, rows_are, round_from, read_from}
use Rattle.definition.specs.Rounds.{rounds}
use Rattle.definition.specs.Emit.{final, no_out, out_from, answer_of}

module _ (M : Model) where
  unfoldable pub finish : Step → Answer
  finish (stop k) = infeasible k
  finish (next w) = answer_of M (out_from M (length M.rhs) 0 (final w no_out))

  -- the counts start at the rows that are trivially true
  unfoldable pub start : List Float → List Float → Rows → Answer
  start ls hs (false_row n) = infeasible (counts n 0 0 0 0)
  start ls hs (rows_are rows queue dirty n) =
      finish
      (rounds M M.params.max_rounds
      (record { wlo = ls; whi = hs; elo = ls; ehi = hs; rows = rows; dirty = dirty; coeff_dirty = dirty; queue = queue; counts = counts n 0 0 0 0 }))

  unfoldable pub after_rounding : Bounds → Answer
  after_rounding cross = infeasible (counts 0 0 0 0 0)
  after_rounding (bounds ls hs) = start ls hs (read_from M (length M.rhs) 0 (rows_are [] [] [] 0))

  unfoldable pub presolve : Answer
  presolve =
      choose (crossed M.lower M.upper)
      (infeasible (counts 0 0 0 0 0))
      (after_rounding (round_from M (length M.lower) 0 (bounds M.lower M.upper)))

-- `reduced_model`: the reduced model, or none, to solve the model as written
unfoldable pub reduced_model : Answer → Option Reduced
reduced_model (infeasible k) = none
reduced_model (done x) = choose x.flag (some x) none
