-- `fix`, `emit_bounds`, `tighten_upper` and `tighten_lower` of src/presolve/work.rs of microlp 0.7.0, changed: what changes a variable's bounds.
-- An implied bound is relaxed outward, so that it cuts no point that meets the row within its budget. An integer variable's is then rounded and
-- emitted. Any other variable keeps its bounds as given, and what is implied of it stays a working bound: emitted, it would take from the variable
-- the room that the model leaves it, and the rooms of several variables can add up, in a row that is kept, to more than that row's tolerance. Where
-- bounds cross by no more than their tolerance, nothing is changed; where they cross by more, no point is left.
use Rattle.std.specs.Prelude.{ℕ, true, false, ◌||◌, set, Float}
use Rattle.std.specs.Float.Ieee.{lt}
use Rattle.floats.specs.Num.{choose, ◌⊕◌, ◌⊖◌, ◌⊗◌, gt, 1f, ½f, is_finite, abs, maxf, minf, floor, ceil}
use Rattle.tolerances.specs.Tol.{at}
use Rattle.definition.specs.Model.{Model, is_int, tightened, fixed_one}
use Rattle.definition.specs.Work.{Work, with_bounds, with_counts, Step, stop, next, bound_tol}
use Rattle.definition.specs.Marks.{mark_var}

module _ (M : Model) where
  unfoldable pub fix : ℕ → Float → Work → Work
  fix v x w = mark_var M v (with_counts (fixed_one w.counts) (with_bounds (set w.wlo v x) (set w.whi v x) (set w.elo v x) (set w.ehi v x) w))

  -- `bounds_tightened += 1; mark_var(v)`
  unfoldable pub mark_tightened : ℕ → Work → Work
  mark_tightened v w = mark_var M v (with_counts (tightened w.counts) w)

  -- working bounds may already be tighter: they only shrink
  unfoldable pub emit_bounds : ℕ → Float → Float → Work → Work
  emit_bounds v lo hi w =
      with_bounds
      (set w.wlo v (minf (maxf (at w.wlo v) lo) hi))
      (set w.whi v (maxf (minf (at w.whi v) hi) lo))
      (set w.elo v lo)
      (set w.ehi v hi)
      (choose (gt lo (at w.elo v) || lt hi (at w.ehi v)) (mark_tightened v w) w)

  -- ---- an implied upper bound q, relaxed by relax. An integer variable's is rounded and emitted, whether or not the working bound was tighter
  unfoldable pub upper_int : ℕ → Float → Work → Step
  upper_int v qi w =
      choose (lt qi (at w.ehi v ⊖ ½f))
      (choose (lt qi (at w.wlo v ⊖ ½f))
      (stop w.counts)
      (next (mark_tightened v (with_bounds w.wlo (set w.whi v (minf (at w.whi v) qi)) w.elo (set w.ehi v qi) w))))
      (next w)

  -- any other variable's stays a working bound. A crossing within the bound's tolerance is left alone
  unfoldable pub upper_real : ℕ → Float → Work → Step
  upper_real v nq w =
      choose (lt nq (at w.whi v ⊖ M.params.improve_rel ⊗ maxf (abs nq) 1f))
      (choose (lt nq (at w.wlo v))
      (choose (gt (at w.wlo v ⊖ nq) (bound_tol M w v false)) (stop w.counts) (next w))
      (next (mark_tightened v (with_bounds w.wlo (set w.whi v nq) w.elo w.ehi w))))
      (next w)

  unfoldable pub tighten_upper : ℕ → Float → Float → Work → Step
  tighten_upper v q relax w =
      choose (is_finite q)
      (choose (is_int M v) (upper_int v (floor (q ⊕ relax)) w) (upper_real v (q ⊕ relax) w))
      (next w)

  -- ---- an implied lower bound
  unfoldable pub lower_int : ℕ → Float → Work → Step
  lower_int v qi w =
      choose (gt qi (at w.elo v ⊕ ½f))
      (choose (gt qi (at w.whi v ⊕ ½f))
      (stop w.counts)
      (next (mark_tightened v (with_bounds (set w.wlo v (maxf (at w.wlo v) qi)) w.whi (set w.elo v qi) w.ehi w))))
      (next w)

  unfoldable pub lower_real : ℕ → Float → Work → Step
  lower_real v nq w =
      choose (gt nq (at w.wlo v ⊕ M.params.improve_rel ⊗ maxf (abs nq) 1f))
      (choose (gt nq (at w.whi v))
      (choose (gt (nq ⊖ at w.whi v) (bound_tol M w v true)) (stop w.counts) (next w))
      (next (mark_tightened v (with_bounds (set w.wlo v nq) w.whi w.elo w.ehi w))))
      (next w)

  unfoldable pub tighten_lower : ℕ → Float → Float → Work → Step
  tighten_lower v q relax w =
      choose (is_finite q)
      (choose (is_int M v) (lower_int v (ceil (q ⊖ relax)) w) (lower_real v (q ⊖ relax) w))
      (next w)
