-- `primal_wave` of src/presolve/work.rs of microlp 0.7.0, changed: what a row's activities say of it.
-- Whether no point meets it, whether it may force its variables, whether it is redundant. The working box, widened by the slack, holds every point
-- that is left; so a row that its best corner misses by more than the budget there has none. The corner decides: away from it the sum grows faster
-- than the tolerance. Redundancy is judged by the emitted bounds, so that no drop rests on a bound that only the dropped row implies, and with the
-- slack, so that a solution within tolerance still meets the dropped row. The working activity lies within the emitted one, so it serves as a
-- precheck.
use Rattle.std.specs.Prelude.{ℕ, Bool, not, ◌&&◌, ◌||◌, eqb, Float}
use Rattle.std.specs.Float.Ieee.{lt, le}
use Rattle.floats.specs.Num.{choose, ◌⊕◌, ◌⊖◌, ◌⊗◌, gt, ge, 0f, 1f, is_finite, maxf}
use Rattle.definition.specs.declared.Activity.{Activity}
use Rattle.definition.specs.Model.{Model, Row, rhs_mag}
use Rattle.definition.specs.Work.{budget}

-- the sides of the row that the working activity can speak of
unfoldable pub hi_side : Row → Activity → Bool
hi_side row act = is_finite row.hi && eqb act.ninf_l 0

unfoldable pub lo_side : Row → Activity → Bool
lo_side row act = is_finite row.lo && eqb act.ninf_u 0

-- the row's magnitude at its minimum and at its maximum corner
unfoldable pub mag_l : Row → Activity → Float
mag_l row act = act.absL ⊕ rhs_mag row row.hi ⊕ row.fold_scale

unfoldable pub mag_u : Row → Activity → Float
mag_u row act = act.absU ⊕ rhs_mag row row.lo ⊕ row.fold_scale

-- ---- redundancy: whether a side is infinite, or the corner that reaches furthest past it, with its slack, stays within the limit.
-- `within` is the Rust's `w_lo_red && w_hi_red`, `within_by` its `lo_red && hi_red`
unfoldable pub within_lo : Float → Row → Activity → Bool
within_lo limit row act = not (is_finite row.lo) || eqb act.ninf_l 0 && ge (act.l ⊖ act.slack_l) limit

unfoldable pub within_hi : Float → Row → Activity → Bool
within_hi limit row act = not (is_finite row.hi) || eqb act.ninf_u 0 && le (act.u ⊕ act.slack_u) limit

unfoldable pub within : Row → Activity → Bool
within row act = within_lo row.lo row act && within_hi row.hi row act

unfoldable pub within_by : Float → Row → Activity → Bool
within_by red row act = within_lo (row.lo ⊕ red) row act && within_hi (row.hi ⊖ red) row act

-- the magnitude of a finite side, 0 of an infinite one
unfoldable pub side_mag : Row → Float → Float
side_mag row b = choose (is_finite b) (rhs_mag row b) 0f

unfoldable pub mag_both : Row → Activity → Float
mag_both row e = e.absL ⊕ e.absU ⊕ row.fold_scale ⊕ side_mag row row.lo ⊕ side_mag row row.hi

module _ (M : Model) where
  -- the budgets at the corners: the Rust has 0 for a side that the activity can't speak of, where none is read
  unfoldable pub budget_l : ℕ → Row → Activity → Float
  budget_l r row act = choose (hi_side row act) (budget M r (mag_l row act)) 0f

  unfoldable pub budget_u : ℕ → Row → Activity → Float
  budget_u r row act = choose (lo_side row act) (budget M r (mag_u row act)) 0f

  -- ---- infeasibility: the best corner of the working box, with its slack, misses the row's budget
  unfoldable pub above_hi : ℕ → Row → Activity → Bool
  above_hi r row act = hi_side row act && gt (act.l ⊖ act.slack_l) (row.hi ⊕ budget_l r row act)

  unfoldable pub below_lo : ℕ → Row → Activity → Bool
  below_lo r row act = lo_side row act && lt (act.u ⊕ act.slack_u) (row.lo ⊖ budget_u r row act)

  unfoldable pub unreachable : ℕ → Row → Activity → Bool
  unreachable r row act = above_hi r row act || below_lo r row act

  -- ---- forcing, the precheck over the working box
  unfoldable pub near_min : ℕ → Row → Activity → Bool
  near_min r row act = hi_side row act && ge act.l (row.hi ⊖ budget_l r row act)

  unfoldable pub near_max : ℕ → Row → Activity → Bool
  near_max r row act = lo_side row act && le act.u (row.lo ⊕ budget_u r row act)

  -- the working activity is a precheck without the margin, and the emitted one, e, decides with it
  unfoldable pub redundant : Row → Activity → Activity → Bool
  redundant row wact e = within row wact && within_by (M.params.redundant_margin ⊗ maxf (mag_both row e) 1f) row e
