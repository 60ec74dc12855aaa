-- `Work::activity` of src/presolve/work.rs of microlp 0.7.0, changed: a row's smallest and largest sum over the working or the emitted box
-- (Savelsbergh), term by term in the row's order.
-- Any variable may leave its emitted bounds by its bound tolerance, so a row's sum may pass the activity by the slack, the sum of |a| times the
-- tolerance of the bound that the corner has: every verdict and every dropped row allows for it. A part that is infinite is counted and not added,
-- since a term has an implied bound exactly where no other term is infinite on that side.
use Rattle.std.specs.Prelude.{suc, Bool, List, [], ◌∷◌, Float}
use Rattle.std.specs.Float.Ieee.{lt}
use Rattle.floats.specs.Num.{choose, ◌⊕◌, ◌⊗◌, gt, 0f, is_finite, abs}
use Rattle.tolerances.specs.Tol.{Term, at}
use Rattle.definition.specs.declared.Activity.{Activity}
use Rattle.definition.specs.Model.{Model, Row, range_min, range_max}
use Rattle.definition.specs.Work.{Work, bound_tol}

abbrev pub no_activity : Activity
no_activity = record { l = 0f; u = 0f; ninf_l = 0; ninf_u = 0; absL = 0f; absU = 0f; slack_l = 0f; slack_u = 0f }

module _ (M : Model) where
  -- one term, its variable within lo..hi. The slacks take the emitted bounds' tolerances in either box
  unfoldable pub activity_step : Work → Float → Float → Term → Activity → Activity
  activity_step w lo hi t act =
      let a = t.coeff in
      let cmin = range_min a lo hi in
      let cmax = range_max a lo hi in
      record {
        l = choose (is_finite cmin) (act.l ⊕ cmin) act.l;
        u = choose (is_finite cmax) (act.u ⊕ cmax) act.u;
        ninf_l = choose (is_finite cmin) act.ninf_l (suc act.ninf_l);
        ninf_u = choose (is_finite cmax) act.ninf_u (suc act.ninf_u);
        absL = choose (is_finite cmin) (act.absL ⊕ abs cmin) act.absL;
        absU = choose (is_finite cmax) (act.absU ⊕ abs cmax) act.absU;
        slack_l = act.slack_l ⊕ abs a ⊗ bound_tol M w t.var (lt a 0f);
        slack_u = act.slack_u ⊕ abs a ⊗ bound_tol M w t.var (gt a 0f);
      }

  unfoldable pub activity_from : Work → List Float → List Float → Activity → List Term → Activity
  activity_from w los his act [] = act
  activity_from w los his act (t ∷ ts) = activity_from w los his (activity_step w (at los t.var) (at his t.var) t act) ts

  unfoldable pub activity : Work → Row → Bool → Activity
  activity w row working = activity_from w (choose working w.wlo w.elo) (choose working w.whi w.ehi) no_activity row.terms
