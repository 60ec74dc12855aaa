-- THE THEOREM: on a model of whole numbers all is said to hold of a whole-number plan, its values of any size, exactly where it is a point (`plan_exact`); and so
-- of a call that is not refused (`call_exact`). Where a value passes a bound nothing is claimed of the rows: there a product may overflow, and the
-- excursion then be infinite.
use Prim.Native.Nat.{ℕ, ◌^◌, ◌≤◌, ◌<◌}
use native.Mathlib.Omega.{arith}
use Rattle.std.specs.Prelude.{◌≡◌, List, length, Float}
use Rattle.std.proofs.Math.Option.{none}
use Rattle.floats.specs.Zed.{A}
use Rattle.floats.specs.Points.{int, Bounded}
use Rattle.floats.specs.WholeRounding.{Tol}
use Rattle.tolerances.specs.Tol.{at, bound_tolerance}
use Rattle.tolerances.specs.Budget.{bound_tol_lem}
use Rattle.definition.specs.Model.{Model, is_int, op_of}
use Rattle.definition.specs.Choices.{and_false}
use Rattle.definition.specs.Accepted.{accepted_shaped}
use Rattle.definition.specs.Refusal.{shortest}
use Rattle.points_kept.specs.Statements.{WholeNumbers, PureInteger, Point, Within}
use Rattle.points_kept.proofs.Integers.{size_between}
use Rattle.points_kept.proofs.WholeFloats.{tolerance}
use Rattle.points_kept.proofs.Invariant.{asks, meets}
use Rattle.plan.specs.Plan.{passes_lower, passes_upper, not_whole}
use Rattle.plan.specs.Refusal.{plan_refusal}
use Rattle.plan.proofs.Accepted.{accepted_model}
use Rattle.plan_exact.specs.Statements.{WholePlan, numbers, Exactly}
use Rattle.plan_exact.proofs.Bounds.{lower_kept, lower_passed, upper_kept, upper_passed, whole_kept}
use Rattle.plan_exact.proofs.Rows.{row_held, row_met}
use Rattle.plan_exact.proofs.First.{AllKept, kept_all, all_kept}

module _ (M : Model) (pure : PureInteger M) (p : List Float) (whole : WholePlan M p) where
  bound_tol : (b : Float) → Bounded 1048576 b → Tol (bound_tolerance M.feas b)
  bound_tol b k = bound_tol_lem (tolerance pure.numbers.feas) (record { whole = k.whole; small = omega (arith, k.small) })

  sizes : Within (length M.lower) M.lower M.upper (numbers p) → (v : ℕ) → v < length M.lower → A (int (at p v)) ≤ 2 ^ 20
  sizes k v h = size_between (int (at M.lower v)) (int (at p v)) (int (at M.upper v)) (2 ^ 20) (k v h).0 (k v h).1 (pure.numbers.lower v h).small (pure.numbers.upper v h).small

  to_point : AllKept M p → Point M (numbers p)
  unfolding passes_lower passes_upper
  to_point a = record { bounds = within; rows = λ r h. meets (op_of M r) (pure.shape.op r h) (row_held M pure p whole (sizes within) r h (a.rows r h)) }
    where
      within : Within (length M.lower) M.lower M.upper (numbers p)
      within v h =
          let bl = pure.numbers.lower v h in
          let bu = pure.numbers.upper v h in
          (lower_kept (whole v h) bl (bound_tol _ bl) (a.lower v h), upper_kept (whole v h) bu (bound_tol _ bu) (a.upper v h))

  from_point : Point M (numbers p) → AllKept M p
  unfolding passes_lower passes_upper not_whole
  from_point q =
      record {
        lower = λ v h. lower_passed (whole v h) (pure.numbers.lower v h) (bound_tol _ (pure.numbers.lower v h)) (q.bounds v h).0;
        upper = λ v h. upper_passed (whole v h) (pure.numbers.upper v h) (bound_tol _ (pure.numbers.upper v h)) (q.bounds v h).1;
        whole = λ v h. and_false (is_int M v) _ (whole_kept (whole v h) (tolerance pure.numbers.int_tol));
        rows = λ r h. row_met M pure p whole (sizes q.bounds) r h (asks M pure (numbers p) q r h);
      }

  pub plan_exact : Exactly M p
  plan_exact = ((λ e. to_point (kept_all M p e)), (λ q. all_kept M p (from_point q)))

-- of a call that is not refused, whose model is of whole numbers
pub call_exact : (M : Model) (p : List Float) → WholeNumbers M → WholePlan M p → plan_refusal M p ≡ none → Exactly M p
call_exact M p w whole e = plan_exact M (record { shape = accepted_shaped M (shortest M) (accepted_model M p e); numbers = w }) p whole
