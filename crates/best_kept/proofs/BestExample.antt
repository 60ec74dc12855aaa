-- `best_kept` IS NOT EMPTY: of definition's `rise_then_fall`, least -x + y over x, y from 0 to 5 with x + y ≥ 3, dual fixing leaves one point, in two rounds.
-- x = 0, y = 3 is one of those that vanish; the least objective, -5, is kept.
use Rattle.std.specs.Prelude.{◌≤◌, ◌≡◌, refl, ◌⊎◌, pos, negsuc, get_or}
use Rattle.std.proofs.Common.{arith, subst, inl, inr}
use mathlib.Core.List.Memᴰ
use Rattle.std.specs.Float.Ieee.{neg, le, lt, eq, fits, of_bits, of_int, round}
use Rattle.floats.specs.Zed.{ext, ◌⊑◌}
use Rattle.floats.specs.Points.{int, is_whole, Whole, Bounded}
use Rattle.tolerances.specs.Tol.{at, zip_terms}
use Rattle.definition.specs.Model.{done, from, upto, nnz, written, op_of, rhs_of}
use Rattle.definition.specs.Presolve.{presolve}
use Rattle.definition.specs.Refusal.{shortest}
use Rattle.definition.specs.Accepted.{accepted_shaped}
use Rattle.definition.specs.Cases.{Right, each, writing}
use Rattle.definition.specs.DualCases.{priced, dual_cases, dual_cases_lem, five_and_none, rise_then_fall}
use Rattle.points_kept.specs.Statements.{Point, MeetsReduced, PureInteger, Meets, dot}
use Rattle.best_kept.specs.Objective.{WholeObjective, cost_below, cost, Least, BestKept}
use Rattle.points_kept.proofs.Example.{bounded, only}
use Rattle.points_kept.proofs.Mixed.{two, upto_20, upto_15}
use Rattle.best_kept.proofs.BestKept.{best_kept}
use Rattle.best_kept.specs.BestExample.{lost, riser, stays}

pub right : Right rise_then_fall
right = each dual_cases dual_cases_lem rise_then_fall (Memᴰ.tail (Memᴰ.tail (Memᴰ.head refl)))

pub riser_pure : PureInteger riser
unfolding rise_then_fall priced writing from upto nnz rhs_of le lt eq fits of_bits round
riser_pure =
    record {
      shape = accepted_shaped riser (shortest riser) right.0;
      numbers = record {
        integral = two (λ v. (get_or riser.domain v 0 ≡ 0) ⊎ (get_or riser.domain v 0 ≡ 2)) (inl refl) (inl refl);
        lower = two (λ v. Bounded 1048576 (at riser.lower v)) (upto_20 0 (omega arith)) (upto_20 0 (omega arith));
        upper = two (λ v. Bounded 1048576 (at riser.upper v)) (upto_20 5 (omega arith)) (upto_20 5 (omega arith));
        coeff = two (λ k. Bounded 32768 (at riser.coeff k)) (upto_15 1 (omega arith)) (upto_15 1 (omega arith));
        rhs = only (λ r. Bounded 1099511627776 (rhs_of riser r)) (bounded 3 1099511627776 (omega arith) (omega arith));
        terms = only (λ r. nnz riser r ≤ 256) (omega arith);
        feas = record { held = record { fits = tt }; low = record { le = tt }; high = record { le = tt } };
        int_tol = record { held = record { fits = tt }; low = record { le = tt }; high = record { le = tt } };
        mode = inr refl;
      };
    }

pub riser_objective : WholeObjective riser
unfolding rise_then_fall priced is_whole fits of_int neg
riser_objective = two (λ v. Whole (at riser.obj v)) (record { whole = tt }) (record { whole = tt })

pub riser_kept : BestKept riser (presolve riser)
riser_kept = best_kept riser riser_pure (unfold rise_then_fall priced in refl)

pub lost_point : Point riser lost
unfolding rise_then_fall priced writing from upto nnz written op_of rhs_of zip_terms dot int of_int
lost_point =
    record {
      bounds = two (λ v. (int (at riser.lower v) ⊑ lost v) × (lost v ⊑ int (at riser.upper v))) (omega arith, omega arith) (omega arith, omega arith);
      rows = only (λ r. Meets (op_of riser r) (dot lost (written riser r)) (int (rhs_of riser r))) (omega arith);
    }

pub riser_reduced : presolve riser ≡ done five_and_none
unfolding rise_then_fall
riser_reduced = right.1

pub lost_vanishes : MeetsReduced riser five_and_none lost → ⊥
unfolding rise_then_fall priced five_and_none int of_int
lost_vanishes m = omega (arith, (m.bounds 0 (omega arith)).0)

pub reduced_least : Least riser (MeetsReduced riser five_and_none) (negsuc 4)
unfolding rise_then_fall priced five_and_none int of_int of_bits neg cost cost_below
reduced_least =
    record {
      point = stays;
      member = record {
        bounds = two (λ v. (int (at five_and_none.lower v) ⊑ stays v) × (stays v ⊑ int (at five_and_none.upper v))) (omega arith, omega arith) (omega arith, omega arith);
        rows = λ e m. absurd (Memᴰ.not-nil m);
      };
      reached = refl;
      least = λ x m.
          let a : x 0 ≡ pos 5 = ext _ _ (omega (arith, (m.bounds 0 (omega arith)).0, (m.bounds 0 (omega arith)).1)) in
          let b : x 1 ≡ pos 0 = ext _ _ (omega (arith, (m.bounds 1 (omega arith)).0, (m.bounds 1 (omega arith)).1)) in
          rw (a, b) (omega arith);
    }

-- so that is the least objective of the model, by the theorem
pub riser_least : Least riser (Point riser) (negsuc 4)
unfolding five_and_none
riser_least = (((subst (BestKept riser) riser_reduced riser_kept refl).1 riser_objective).equal (negsuc 4)).0 reduced_least
