-- PRESOLVE KEEPS THE LEAST OBJECTIVE of a model of whole numbers alone, dual fixing on or off, where no coefficient is rewritten: `best_kept`. Each point of the
-- model is dominated by one of the reduced model that is no dearer, whatever the number of fixings in a pass, of passes, of rounds and of queued rows left over.
use Rattle.std.proofs.Common.{arith, sym, subst, inl, inr}
use Rattle.std.specs.Prelude.{◌≡◌, ℤ}
use Rattle.floats.specs.Zed.{ext}
use Rattle.floats.specs.Points.{int}
use Rattle.floats.specs.WholeRounding.{NonNeg}
use Rattle.tolerances.specs.Tol.{at}
use Rattle.definition.specs.Params.{params, Params}
use Rattle.definition.specs.Model.{Model, Reduced, Answer, infeasible, done}
use Rattle.definition.specs.Presolve.{presolve}
use Rattle.points_kept.specs.Statements.{Point, PureInteger, MeetsReduced}
use Rattle.best_kept.specs.Objective.{WholeObjective, Least, SameFeasible, SameLeast, BestKept}
use Rattle.points_kept.proofs.Integers.{eq_parts, mul_mono, mul_anti}
use Rattle.points_kept.proofs.WholeFloats.{of_le, zero_is}
use Rattle.points_kept.specs.Dominance.{Dominates, KeptUpTo}
use Rattle.best_kept.proofs.Moved.{no_dearer}
use Rattle.best_kept.specs.DualFixing.{Moves}
use Rattle.best_kept.proofs.DualFixing.{dual_ok}
use Rattle.points_kept.proofs.Theorem.{kept_up_to, margin_ok}
use Rattle.best_kept.proofs.LeastExists.{least_exists}
use Rattle.best_kept.specs.BestKept.{Any, NoDearer}

pub same_feasible : (M : Model) (R : Reduced) → Dominates M Any R → SameFeasible M R
same_feasible M R d =
    record {
      whole = d.whole;
      points = d.points;
      either = ((λ p. let q = d.dominates p.0 p.1 in (q.0, q.1)), (λ q. (q.0, d.points q.0 q.1)));
    }

-- a move that the objective's sign allows makes no point dearer
pub no_dearer_moves : (M : Model) → WholeObjective M → Moves M (NoDearer M)
no_dearer_moves M obj v h a x y (inl (s, l)) d =
    omega (arith, d, no_dearer v a y M (mul_mono (int (at M.obj v)) a (y v) (omega (arith, of_le zero_is.whole (obj v h) (record { le = s }), eq_parts zero_is.is)) l))
no_dearer_moves M obj v h a x y (inr (s, l)) d =
    omega (arith, d, no_dearer v a y M (mul_anti (int (at M.obj v)) (y v) a (omega (arith, of_le (obj v h) zero_is.whole (record { le = s }), eq_parts zero_is.is)) l))

-- points that stay, among which each point has one that is no dearer, have the least objective of all
pub same_least : (M : Model) → PureInteger M → (R : Reduced) → Dominates M (NoDearer M) R → SameLeast M R
same_least M pure R d = record { equal = λ z. (back z, stays z); exists = least_exists M pure.shape }
  where
    stays : (z : ℤ) → Least M (Point M) z → Least M (MeetsReduced M R) z
    stays z l =
        let q = d.dominates l.point l.member in
        record {
          point = q.0;
          member = q.1;
          reached = ext _ _ (omega (arith, q.2, eq_parts l.reached, l.least q.0 (d.points q.0 q.1)));
          least = λ x p. l.least x (d.points x p);
        }

    back : (z : ℤ) → Least M (MeetsReduced M R) z → Least M (Point M) z
    back z l =
        record {
          point = l.point;
          member = d.points l.point l.member;
          reached = l.reached;
          least = λ x p. let q = d.dominates x p in omega (arith, q.2, l.least q.0 q.1);
        }

-- THE THEOREM, for any settings whose redundancy margin is 0 or more, in modes 1 and 2
pub best_kept_by : (M : Model) → PureInteger M → NonNeg M.params.redundant_margin → BestKept M (presolve M)
best_kept_by M pure margin =
    of_answer (presolve M) (kept_up_to M Any (λ x. tt) pure margin (λ two. dual_ok M pure Any (λ v h a x y s d. tt)))
    (λ obj. kept_up_to M (NoDearer M) (λ x. omega arith) pure margin (λ two. dual_ok M pure (NoDearer M) (no_dearer_moves M obj)))
  where
    of_answer : (a : Answer) → KeptUpTo M Any a → (WholeObjective M → KeptUpTo M (NoDearer M) a) → BestKept M a
    of_answer (infeasible k) e c = e
    of_answer (done R) e c = λ z. (same_feasible M R (e z), λ obj. same_least M pure R (c obj z))

-- and for the settings of the Rust
pub best_kept : (M : Model) → PureInteger M → M.params ≡ params → BestKept M (presolve M)
best_kept M pure e = best_kept_by M pure (subst (λ (p : Params). NonNeg p.redundant_margin) (sym e) margin_ok)
