-- DOMINANCE: where points are lost on purpose, each point of the model has one among those that stay that is as good: one that dominates it. With dual fixing off
-- this is the point itself; with it on it is any point, which says that there is one, or one of no greater objective. Here is what is kept on the way: the
-- invariant for the state's own points.
use Rattle.std.specs.Prelude.{ℕ, ◌<◌, ◌≡◌, ℤ, length}
use Rattle.definition.specs.Model.{Model, Reduced, Answer, infeasible, done}
use Rattle.definition.specs.Work.{Work}
use Rattle.points_kept.specs.PointSet.{PointSet}
use Rattle.points_kept.specs.Statements.{Within, Point, MeetsReduced, WholeReduced}
use Rattle.points_kept.specs.Invariant.{RowSided, GoodW, NoPoint}

-- D y x: y dominates x
abbrev pub Dominance : Type 1
Dominance = (ℕ → ℤ) → (ℕ → ℤ) → Type 0

-- the points of a state: within its bounds, and meeting every row of the model
abbrev pub At : Model → Work → PointSet
At M w x = Within (length M.lower) w.elo w.ehi x × ((r : ℕ) → r < length M.rhs → RowSided M r x)

-- ---- THE INVARIANT up to dominance
pub record Dominating (M : Model) (D : Dominance) (w : Work) : Type 0 where
  pub good : GoodW M (At M w) w
  pub dominates : (x : ℕ → ℤ) → Point M x → (y : ℕ → ℤ) × At M w y × D y x

-- ---- the answer: every point of the reduced model is a point of the model, each of which is dominated by one of them
pub record Dominates (M : Model) (D : Dominance) (R : Reduced) : Type 0 where
  pub whole : WholeReduced M R
  pub points : (x : ℕ → ℤ) → MeetsReduced M R x → Point M x
  pub dominates : (x : ℕ → ℤ) → Point M x → (y : ℕ → ℤ) × MeetsReduced M R y × D y x

abbrev pub KeptUpTo : Model → Dominance → Answer → Type 0
KeptUpTo M D (infeasible k) = k.coeffsTightened ≡ 0 → NoPoint M (Point M)
KeptUpTo M D (done R) = R.counts.coeffsTightened ≡ 0 → Dominates M D R
