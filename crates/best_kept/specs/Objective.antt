-- WHAT IS PROMISED OF THE OBJECTIVE (02's W13): where dual fixing is on, points vanish on purpose, and a least one stays. Statements only; `BestKept` proves them.
-- The objective is whole, of any size, and summed in whole numbers: no rounding enters.
use Rattle.std.specs.Prelude.{ℕ, zero, suc, ◌<◌, ◌≡◌, ◌↔◌, ℤ, pos, ◌+ℤ◌, ◌*ℤ◌, length}
use Rattle.floats.specs.Zed.{◌⊑◌}
use Rattle.floats.specs.Points.{int, Whole}
use Rattle.tolerances.specs.Tol.{at}
use Rattle.definition.specs.Model.{Model, Reduced, Answer, infeasible, done}
use Rattle.points_kept.specs.PointSet.{PointSet}
use Rattle.points_kept.specs.Statements.{Point, MeetsReduced, WholeReduced}

-- every variable's objective is a whole number; -0 is one
abbrev pub WholeObjective : Model → Type 0
WholeObjective M = (v : ℕ) → v < length M.lower → Whole (at M.obj v)

-- the objective of x over the first n variables
unfoldable pub cost_below : Model → ℕ → (ℕ → ℤ) → ℤ
cost_below M zero x = pos 0
cost_below M (suc n) x = cost_below M n x +ℤ int (at M.obj n) *ℤ x n

-- the objective of x
unfoldable pub cost : Model → (ℕ → ℤ) → ℤ
cost M x = cost_below M (length M.lower) x

-- z is the least objective over a set of points: one of them has it, and none has less
pub record Least (M : Model) (Points : PointSet) (z : ℤ) : Type 0 where
  pub point : ℕ → ℤ
  pub member : Points point
  pub reached : cost M point ≡ z
  pub least : (x : ℕ → ℤ) → Points x → z ⊑ cost M x

-- ---- the answer
-- a reduced model is of whole numbers, each of its points is one of the model's, and one has a point exactly when the other has
pub record SameFeasible (M : Model) (R : Reduced) : Type 0 where
  pub whole : WholeReduced M R
  pub points : (x : ℕ → ℤ) → MeetsReduced M R x → Point M x
  pub either : ((x : ℕ → ℤ) × Point M x) ↔ ((x : ℕ → ℤ) × MeetsReduced M R x)

-- the least objective of the reduced model is that of the model; and there is one wherever there is a point
pub record SameLeast (M : Model) (R : Reduced) : Type 0 where
  pub equal : (z : ℤ) → Least M (MeetsReduced M R) z ↔ Least M (Point M) z
  pub exists : (x : ℕ → ℤ) → Point M x → (z : ℤ) × Least M (Point M) z

-- where no coefficient is rewritten, the fourth count being 0, in modes 1 and 2: infeasible says that there is no point; a reduced model has a point exactly when
-- the model has, whatever the objective; and where the objective is whole, it has the model's least
abbrev pub BestKept : Model → Answer → Type 0
BestKept M (infeasible k) = k.coeffsTightened ≡ 0 → (x : ℕ → ℤ) → Point M x → ⊥
BestKept M (done R) = R.counts.coeffsTightened ≡ 0 → SameFeasible M R × (WholeObjective M → SameLeast M R)
