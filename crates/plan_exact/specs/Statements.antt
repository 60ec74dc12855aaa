-- WHAT IS PROMISED of a whole-number plan on a model of whole numbers, its values of any size: all is said to hold exactly where it is a point, so with no
-- tolerance and no rounding. `Theorem` proves it.
use Rattle.std.specs.Prelude.{ℕ, ◌<◌, ◌≡◌, ◌↔◌, ℤ, List, length, Float}
use Rattle.floats.specs.Points.{int, Whole}
use Rattle.tolerances.specs.Tol.{at}
use Rattle.definition.specs.Model.{Model}
use Rattle.points_kept.specs.Statements.{Point}
use Rattle.plan.specs.declared.Verdict.TheVariants.{AllHold}
use Rattle.plan.specs.Plan.{verdict}

-- every value is a whole number
abbrev pub WholePlan : Model → List Float → Type 0
WholePlan M p = (v : ℕ) → v < length M.lower → Whole (at p v)

-- the whole number that each is
abbrev pub numbers : List Float → ℕ → ℤ
numbers p v = int (at p v)

abbrev pub Exactly : Model → List Float → Type 0
Exactly M p = verdict M p ≡ AllHold ↔ Point M (numbers p)
