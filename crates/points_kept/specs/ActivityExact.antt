-- SAVELSBERGH'S ACTIVITY, what it is to be exact: both sums are the smallest and the largest value of the row over the box, each reached by a point of the box,
-- both magnitude sums are exact there, and no term counts as infinite. It is so of whole coefficients of distinct variables, up to 256, over a box of whole
-- numbers, working or emitted, which are the same numbers (Invariant, `Interval`). `ActivityEverywhere` has the theorem.
use Rattle.std.specs.Prelude.{ℕ, ◌+◌, ◌≡◌, ℤ, pos, ◌*ℤ◌, length, Float}
use mathlib.Core.List.{List, [], ◌∷◌}
use Rattle.floats.specs.Zed.{A, ◌⊑◌}
use Rattle.floats.specs.Points.{int, Is}
use Rattle.floats.specs.WholeRounding.{NonNeg}
use Rattle.tolerances.specs.Tol.{Term}
use Rattle.definition.specs.declared.Activity.{Activity}
use Rattle.definition.specs.Model.{Model}
use Rattle.definition.specs.Work.{Work}
use Rattle.points_kept.specs.Statements.{dot, Within}

-- ---- what is said of an activity
-- the magnitudes of the terms at x, summed
unfoldable pub magnitude : (ℕ → ℤ) → List Term → ℕ
magnitude x [] = 0
magnitude x (t ∷ ts) = A (int t.coeff *ℤ x t.var) + magnitude x ts

-- a point of the box where the terms come to s, with magnitude a
pub record Reached (M : Model) (w : Work) (ts : List Term) (s a : Float) : Type 0 where
  pub x : ℕ → ℤ
  pub inside : Within (length M.lower) w.elo w.ehi x
  pub sum : Is s (dot x ts)
  pub size : Is a (pos (magnitude x ts))

pub record ActivityExact (M : Model) (w : Work) (ts : List Term) (act : Activity) : Type 0 where
  pub smallest : (x : ℕ → ℤ) → Within (length M.lower) w.elo w.ehi x → int act.l ⊑ dot x ts
  pub largest : (x : ℕ → ℤ) → Within (length M.lower) w.elo w.ehi x → dot x ts ⊑ int act.u
  pub at_smallest : Reached M w ts act.l act.absL
  pub at_largest : Reached M w ts act.u act.absU
  pub ninf_l : act.ninf_l ≡ 0
  pub ninf_u : act.ninf_u ≡ 0
  pub slack_l : NonNeg act.slack_l
  pub slack_u : NonNeg act.slack_u
