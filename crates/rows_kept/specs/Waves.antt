-- The walk over waves, the coefficient step and rounds: a property that `Kept` keeps is kept by each, and no more waves are counted than the cap allows.
use Prim.Native.Nat.{ℕ, ◌≤◌}
use Rattle.std.specs.Prelude.{◌≡◌}
use mathlib.Core.List.{List}
use Rattle.definition.specs.Params.{max_waves}
use Rattle.definition.specs.Model.{Model, Row}
use Rattle.definition.specs.Work.{Work}

-- ---- bounds and marks leave the rows alone
pub record Same (P : Work → Type 0) (rs : List Row) (w : Work) : Type 0 where
  pub holds : P w
  pub rows : w.rows ≡ rs

-- ---- the waves counted so far: no step but a wave's beginning counts one
pub record Passes (P : Work → Type 0) (n : ℕ) (w : Work) : Type 0 where
  pub holds : P w
  pub passes : w.counts.passes ≡ n

-- ---- rounds: the property, with no more waves counted than the cap
pub record Capped (M : Model) (P : Work → Type 0) (w : Work) : Type 0 where
  pub holds : P w
  pub capped : w.counts.passes ≤ max_waves M.params
