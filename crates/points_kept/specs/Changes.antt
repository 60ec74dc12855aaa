-- CHANGES OF THE STATE that keep the invariant: one variable's bounds narrowed, rows marked, a row dropped that all within the bounds meet.
use Prim.Native.Nat.{ℕ, ◌<◌}
use Rattle.std.specs.Prelude.{◌≡◌, ◌≢◌, List, length, Float}
use Rattle.tolerances.specs.Tol.{at}
use Rattle.definition.specs.Model.{Model}
use Rattle.definition.specs.Work.{Work}
use Rattle.points_kept.specs.PointSet.{PointSet}
use Rattle.points_kept.specs.Invariant.{Narrower, GoodW}

-- ---- a list with one element changed, or none
pub record Sets (v : ℕ) (old new : List Float) (x : Float) : Type 0 where
  pub len : length new ≡ length old
  pub here : at new v ≡ x
  pub there : (j : ℕ) → j ≢ v → at new j ≡ at old j

module _ (M : Model) where
  abbrev pub Nars : Work → Work → Type 0
  Nars w x = (v : ℕ) → v < length M.lower → Narrower w.elo w.ehi x.elo x.ehi v

  -- good, and no wider than w
  pub record From (Sought : PointSet) (w x : Work) : Type 0 where
    pub good : GoodW M Sought x
    pub nars : Nars w x
    pub rows : x.rows ≡ w.rows
