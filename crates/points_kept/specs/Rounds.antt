-- `rounds`: the waves and the coefficient step lose no point of the state, and dual fixing none that is not dominated, as long as no coefficient is rewritten,
-- whatever their order and number.
use Prim.Native.Nat.{◌<◌}
use Rattle.std.specs.Prelude.{◌⊎◌}
use Rattle.definition.specs.declared.Counts.{Counts}
use Rattle.definition.specs.Model.{Model}
use Rattle.definition.specs.Work.{Work, Step, stop, next}
use Rattle.points_kept.specs.Statements.{Point}
use Rattle.points_kept.specs.Invariant.{NoPoint}
use Rattle.points_kept.specs.Dominance.{Dominance, Dominating}

-- the invariant up to dominance holds, or a coefficient has been rewritten
abbrev pub OkUpTo : Model → Dominance → Work → Type 0
OkUpTo M D w = Dominating M D w ⊎ (0 < w.counts.coeffsTightened)

-- a step ends where the model has no point, or with a coefficient rewritten; or it goes on
pub data Ended (M : Model) (D : Dominance) : Step → Type 0 where
  ends : {k : Counts} → NoPoint M (Point M) ⊎ (0 < k.coeffsTightened) → Ended M D (stop k)
  runs : {w : Work} → OkUpTo M D w → Ended M D (next w)
