-- `tighten_binary_coeffs`: either a coefficient is counted as rewritten, or the invariant is kept.
use Prim.Native.Nat.{ℕ, ◌<◌}
use Rattle.std.specs.Prelude.{◌⊎◌, Bool}
use Rattle.std.proofs.Math.Dec.{T}
use Rattle.definition.specs.Model.{Model}
use Rattle.definition.specs.Work.{Work}
use Rattle.definition.specs.Tighten.{Rewriting}
use Rattle.points_kept.specs.PointSet.{PointSet}
use Rattle.points_kept.specs.Statements.{PureInteger}
use Rattle.points_kept.specs.Invariant.{RowOk, GoodW}

-- the invariant holds, or a coefficient has been rewritten
abbrev pub Ok : Model → PointSet → Work → Type 0
Ok M Sought w = GoodW M Sought w ⊎ (0 < w.counts.coeffsTightened)

module _ (M : Model) (Sought : PointSet) (pure : PureInteger M) where
  pub record Unrewritten (r : ℕ) (s : Rewriting) : Type 0 where
    pub good : GoodW M Sought s.work
    pub ok : RowOk M s.work.elo s.work.ehi r s.row
    pub alive : T s.row.alive

  abbrev pub RW : ℕ → Rewriting → Type 0
  RW r s = Unrewritten r s ⊎ (0 < s.work.counts.coeffsTightened)

  abbrev pub OkP : Work × Bool → Type 0
  OkP p = Ok M Sought p.0

  abbrev pub Up : Work × Bool → Type 0
  Up p = 0 < p.0.counts.coeffsTightened
