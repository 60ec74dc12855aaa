-- `several_terms`: a row of two terms or more keeps the invariant.
use Rattle.std.specs.Prelude.{ℕ, ◌≤◌}
use Rattle.std.proofs.Common.{arith}
use Rattle.std.proofs.Math.Bool.{true, false}
use Rattle.std.proofs.Math.ListN.{length}
use Rattle.floats.specs.WholeRounding.{NonNeg}
use Rattle.definition.specs.Model.{Model, Row}
use Rattle.definition.specs.Work.{Work, Step}
use Rattle.definition.specs.Activities.{activity}
use Rattle.definition.specs.Sides.{unreachable, redundant}
use Rattle.definition.specs.Forcing.{forces_min, forces_max}
use Rattle.definition.specs.Wave.{several_terms}
use Rattle.definition.specs.Tests.{taking}
use Rattle.points_kept.specs.PointSet.{PointSet}
use Rattle.points_kept.specs.Terms.{All, NonZero}
use Rattle.points_kept.specs.Invariant.{GoodW, Each, stopped, went}
use Rattle.points_kept.specs.Changes.{From}
use Rattle.points_kept.proofs.Changes.{drop_ok}
use Rattle.points_kept.proofs.Activity.{activity_of}
use Rattle.points_kept.specs.WorkingRow.{AtWork}
use Rattle.points_kept.proofs.Unreachable.{unreachable_ok}
use Rattle.points_kept.proofs.ImpliedBounds.{implied_ok}
use Rattle.points_kept.proofs.Redundancy.{redundant_ok}
use Rattle.points_kept.proofs.ForcesCorner.{forces_min_ok, forces_max_ok}

forget : {M : Model} {Sought : PointSet} {w0 : Work} {s : Step} → Each M Sought (From M Sought w0) s → Each M Sought (GoodW M Sought) s
forget (stopped n) = stopped n
forget (went f) = went f.good

module _ {M : Model} {Sought : PointSet} {w : Work} {r : ℕ} {row : Row} (σ : AtWork M Sought w r row) (margin : NonNeg M.params.redundant_margin) (nz : All NonZero row.terms) where
  -- A ROW OF SEVERAL TERMS keeps the invariant
  pub several_ok : Each M Sought (GoodW M Sought) (several_terms M r row w)
  unfolding several_terms
  several_ok =
      let E = Each M Sought (GoodW M Sought) in
      let wact = activity M w row true in
      let e = activity M w row false in
      let n : length row.terms ≤ 256 = omega (arith, σ.ok.count) in
      let wa = activity_of M w σ.pure σ.good.interval row true n σ.ok.terms in
      let ea = activity_of M w σ.pure σ.good.interval row false n σ.ok.terms in
      taking E (unreachable M r row wact)
      (λ t. stopped (unreachable_ok σ wa t))
      (λ _. taking E (forces_min M r row wact e w)
      (λ t. went (forces_min_ok σ nz ea wact t))
      (λ _. taking E (forces_max M r row wact e w)
      (λ t. went (forces_max_ok σ nz ea wact t))
      (λ _. taking E (redundant M row wact e)
      (λ t. went (drop_ok M r row w σ.range σ.good (redundant_ok σ ea wact margin t)))
      (λ _. forget (implied_ok σ wa nz)))))
