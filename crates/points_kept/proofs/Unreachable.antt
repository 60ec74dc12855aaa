-- `unreachable`: where a row's best corner misses its side beyond slack and budget, there is none of the points sought.
use Rattle.std.specs.Prelude.{ℕ, T}
use Rattle.std.proofs.Common.{arith}
use Rattle.std.proofs.Math.Path.{ap}
use Rattle.std.proofs.Math.Logic.{inl, inr}
use Rattle.floats.specs.Zed.{P, N}
use Rattle.definition.specs.declared.Activity.{Activity}
use Rattle.definition.specs.Model.{Model, Row}
use Rattle.definition.specs.Work.{Work}
use Rattle.definition.specs.Sides.{hi_side, lo_side, unreachable, above_hi, below_lo}
use Rattle.definition.specs.Tests.{and, or}
use Rattle.points_kept.specs.PointSet.{PointSet}
use Rattle.points_kept.proofs.WholeFloats.{apart}
use Rattle.points_kept.specs.Invariant.{NoPoint}
use Rattle.points_kept.specs.Activity.{ActivityOf, L, H}
use Rattle.points_kept.proofs.Activity.{above_low, below_high}
use Rattle.points_kept.specs.WorkingRow.{AtWork}
use Rattle.points_kept.proofs.WorkingRow.{point_meets, finite_hi, finite_lo, hi_side_lem, lo_side_lem, budget_l_ok, budget_u_ok}

module _ {M : Model} {Sought : PointSet} {w : Work} {r : ℕ} {row : Row} (σ : AtWork M Sought w r row) {act : Activity} (a : ActivityOf (L M w) (H M w) row.terms act) where
  above_hi_ok : T (above_hi M r row act) → NoPoint M Sought
  unfolding above_hi
  above_hi_ok t x p =
      let s = and (hi_side row act) _ t in
      let o = finite_hi σ (hi_side_lem σ act s.0) in
      let h = σ.ok.hi.shut o in
      let k = apart a.l.sum.whole h.whole a.l.slack (budget_l_ok σ a) (record { lt = s.1 }) in
      omega (arith, ap P h.is, ap N h.is, ap P a.l.sum.is, ap N a.l.sum.is, (point_meets σ x p).below o, above_low M w x row.terms (σ.good.keeps x p) σ.ok.terms)

  below_lo_ok : T (below_lo M r row act) → NoPoint M Sought
  unfolding below_lo
  below_lo_ok t x p =
      let s = and (lo_side row act) _ t in
      let o = finite_lo σ (lo_side_lem σ act s.0) in
      let h = σ.ok.lo.shut o in
      let k = apart h.whole a.u.sum.whole (budget_u_ok σ a) a.u.slack (record { lt = s.1 }) in
      omega (arith, ap P h.is, ap N h.is, ap P a.u.sum.is, ap N a.u.sum.is, (point_meets σ x p).above o, below_high M w x row.terms (σ.good.keeps x p) σ.ok.terms)

  -- UNREACHABLE: none of the points sought
  pub unreachable_ok : T (unreachable M r row act) → NoPoint M Sought
  unfolding unreachable
  unreachable_ok t = elim (or (above_hi M r row act) _ t) [ inl s ↦ above_hi_ok s | inr s ↦ below_lo_ok s ]
