-- `redundant`: a row whose corners over the emitted box reach its sides, with slack and margin, is met by all that lies within the bounds. The margin is any that is 0 or more.
use Rattle.std.specs.Prelude.{ℕ, ◌^◌, not, ◌||◌, T, eqb, ℤ, length, Float}
use native.Mathlib.Omega.{arith}
use Rattle.std.proofs.Math.Path.{ap}
use Rattle.std.proofs.Math.Logic.{inl, inr}
use Rattle.std.proofs.Common.{T_not}
use Rattle.std.specs.Float.Ieee.{is_nan, lt}
use Rattle.floats.specs.Num.{◌⊕◌, ◌⊖◌, ◌⊗◌, 1f, is_finite, maxf}
use Rattle.floats.specs.Zed.{P, N, ◌⊑◌}
use Rattle.floats.specs.Points.{Is}
use Rattle.floats.specs.WholeRounding.{NonNeg}
use Rattle.definition.specs.declared.Activity.{Activity}
use Rattle.definition.specs.Model.{Model, Row, op_of}
use Rattle.definition.specs.Work.{Work}
use Rattle.definition.specs.Sides.{within_by, within, mag_both, redundant, within_lo, within_hi, side_mag}
use Rattle.points_kept.specs.PointSet.{PointSet}
use Rattle.points_kept.specs.Statements.{Within, dot}
use Rattle.definition.specs.Tests.{and, or, taking, nor}
use Rattle.points_kept.proofs.Margins.{nonneg_times}
use Rattle.points_kept.proofs.WholeFloats.{finite, zero_is, one_is, apart_le, mag_sum, of_nlt}
use Rattle.points_kept.specs.WholeFloats.{Mag}
use Rattle.points_kept.specs.Invariant.{RowSided}
use Rattle.points_kept.proofs.Activity.{above_low, below_high, corner_mag}
use Rattle.points_kept.specs.Activity.{ActivityOf, L, H}
use Rattle.points_kept.proofs.WorkingRow.{met_in, finite_hi, finite_lo, rhs_mag_lem, scale_mag}
use Rattle.points_kept.specs.WorkingRow.{AtWork}
use Rattle.points_kept.specs.Redundancy.{Positive}

module _ {M : Model} {Sought : PointSet} {w : Work} {r : ℕ} {row : Row} (σ : AtWork M Sought w r row) {e : Activity} (a : ActivityOf (L M w) (H M w) row.terms e) where
  pub side_mag_lem : (b : Float) → (T (is_finite b) → Is b σ.ok.b) → Mag (2 ^ 40) (side_mag row b)
  unfolding side_mag
  side_mag_lem b p =
      let z = zero_is in
      taking (Mag (2 ^ 40)) (is_finite b) (λ t. rhs_mag_lem σ (p t))
      (λ t. record { whole = z.whole; nonneg = omega (arith, ap P z.is, ap N z.is); small = omega (arith, ap P z.is, ap N z.is) })

  pub both_mag : Mag (2 ^ 50) (mag_both row e)
  unfolding mag_both
  both_mag =
      let s = mag_sum (mag_sum (mag_sum (mag_sum (corner_mag a.l) (corner_mag a.u) (omega (arith, σ.ok.count))) (scale_mag σ) (omega (arith, σ.ok.count)))
      (side_mag_lem row.lo (λ t. σ.ok.lo.shut (finite_lo σ t))) (omega (arith, σ.ok.count)))
      (side_mag_lem row.hi (λ t. σ.ok.hi.shut (finite_hi σ t))) (omega (arith, σ.ok.count)) in
      record { whole = s.whole; nonneg = s.nonneg; small = omega (arith, s.small, σ.ok.count) }

  pub mag_positive : (Positive σ a) (maxf (mag_both row e) 1f)
  unfolding maxf
  mag_positive =
      let o = one_is in
      let m = both_mag in
      taking (Positive σ a) (is_nan (mag_both row e) || lt (mag_both row e) 1f)
      (λ t. (o.whole, omega (arith, ap P o.is, ap N o.is)))
      (λ t. (m.whole, omega (arith, of_nlt m.whole o.whole (record { nlt = (nor (is_nan (mag_both row e)) _ t).1 }), ap P o.is, ap N o.is)))

  module _ (m : Float) (hm : NonNeg m) where
    pub within_lo_lem : T (within_lo (row.lo ⊕ m) row e) → (x : ℕ → ℤ) → Within (length M.lower) w.elo w.ehi x → T (not (eqb (op_of M r) 1)) → σ.ok.b ⊑ dot x row.terms
    unfolding within_lo
    within_lo_lem t x h s =
        let p = σ.ok.lo.shut s in
        elim (or (not (is_finite row.lo)) _ t) [
          | inl n ↦ absurd (T_not (is_finite row.lo) n (finite row.lo p.whole))
          | inr k ↦ omega (
            arith,
            apart_le a.l.sum.whole p.whole a.l.slack hm (record { le = (and (eqb e.ninf_l 0) _ k).1 }),
            above_low M w x row.terms h σ.ok.terms,
            ap P p.is,
            ap N p.is,
            ap P a.l.sum.is,
            ap N a.l.sum.is,
          )
        ]

    pub within_hi_lem : T (within_hi (row.hi ⊖ m) row e) → (x : ℕ → ℤ) → Within (length M.lower) w.elo w.ehi x → T (not (eqb (op_of M r) 2)) → dot x row.terms ⊑ σ.ok.b
    unfolding within_hi
    within_hi_lem t x h s =
        let p = σ.ok.hi.shut s in
        elim (or (not (is_finite row.hi)) _ t) [
          | inl n ↦ absurd (T_not (is_finite row.hi) n (finite row.hi p.whole))
          | inr k ↦ omega (
            arith,
            apart_le p.whole a.u.sum.whole hm a.u.slack (record { le = (and (eqb e.ninf_u 0) _ k).1 }),
            below_high M w x row.terms h σ.ok.terms,
            ap P p.is,
            ap N p.is,
            ap P a.u.sum.is,
            ap N a.u.sum.is,
          )
        ]

    pub within_by_lem : T (within_by m row e) → (x : ℕ → ℤ) → Within (length M.lower) w.elo w.ehi x → RowSided M r x
    unfolding within_by
    within_by_lem t x h =
        let d = and (within_lo (row.lo ⊕ m) row e) _ t in
        met_in σ x h (record { below = within_hi_lem d.1 x h; above = within_lo_lem d.0 x h })

  -- REDUNDANCY is exact
  pub redundant_ok : (wact : Activity) → NonNeg M.params.redundant_margin → T (redundant M row wact e) → (x : ℕ → ℤ) → Within (length M.lower) w.elo w.ehi x → RowSided M r x
  unfolding redundant
  redundant_ok wact hm t =
      let m = M.params.redundant_margin ⊗ maxf (mag_both row e) 1f in
      let p = mag_positive in
      within_by_lem m (nonneg_times hm p.0 p.1) (and (within row wact) _ t).1
