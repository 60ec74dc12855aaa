-- `forces_min`, `forces_max`, `fix_all`: a row whose corner is its side has its points at that corner alone; its variables are fixed there, and the row is dropped.
use Rattle.std.specs.Prelude.{ℕ, ◌+◌, ◌*◌, ◌^◌, ◌≡◌, Bool, T, ℤ, ◌*ℤ◌, length}
use native.Mathlib.Omega.{arith}
use Rattle.std.proofs.Math.Path.{refl}
use Rattle.std.proofs.Common.{sym, ◌∙◌}
use Rattle.std.proofs.Math.Bool.{true, false}
use Rattle.floats.specs.Zed.{◌⊑◌, ext, add_parts, sub_parts}
use Rattle.floats.specs.Points.{int}
use Rattle.definition.specs.declared.Activity.{Activity}
use Rattle.definition.specs.Model.{Model, Row}
use Rattle.definition.specs.Work.{Work, drop_row}
use Rattle.definition.specs.Sides.{hi_side, lo_side, near_min, near_max}
use Rattle.definition.specs.Forcing.{forces_min, forces_max, fix_all}
use Rattle.points_kept.specs.PointSet.{PointSet}
use Rattle.points_kept.specs.Statements.{dot, Within}
use Rattle.points_kept.proofs.Integers.{eq_parts}
use Rattle.definition.specs.Tests.{and3, and}
use Rattle.points_kept.proofs.WholeFloats.{diff}
use Rattle.points_kept.specs.Terms.{All, least, most, low, high, NonZero, lowest, highest}
use Rattle.points_kept.proofs.Terms.{all_map}
use Rattle.points_kept.specs.Invariant.{GoodW}
use Rattle.points_kept.specs.Changes.{From}
use Rattle.points_kept.proofs.Changes.{drop_ok}
use Rattle.points_kept.specs.Activity.{ActivityOf, L, H}
use Rattle.points_kept.proofs.Activity.{above_least, below_most}
use Rattle.points_kept.proofs.WorkingRow.{met_in, finite_hi, finite_lo, hi_side_lem, lo_side_lem, mag_l_ok, mag_u_ok, point_meets}
use Rattle.points_kept.specs.WorkingRow.{AtWork}
use Rattle.points_kept.proofs.Forced.{dot_corner, equal, fix_all_lem, high_corner, highest_corner, kept_now, known, low_corner, lowest_corner, sliver_zero}
use Rattle.points_kept.specs.Forced.{AtCorner, Known, TS, corner_sum}

module _ {M : Model} {Sought : PointSet} {w0 : Work} {r : ℕ} {row : Row} (σ : AtWork M Sought w0 r row) (nz : All NonZero row.terms) {e : Activity}
    (a : ActivityOf (L M w0) (H M w0) row.terms e) where
  -- ---- a row that is its side at a corner, where all points sought are
  pub forced_ok : (mc : Bool) → σ.ok.b ≡ corner_sum mc w0 (TS σ nz a) → ((x : ℕ → ℤ) → Sought x → All (AtCorner mc w0 x) (TS σ nz a)) → GoodW M Sought (drop_row r row (fix_all M mc w0 (TS σ nz a) w0))
  forced_ok mc same pts =
      let start : From M Sought w0 w0 = record { good = σ.good; nars = λ v h. record { lo = omega arith; hi = omega arith }; rows = refl } in
      let all = fix_all_lem M w0 σ.good mc (TS σ nz a) w0 σ.ok.terms σ.ok.distinct (kept_now M w0 σ.good (TS σ nz a)) start pts in
      drop_ok M r row (fix_all M mc w0 (TS σ nz a) w0) σ.range all.from.good (λ x k.
      let k0 : Within (length M.lower) w0.elo w0.ehi x = λ j l. (omega (arith, (k j l).0, (all.nars j l).lo), omega (arith, (k j l).1, (all.nars j l).hi)) in
      let q : dot x (TS σ nz a) ≡ σ.ok.b = dot_corner mc w0 x (TS σ nz a) (all.at_corner x k) ∙ sym same in
      met_in σ x k0 (record { below = λ _. omega (arith, eq_parts q); above = λ _. omega (arith, eq_parts q) }))

  -- FORCING keeps the invariant, at either corner
  pub forces_min_ok : (wact : Activity) → T (forces_min M r row wact e w0) → GoodW M Sought (drop_row r row (fix_all M true w0 (TS σ nz a) w0))
  unfolding forces_min near_min
  forces_min_ok wact t =
      let c = and3 (near_min M r row wact) _ _ t in
      let ft = hi_side_lem σ wact (and (hi_side row wact) _ c.0).0 in
      let sd = finite_hi σ ft in
      let b = σ.ok.hi.shut sd in
      let low₀ = low (L M w0) (H M w0) (TS σ nz a) in
      let s = diff (2 ^ 40 + σ.ok.f * 2 ^ 35) (length (TS σ nz a) * 2 ^ 35) b a.l.sum σ.ok.b_small a.l.small (omega (arith, σ.ok.count)) in
      let z = (sliver_zero σ nz a) s (mag_l_ok σ a ft) (omega (arith, σ.ok.count)) c.2 in
      let same : σ.ok.b ≡ low₀ = ext σ.ok.b low₀ (omega (arith, z.0, z.1, sub_parts σ.ok.b low₀)) in
      forced_ok true (same ∙ low_corner M w0 σ.good (TS σ nz a) σ.ok.terms nz)
      (λ x p. all_map {Q = (Known σ nz a)} {R = AtCorner true w0 x} (TS σ nz a) (λ u f.
      let U = int u.coeff *ℤ x u.var in
      let least₀ = least (L M w0) (H M w0) u in
      let up : U ⊑ least₀ = omega (arith, f.1.lo x (σ.good.keeps x p), (point_meets σ x p).below sd, eq_parts same, add_parts low₀ U, add_parts (dot x (TS σ nz a)) least₀) in
      let dn : least₀ ⊑ U = above_least M w0 x u (σ.good.keeps x p) f.0.0 in
      equal M w0 σ.good u f.0.0 f.0.1 (x u.var) (lowest (L M w0) (H M w0) u) up dn ∙ lowest_corner M w0 σ.good u f.0.0 f.0.1) (known σ nz a))

  pub forces_max_ok : (wact : Activity) → T (forces_max M r row wact e w0) → GoodW M Sought (drop_row r row (fix_all M false w0 (TS σ nz a) w0))
  unfolding forces_max near_max
  forces_max_ok wact t =
      let c = and3 (near_max M r row wact) _ _ t in
      let ft = lo_side_lem σ wact (and (lo_side row wact) _ c.0).0 in
      let sd = finite_lo σ ft in
      let b = σ.ok.lo.shut sd in
      let high₀ = high (L M w0) (H M w0) (TS σ nz a) in
      let s = diff (length (TS σ nz a) * 2 ^ 35) (2 ^ 40 + σ.ok.f * 2 ^ 35) a.u.sum b a.u.small σ.ok.b_small (omega (arith, σ.ok.count)) in
      let z = (sliver_zero σ nz a) s (mag_u_ok σ a ft) (omega (arith, σ.ok.count)) c.2 in
      let same : σ.ok.b ≡ high₀ = ext σ.ok.b high₀ (omega (arith, z.0, z.1, sub_parts high₀ σ.ok.b)) in
      forced_ok false (same ∙ high_corner M w0 σ.good (TS σ nz a) σ.ok.terms nz)
      (λ x p. all_map {Q = (Known σ nz a)} {R = AtCorner false w0 x} (TS σ nz a) (λ u f.
      let U = int u.coeff *ℤ x u.var in
      let most₀ = most (L M w0) (H M w0) u in
      let dn : most₀ ⊑ U = omega (arith, f.1.hi x (σ.good.keeps x p), (point_meets σ x p).above sd, eq_parts same, add_parts high₀ U, add_parts (dot x (TS σ nz a)) most₀) in
      let up : U ⊑ most₀ = below_most M w0 x u (σ.good.keeps x p) f.0.0 in
      equal M w0 σ.good u f.0.0 f.0.1 (x u.var) (highest (L M w0) (H M w0) u) up dn ∙ highest_corner M w0 σ.good u f.0.0 f.0.1) (known σ nz a))
