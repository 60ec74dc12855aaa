-- `implied` to `implied_bounds`: the bounds that a row of two terms or more implies keep the invariant.
use Rattle.std.specs.Prelude.{ℕ, ◌+◌, ◌*◌, ◌^◌, ◌≤◌, refl, true, false, ◌||◌, Bool, not, eqb, ℤ, pos, ◌+ℤ◌, ◌-ℤ◌, ◌*ℤ◌}
use Rattle.std.proofs.Common.{arith, sym, inl, inr}
use Rattle.std.proofs.Math.Path.{ap, subst}
use mathlib.Core.List.{List, [], ◌∷◌}
use Rattle.std.proofs.Math.Option.{Option}
use Rattle.std.proofs.Math.Dec.{T}
use Rattle.std.proofs.Math.ListN.{length}
use Rattle.std.specs.Float.Ieee.{Float, is_nan, lt, le}
use Rattle.floats.specs.Num.{choose, ◌⊕◌, ◌⊖◌, ◌⊗◌, ◌⊘◌, 0f, is_finite, abs, maxf}
use Rattle.floats.specs.Zed.{P, N, A, ◌⊑◌, ◌⊏◌, add_parts, sub_parts}
use Rattle.floats.specs.Points.{int, Whole, Bounded, Is}
use Rattle.floats.specs.WholeRounding.{NonNeg}
use Rattle.tolerances.specs.Tol.{ROUNDOFF_FLOOR, Term}
use Rattle.tolerances.specs.Laws.{laws}
use Rattle.definition.specs.declared.Activity.{Activity}
use Rattle.definition.specs.Model.{Model, Row, rhs_mag}
use Rattle.definition.specs.Work.{Work, budget}
use Rattle.definition.specs.Implied.{rest_of, finite_abs, implied, implied_term, implied_bounds}
use Rattle.points_kept.specs.PointSet.{PointSet}
use Rattle.points_kept.specs.Statements.{dot}
use Rattle.points_kept.proofs.Integers.{size_sub, mul_mono, mul_anti}
use Rattle.definition.specs.Tests.{nor, test, taking, if_true, alike_by, pick}
use Rattle.points_kept.proofs.WholeFloats.{finite, of_nlt, zero_is, tol_nonneg, whole_abs, abs_bounded, sized, diff, mag_sum, mag_abs, sign, sign_pos}
use Rattle.points_kept.specs.WholeFloats.{Mag, Part}
use Rattle.points_kept.specs.Terms.{All, TermOk, least, most, low, high, NonZero, lowest, highest}
use Rattle.points_kept.proofs.Terms.{all_both, all_map}
use Rattle.points_kept.specs.Invariant.{Each, went}
use Rattle.points_kept.proofs.Invariant.{then}
use Rattle.points_kept.specs.Changes.{From}
use Rattle.points_kept.specs.Activity.{Bounds, ActivityOf, L, H, Corner}
use Rattle.points_kept.proofs.Activity.{range_min_lem, range_max_lem, above_least, below_most, above_low, below_high, corner_mag}
use Rattle.points_kept.proofs.WorkingRow.{int_var, finite_hi, finite_lo, rhs_mag_lem, scale_mag, budget_tol, point_meets}
use Rattle.points_kept.specs.WorkingRow.{AtWork}
use Rattle.points_kept.specs.Quotients.{rises, falls}
use Rattle.points_kept.proofs.Quotients.{upper_keeps, lower_keeps}
use Rattle.points_kept.proofs.Tightening.{upper_ok, lower_ok}
use Rattle.points_kept.specs.ImpliedBounds.{Known, Other, highs, hi₀, lows, lo₀}

-- ---- narrower bounds raise the least and lower the greatest of a term
module _ (L H L' H' : ℕ → ℤ) (t : Term) (c : Whole t.coeff) (l : L t.var ⊑ L' t.var) (h : H' t.var ⊑ H t.var) where
  pub least_mono : least L H t ⊑ least L' H' t
  unfolding lowest
  least_mono =
      alike_by (λ (a b : ℤ). int t.coeff *ℤ a ⊑ int t.coeff *ℤ b) (lt 0f t.coeff)
      (λ p. mul_mono (int t.coeff) (L t.var) (L' t.var) (omega (arith, sign_pos t.coeff c p)) l)
      (λ p. mul_anti (int t.coeff) (H' t.var) (H t.var) (omega (arith, of_nlt zero_is.whole c (record { nlt = p }), ap P zero_is.is, ap N zero_is.is)) h)

  pub most_mono : most L' H' t ⊑ most L H t
  unfolding highest
  most_mono =
      alike_by (λ (a b : ℤ). int t.coeff *ℤ a ⊑ int t.coeff *ℤ b) (lt 0f t.coeff)
      (λ p. mul_mono (int t.coeff) (H' t.var) (H t.var) (omega (arith, sign_pos t.coeff c p)) h)
      (λ p. mul_anti (int t.coeff) (L t.var) (L' t.var) (omega (arith, of_nlt zero_is.whole c (record { nlt = p }), ap P zero_is.is, ap N zero_is.is)) l)

-- ---- the rest of a row at a corner: the row without the term t, at most what the row and the term come to
module _ (M : Model) (w : Work) where
  pub others : (ts : List Term) → All (TermOk (length M.lower)) ts → All ((Other M w) ts) ts
  unfolding low high dot
  others [] a = tt
  others (t ∷ ts) a = (first, all_map ts later (others ts a.1))
    where
      first : (Other M w) (t ∷ ts) t
      first =
          record {
            lo = λ x h.
                let T = int t.coeff *ℤ x t.var in
                omega (
                  arith,
                  above_low M w x ts h a.1,
                  add_parts ((lo₀ M w) t) ((lows M w) ts),
                  add_parts T (dot x ts),
                  add_parts ((lo₀ M w) t +ℤ ((lows M w) ts)) T,
                  add_parts (T +ℤ dot x ts) ((lo₀ M w) t),
                );
            hi = λ x h.
                let T = int t.coeff *ℤ x t.var in
                omega (
                  arith,
                  below_high M w x ts h a.1,
                  add_parts ((hi₀ M w) t) ((highs M w) ts),
                  add_parts T (dot x ts),
                  add_parts ((hi₀ M w) t +ℤ ((highs M w) ts)) T,
                  add_parts (T +ℤ dot x ts) ((hi₀ M w) t),
                );
          }

      later : (u : Term) → (Other M w) ts u → (Other M w) (t ∷ ts) u
      later u o =
          record {
            lo = λ x h.
                let T = int t.coeff *ℤ x t.var in
                let U = int u.coeff *ℤ x u.var in
                omega (
                  arith,
                  o.lo x h,
                  above_least M w x t h a.0,
                  add_parts ((lo₀ M w) t) ((lows M w) ts),
                  add_parts T (dot x ts),
                  add_parts ((lo₀ M w) t +ℤ ((lows M w) ts)) U,
                  add_parts (T +ℤ dot x ts) ((lo₀ M w) u),
                  add_parts ((lows M w) ts) U,
                  add_parts (dot x ts) ((lo₀ M w) u),
                );
            hi = λ x h.
                let T = int t.coeff *ℤ x t.var in
                let U = int u.coeff *ℤ x u.var in
                omega (
                  arith,
                  o.hi x h,
                  below_most M w x t h a.0,
                  add_parts ((hi₀ M w) t) ((highs M w) ts),
                  add_parts T (dot x ts),
                  add_parts ((hi₀ M w) t +ℤ ((highs M w) ts)) U,
                  add_parts (T +ℤ dot x ts) ((hi₀ M w) u),
                  add_parts ((highs M w) ts) U,
                  add_parts (dot x ts) ((hi₀ M w) u),
                );
          }

pub abs_coeff : {n : ℕ} (t : Term) → TermOk n t → NonZero t → pos 0 ⊏ int (abs t.coeff)
abs_coeff t c n =
    let e = whole_abs t.coeff c.coeff.whole in
    elim (test (lt 0f t.coeff)) [
      | inl p ↦ omega (arith, ap P e.is, ap N e.is, sign_pos t.coeff c.coeff.whole p)
      | inr p ↦ omega (arith, ap P e.is, ap N e.is, sign t.coeff c.coeff.whole n p)
    ]

pub max_mag : {x : Float} {k : ℕ} → Whole x → A (int x) ≤ k → Mag k (maxf x 0f)
unfolding maxf
max_mag {x} {k} p h =
    let z = zero_is in
    taking (Mag k) (is_nan x || lt x 0f)
    (λ t. record { whole = z.whole; nonneg = omega (arith, ap P z.is, ap N z.is); small = omega (arith, ap P z.is, ap N z.is) })
    (λ t. record { whole = p; nonneg = omega (arith, of_nlt p z.whole (record { nlt = (nor (is_nan x) (lt x 0f) t).1 }), ap P z.is, ap N z.is); small = h })

module _ {M : Model} {Sought : PointSet} {w0 : Work} {r : ℕ} {row : Row} (σ : AtWork M Sought w0 r row) where
  -- ---- the numerator b - (s - c) is exact, and the relaxation is not negative: b the row's side, s, m and k the corner's sum, magnitude and slack, c the term's part
  pub relax_ok : {b s c m k : Float} {S z : ℤ} {j n : ℕ} (t : Term) → Is b σ.ok.b → Corner (length row.terms) S j s n m k → Part c z → Bounded (2 ^ 15) t.coeff → pos 0 ⊏ int (abs t.coeff)
      → Is (b ⊖ (s ⊖ c)) (σ.ok.b -ℤ (S -ℤ z))
      × NonNeg ((budget M r (rhs_mag row b ⊕ maxf (m ⊖ finite_abs c) 0f ⊕ abs (b ⊖ (s ⊖ c)) ⊕ row.fold_scale) ⊕ ROUNDOFF_FLOOR ⊗ m ⊕ k) ⊘ abs t.coeff)
      × Bounded (2 ^ 53) (b ⊖ (s ⊖ c))
  unfolding finite_abs
  relax_ok {b} {s} {c} {m} {k} {S} {z} t pb o pc ba na =
      let n = length row.terms in
      let pm = corner_mag o in
      let rest = diff (n * 2 ^ 35) (2 ^ 35) o.sum pc.0 o.small pc.1 (omega (arith, σ.ok.count)) in
      let rest_small : A (S -ℤ z) ≤ n * 2 ^ 35 + 2 ^ 35 = omega (arith, size_sub S z, pc.1, o.small) in
      let D = diff (2 ^ 40 + σ.ok.f * 2 ^ 35) (n * 2 ^ 35 + 2 ^ 35) pb rest σ.ok.b_small rest_small (omega (arith, σ.ok.count)) in
      let D_small : A (σ.ok.b -ℤ (S -ℤ z)) ≤ 2 ^ 40 + σ.ok.f * 2 ^ 35 + (n * 2 ^ 35 + 2 ^ 35) = omega (arith, size_sub σ.ok.b (S -ℤ z), σ.ok.b_small) in
      let cm : Mag (2 ^ 35) (choose (is_finite c) (abs c) 0f) = if_true (Mag (2 ^ 35)) (is_finite c) 0f (finite c pc.0.whole)
      (mag_abs (record { whole = pc.0.whole; small = subst (λ (y : ℤ). A y ≤ 2 ^ 35) (sym pc.0.is) pc.1 })) in
      let md = laws.sub_is (record { whole = pm.whole; small = omega (arith, pm.small, σ.ok.count) })
      (record { whole = cm.whole; small = omega (arith, cm.small) })
      (omega (arith, size_sub (int m) (int (choose (is_finite c) (abs c) 0f)), pm.small, cm.small, σ.ok.count)) in
      let md_small : A (int (m ⊖ choose (is_finite c) (abs c) 0f)) ≤ n * 2 ^ 35 + 2 ^ 35 = subst (λ (y : ℤ). A y ≤ n * 2 ^ 35 + 2 ^ 35) (sym md.is)
      (omega (arith, size_sub (int m) (int (choose (is_finite c) (abs c) 0f)), pm.small, cm.small)) in
      let dm : Mag (2 ^ 40 + σ.ok.f * 2 ^ 35 + (n * 2 ^ 35 + 2 ^ 35)) (abs (b ⊖ (s ⊖ c))) =
      mag_abs (record { whole = D.whole; small = subst (λ (y : ℤ). A y ≤ 2 ^ 40 + σ.ok.f * 2 ^ 35 + (n * 2 ^ 35 + 2 ^ 35)) (sym D.is) D_small }) in
      let mag = mag_sum (mag_sum (mag_sum (rhs_mag_lem σ pb) (max_mag md.whole md_small) (omega (arith, σ.ok.count))) dm (omega (arith, σ.ok.count))) (scale_mag σ) (omega (arith, σ.ok.count)) in
      let bt = budget_tol σ mag (omega (arith, σ.ok.count)) in
      let rt = laws.roundoff (record { whole = pm.whole; small = omega (arith, pm.small, σ.ok.count) }) pm.nonneg in
      (D, laws.nonneg_div (laws.nonneg_add (laws.nonneg_add (tol_nonneg bt) (tol_nonneg rt)) o.slack) (abs_bounded ba).whole na, sized D D_small (omega (arith, σ.ok.count)))

  -- ---- from one side of the row: up says that b limits it from above
  pub implied_side : (up : Bool) (t : Term) {b s c m k : Float} {S z : ℤ} {j n : ℕ} (w : Work) → Is b σ.ok.b → Corner (length row.terms) S j s n m k
      → Part c z → TermOk (length M.lower) t → NonZero t → From M Sought w0 w
      → ((x : ℕ → ℤ) → Sought x → (T up → int t.coeff *ℤ x t.var ⊑ σ.ok.b -ℤ (S -ℤ z)) × (T (not up) → σ.ok.b -ℤ (S -ℤ z) ⊑ int t.coeff *ℤ x t.var))
      → Each M Sought (From M Sought w0) (implied M up r row b m k c t (rest_of s n c) w)
  unfolding implied rest_of
  implied_side up t {b} {s} {c} {m} {k} {n = n} w pb o pc ct nt fw le =
      let E : Option Float → Type 0 = λ u. Each M Sought (From M Sought w0) (implied M up r row b m k c t u w) in
      let q = relax_ok t pb o pc ct.coeff (abs_coeff t ct nt) in
      let D = q.0 in
      let int_v = int_var M σ.pure t.var ct.var in
      let plus = sign_pos t.coeff ct.coeff.whole in
      let minus = sign t.coeff ct.coeff.whole nt in
      if_true E (is_finite c) _ (finite c pc.0.whole)
      (if_true E (eqb n 0) _ (subst (λ (n : ℕ). T (eqb n 0)) (sym o.none) tt)
      (pick (Each M Sought (From M Sought w0)) (lt 0f t.coeff) up
      (λ a u. upper_ok M w0 t.var w ct.var fw int_v _ _ (λ x p X. upper_keeps q.2 ct.coeff q.1 X (rises (plus a) (rw D.is ((le x p).0 u)))))
      (λ a u. lower_ok M w0 t.var w ct.var fw int_v _ _ (λ x p X. lower_keeps q.2 ct.coeff q.1 X (rises (plus a) (rw D.is ((le x p).1 u)))))
      (λ a u. upper_ok M w0 t.var w ct.var fw int_v _ _ (λ x p X. upper_keeps q.2 ct.coeff q.1 X (falls (minus a) (rw D.is ((le x p).1 u)))))
      (λ a u. lower_ok M w0 t.var w ct.var fw int_v _ _ (λ x p X. lower_keeps q.2 ct.coeff q.1 X (falls (minus a) (rw D.is ((le x p).0 u)))))))

  module _ {act : Activity} (a : ActivityOf (L M w0) (H M w0) row.terms act) where
    pub implied_hi : (t : Term) (c : Float) (z : ℤ) (w : Work) → TermOk (length M.lower) t → NonZero t → Other M w0 row.terms t → From M Sought w0 w → T (is_finite row.hi)
        → Part c z → least (L M w0) (H M w0) t ⊑ z → Each M Sought (From M Sought w0) (implied M true r row row.hi act.absL act.slack_l c t (rest_of act.l act.ninf_l c) w)
    implied_hi t c z w ct nt ot fw ft pc lz =
        implied_side true t w (σ.ok.hi.shut (finite_hi σ ft)) a.l pc ct nt fw (λ x p. (
          λ u.
              let T = int t.coeff *ℤ x t.var in
              let S = low (L M w0) (H M w0) row.terms in
              omega (
                arith,
                ot.lo x (σ.good.keeps x p),
                (point_meets σ x p).below (finite_hi σ ft),
                add_parts S T,
                add_parts (dot x row.terms) (least (L M w0) (H M w0) t),
                sub_parts σ.ok.b (S -ℤ z),
                sub_parts S z,
              ),
          λ u. absurd u,
        ))

    pub implied_lo : (t : Term) (c : Float) (z : ℤ) (w : Work) → TermOk (length M.lower) t → NonZero t → Other M w0 row.terms t → From M Sought w0 w → T (is_finite row.lo)
        → Part c z → z ⊑ most (L M w0) (H M w0) t → Each M Sought (From M Sought w0) (implied M false r row row.lo act.absU act.slack_u c t (rest_of act.u act.ninf_u c) w)
    implied_lo t c z w ct nt ot fw ft pc lz =
        implied_side false t w (σ.ok.lo.shut (finite_lo σ ft)) a.u pc ct nt fw (λ x p. (
          λ u. absurd u,
          λ u.
              let T = int t.coeff *ℤ x t.var in
              let S = high (L M w0) (H M w0) row.terms in
              omega (
                arith,
                ot.hi x (σ.good.keeps x p),
                (point_meets σ x p).above (finite_lo σ ft),
                add_parts S T,
                add_parts (dot x row.terms) (most (L M w0) (H M w0) t),
                sub_parts σ.ok.b (S -ℤ z),
                sub_parts S z,
              ),
        ))

    pub term_ok : (t : Term) (w : Work) → (Known σ a) t → From M Sought w0 w → Each M Sought (From M Sought w0) (implied_term M r row act t w)
    unfolding implied_term
    term_ok t w f fw =
        let g = fw.good in
        let c = f.0.0 in
        let b : Bounds M w σ.pure g.interval w.wlo w.whi = record { lo = λ v k. (g.interval v k).wlo; hi = λ v k. (g.interval v k).whi } in
        let pmin = range_min_lem M w σ.pure g.interval {los = w.wlo} {his = w.whi} b c in
        let pmax = range_max_lem M w σ.pure g.interval {los = w.wlo} {his = w.whi} b c in
        let n = fw.nars t.var c.var in
        then M {R = From M Sought w0} (taking (Each M Sought (From M Sought w0)) (is_finite row.hi)
        (λ ft. implied_hi t _ _ w c f.0.1 f.1 fw ft pmin (least_mono (L M w0) (H M w0) _ _ t c.coeff.whole n.lo n.hi)) (λ ft. went fw))
        (λ w1 fw1. taking (Each M Sought (From M Sought w0)) (is_finite row.lo)
        (λ ft. implied_lo t _ _ w1 c f.0.1 f.1 fw1 ft pmax (most_mono (L M w0) (H M w0) _ _ t c.coeff.whole n.lo n.hi)) (λ ft. went fw1))

    pub loop_ok : (ts : List Term) (w : Work) → All (Known σ a) ts → From M Sought w0 w → Each M Sought (From M Sought w0) (implied_bounds M r row act ts w)
    unfolding implied_bounds
    loop_ok [] w f fw = went fw
    loop_ok (t ∷ ts) w f fw = then M {R = From M Sought w0} (term_ok t w f.0 fw) (λ w1 fw1. loop_ok ts w1 f.1 fw1)

    -- IMPLIED BOUNDS keep the invariant
    pub implied_ok : All NonZero row.terms → Each M Sought (From M Sought w0) (implied_bounds M r row act row.terms w0)
    implied_ok nz =
        loop_ok row.terms w0
        (all_both (λ t. TermOk (length M.lower) t × NonZero t) (Other M w0 row.terms) row.terms
        (all_both (TermOk (length M.lower)) NonZero row.terms σ.ok.terms nz) (others M w0 row.terms σ.ok.terms))
        (record { good = σ.good; nars = λ v h. record { lo = omega arith; hi = omega arith }; rows = refl })
