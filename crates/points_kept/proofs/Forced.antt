-- `forces_min`, `forces_max`, `fix_all`: a row whose corner is its side has its points at that corner alone; its variables are fixed there, and the row is dropped.
use Rattle.std.specs.Prelude.{ℕ, ◌^◌, ◌≤◌, ◌<◌, ◌≡◌, ◌≢◌, Bool, not, T, ℤ, pos, ◌+ℤ◌, ◌*ℤ◌, length, set, Float}
use native.Mathlib.Omega.{arith}
use Rattle.std.proofs.Math.Path.{refl, ap, ap₂}
use Rattle.std.proofs.Common.{sym, subst, ◌∙◌, inl, inr, get_or-set_other}
use Rattle.std.proofs.Math.Bool.{true, false}
use mathlib.Core.List.{List, [], ◌∷◌}
use Rattle.std.proofs.Math.Dec.{not_T}
use Rattle.std.specs.Float.Ieee.{nan, lt, le}
use Rattle.floats.specs.Num.{choose, ◌⊗◌, 0f}
use Rattle.floats.specs.Zed.{P, N, P_neg, N_neg, ◌⊑◌, ◌⊏◌, ext}
use Rattle.floats.specs.Points.{int, Bounded, Is}
use Rattle.tolerances.specs.Tol.{ROUNDOFF_FLOOR, Term, at}
use Rattle.tolerances.specs.Laws.{laws}
use Rattle.definition.specs.declared.Activity.{Activity}
use Rattle.definition.specs.Model.{Model, Row, fixed_one}
use Rattle.definition.specs.Work.{Work, with_bounds, with_counts}
use Rattle.definition.specs.Bounds.{fix}
use Rattle.definition.specs.Forcing.{corner, forcing_at, fix_all}
use Rattle.points_kept.specs.PointSet.{PointSet}
use Rattle.points_kept.specs.Statements.{dot}
use Rattle.points_kept.proofs.Integers.{eq_parts, mul_cancel, mul_cancel_neg}
use Rattle.definition.specs.Choices.{both}
use Rattle.definition.specs.Tests.{and3, test, taking, picked, unpicked}
use Rattle.points_kept.proofs.WholeFloats.{of_lt, lt_of, zero_is, small, whole_neg, sign, sign_pos}
use Rattle.points_kept.specs.WholeFloats.{Mag}
use Rattle.points_kept.specs.Terms.{All, Distinct, TermOk, low, high, NonZero, lowest, highest}
use Rattle.points_kept.proofs.Terms.{all_map, all_both, tail_other, tail_distinct}
use Rattle.points_kept.specs.Invariant.{Narrow, GoodW}
use Rattle.points_kept.specs.Changes.{From}
use Rattle.points_kept.proofs.Changes.{set_good, set_one, wider, mark_any}
use Rattle.points_kept.specs.Activity.{ActivityOf, L, H}
use Rattle.points_kept.proofs.WorkingRow.{budget_tol}
use Rattle.points_kept.specs.WorkingRow.{AtWork}
use Rattle.points_kept.specs.ImpliedBounds.{Other}
use Rattle.points_kept.proofs.ImpliedBounds.{others}
use Rattle.points_kept.specs.Forced.{AllFixed, AtCorner, FixedAt, Kept, Known, TS, corner_sum}

pub dot_corner : (mc : Bool) (w0 : Work) (y : ℕ → ℤ) (ts : List Term) → All (AtCorner mc w0 y) ts → dot y ts ≡ corner_sum mc w0 ts
unfolding dot corner_sum
dot_corner mc w0 y [] c = refl
dot_corner mc w0 y (t ∷ ts) c = ap₂ (λ (p q : ℤ). p +ℤ q) (ap (λ (z : ℤ). int t.coeff *ℤ z) c.0) (dot_corner mc w0 y ts c.1)

module _ (M : Model) {Sought : PointSet} (w0 : Work) (g0 : GoodW M Sought w0) where
  pub corner_ok : (mc : Bool) (t : Term) → t.var < length M.lower → Bounded (2 ^ 20) (corner mc w0 t) × (L M w0 t.var ⊑ int (corner mc w0 t)) × (int (corner mc w0 t) ⊑ H M w0 t.var)
  unfolding corner
  corner_ok mc t h =
      let o = g0.interval t.var h in
      both (λ (c : Float). Bounded (2 ^ 20) c × (L M w0 t.var ⊑ int c) × (int c ⊑ H M w0 t.var)) _ (o.hi, o.order, omega arith) (o.lo, omega arith, o.order)

  -- ---- `fix` at a corner where all points sought are
  pub fix_one : (mc : Bool) (t : Term) (w : Work) → TermOk (length M.lower) t → (Kept M w0 g0) w t → From M Sought w0 w → ((x : ℕ → ℤ) → Sought x → AtCorner mc w0 x t)
      → (FixedAt M w0 g0) w t.var (corner mc w0 t) (fix M t.var (corner mc w0 t) w)
  unfolding fix
  fix_one mc t w c k f pts =
      let v = t.var in
      let e = corner mc w0 t in
      let o = corner_ok mc t c.var in
      let g = f.good in
      let n : Narrow (at w.elo v) (at w.ehi v) e e = record { lo = omega (arith, eq_parts k.0, o.1); hi = omega (arith, eq_parts k.1, o.2) } in
      let s = set_good M w.wlo w.whi w.elo w.ehi (set w.wlo v e) (set w.whi v e) (set w.elo v e) (set w.ehi v e) w.rows v e e e e c.var g
      (set_one v w.wlo e (subst (λ (k : ℕ). v < k) (sym g.wl_length) c.var)) (set_one v w.whi e (subst (λ (k : ℕ). v < k) (sym g.wh_length) c.var))
      (set_one v w.elo e (subst (λ (k : ℕ). v < k) (sym g.el_length) c.var)) (set_one v w.ehi e (subst (λ (k : ℕ). v < k) (sym g.eh_length) c.var))
      (record { lo = o.0; hi = o.0; wlo = record { whole = o.0.whole; is = refl }; whi = record { whole = o.0.whole; is = refl }; order = omega arith })
      n (λ x p. let q = eq_parts (pts x p) in (omega arith, omega arith)) in
      mark_any M ((FixedAt M w0 g0) w v e) (λ x d c q h. record { from = record { good = h.from.good; nars = h.from.nars; rows = h.from.rows }; nars = h.nars; elo = h.elo; ehi = h.ehi }) v
      (with_counts (fixed_one w.counts) (with_bounds (set w.wlo v e) (set w.whi v e) (set w.elo v e) (set w.ehi v e) w))
      (record { from = record { good = s.0; nars = λ j h. wider M (f.nars j h) (s.1 j h); rows = f.rows }; nars = s.1; elo = refl; ehi = refl })

  pub fix_all_lem : (mc : Bool) (ts : List Term) (w : Work) → All (TermOk (length M.lower)) ts → Distinct ts → All ((Kept M w0 g0) w) ts → From M Sought w0 w
      → ((x : ℕ → ℤ) → Sought x → All (AtCorner mc w0 x) ts) → (AllFixed M w0 g0) mc w ts (fix_all M mc w0 ts w)
  unfolding fix_all
  fix_all_lem mc [] w a d k f pts = record { from = f; nars = λ v h. record { lo = omega arith; hi = omega arith }; at_corner = λ y h. tt }
  fix_all_lem mc (t ∷ ts) w a d k f pts =
      let v = t.var in
      let e = corner mc w0 t in
      let w1 = fix M v e w in
      let o = fix_one mc t w a.0 k.0 f (λ x p. (pts x p).0) in
      let other : (u : Term) → (u.var ≢ v) × (Kept M w0 g0) w u → (Kept M w0 g0) w1 u =
      λ u q. (
        ap (λ (l : List Float). int (at l u.var)) o.elo ∙ ap int (get_or-set_other w.elo v u.var e nan q.0) ∙ q.1.0,
        ap (λ (l : List Float). int (at l u.var)) o.ehi ∙ ap int (get_or-set_other w.ehi v u.var e nan q.0) ∙ q.1.1,
      ) in
      let k1 : All ((Kept M w0 g0) w1) ts =
      all_map {Q = λ u. (u.var ≢ v) × (Kept M w0 g0) w u} {R = (Kept M w0 g0) w1} ts other (all_both (λ u. u.var ≢ v) ((Kept M w0 g0) w) ts (tail_other t ts d) k.1) in
      let r = fix_all_lem mc ts w1 a.1 (tail_distinct t ts d) k1 o.from (λ x p. (pts x p).1) in
      record {
        from = r.from;
        nars = λ j h. wider M (o.nars j h) (r.nars j h);
        at_corner = λ y h.
            let n = r.nars v a.0.var in
            let i = h v a.0.var in
            let el : at w1.elo v ≡ e = ap (λ (l : List Float). at l v) o.elo ∙ (set_one v w.elo e (subst (λ (k : ℕ). v < k) (sym f.good.el_length) a.0.var)).here in
            let eh : at w1.ehi v ≡ e = ap (λ (l : List Float). at l v) o.ehi ∙ (set_one v w.ehi e (subst (λ (k : ℕ). v < k) (sym f.good.eh_length) a.0.var)).here in
            (ext (y v) (int e) (omega (arith, n.lo, n.hi, i.0, i.1, eq_parts (ap int el), eq_parts (ap int eh))), r.at_corner y h);
      }

  pub kept_now : (ts : List Term) → All ((Kept M w0 g0) w0) ts
  kept_now [] = tt
  kept_now (t ∷ ts) = ((refl, refl), kept_now ts)

  -- ---- the corner is where a term is least, or greatest
  module _ (t : Term) (c : TermOk (length M.lower) t) (nt : NonZero t) where
    pub neg_test : int t.coeff ⊏ pos 0 → T (lt t.coeff 0f)
    neg_test p = (lt_of c.coeff.whole zero_is.whole (omega (arith, ap P zero_is.is, ap N zero_is.is))).lt

    pub pos_test : pos 0 ⊏ int t.coeff → T (not (lt t.coeff 0f))
    pos_test p = not_T (lt t.coeff 0f) (λ l. no (of_lt c.coeff.whole zero_is.whole (record { lt = l })))
      where
        no : int t.coeff ⊏ int 0f → ⊥
        no k = omega (arith, ap P zero_is.is, ap N zero_is.is)

    pub corner_at : (mc : Bool) → (int t.coeff ⊏ pos 0 → corner mc w0 t ≡ choose mc (at w0.ehi t.var) (at w0.elo t.var))
        × (pos 0 ⊏ int t.coeff → corner mc w0 t ≡ choose (not mc) (at w0.ehi t.var) (at w0.elo t.var))
    unfolding corner
    corner_at mc = (λ p. picked (lt t.coeff 0f) mc _ _ (neg_test p), λ p. unpicked (lt t.coeff 0f) mc _ _ (pos_test p))

    pub lowest_corner : lowest (L M w0) (H M w0) t ≡ int (corner true w0 t)
    unfolding lowest choose
    lowest_corner =
        taking (λ (z : ℤ). z ≡ int (corner true w0 t)) (lt 0f t.coeff)
        (λ s. ap int (sym ((corner_at true).1 (sign_pos t.coeff c.coeff.whole s))))
        (λ s. ap int (sym ((corner_at true).0 (sign t.coeff c.coeff.whole nt s))))

    pub highest_corner : highest (L M w0) (H M w0) t ≡ int (corner false w0 t)
    unfolding highest choose
    highest_corner =
        taking (λ (z : ℤ). z ≡ int (corner false w0 t)) (lt 0f t.coeff)
        (λ s. ap int (sym ((corner_at false).1 (sign_pos t.coeff c.coeff.whole s))))
        (λ s. ap int (sym ((corner_at false).0 (sign t.coeff c.coeff.whole nt s))))

    -- where a * x is a * y both ways, x is y
    pub equal : (x y : ℤ) → int t.coeff *ℤ x ⊑ int t.coeff *ℤ y → int t.coeff *ℤ y ⊑ int t.coeff *ℤ x → x ≡ y
    equal x y h k =
        elim (test (lt 0f t.coeff)) [
          | inl s ↦ (let p = sign_pos t.coeff c.coeff.whole s in ext x y (omega (arith, mul_cancel (int t.coeff) x y p h, mul_cancel (int t.coeff) y x p k)))
          | inr s ↦ (let p = sign t.coeff c.coeff.whole nt s in ext x y (omega (arith, mul_cancel_neg (int t.coeff) x y p h, mul_cancel_neg (int t.coeff) y x p k)))
        ]

  pub low_corner : (ts : List Term) → All (TermOk (length M.lower)) ts → All NonZero ts → low (L M w0) (H M w0) ts ≡ corner_sum true w0 ts
  unfolding low corner_sum
  low_corner [] a n = refl
  low_corner (t ∷ ts) a n = ap₂ (λ (p q : ℤ). p +ℤ q) (ap (λ (z : ℤ). int t.coeff *ℤ z) (lowest_corner t a.0 n.0)) (low_corner ts a.1 n.1)

  pub high_corner : (ts : List Term) → All (TermOk (length M.lower)) ts → All NonZero ts → high (L M w0) (H M w0) ts ≡ corner_sum false w0 ts
  unfolding high corner_sum
  high_corner [] a n = refl
  high_corner (t ∷ ts) a n = ap₂ (λ (p q : ℤ). p +ℤ q) (ap (λ (z : ℤ). int t.coeff *ℤ z) (highest_corner t a.0 n.0)) (high_corner ts a.1 n.1)

module _ {M : Model} {Sought : PointSet} {w0 : Work} {r : ℕ} {row : Row} (σ : AtWork M Sought w0 r row) (nz : All NonZero row.terms) {e : Activity}
    (a : ActivityOf (L M w0) (H M w0) row.terms e) where
  pub known : All (Known σ nz a) (TS σ nz a)
  known = all_both (λ t. TermOk (length M.lower) t × NonZero t) (Other M w0 (TS σ nz a)) (TS σ nz a)
      (all_both (TermOk (length M.lower)) NonZero (TS σ nz a) σ.ok.terms nz) (others M w0 (TS σ nz a) σ.ok.terms)

  -- a whole number between a tolerance and another's negation is 0
  pub sliver_zero : {s m : Float} {z : ℤ} {k : ℕ} → Is s z → Mag k m → k ≤ 2 ^ 45 → T (forcing_at M r s m w0 (TS σ nz a)) → (z ⊑ pos 0) × (pos 0 ⊑ z)
  unfolding forcing_at
  sliver_zero {s} {m} {z} p pm hk t =
      let d = and3 (le s (ROUNDOFF_FLOOR ⊗ m)) _ _ t in
      let n = whole_neg s p.whole in
      let i = small p.whole (laws.roundoff (record { whole = pm.whole; small = omega (arith, pm.small) }) pm.nonneg) (record { le = d.0 }) in
      let j = small n.whole (budget_tol σ pm hk) (record { le = d.1 }) in
      (omega (arith, eq_parts p.is), omega (arith, eq_parts p.is, eq_parts n.is, P_neg (int s), N_neg (int s)))
