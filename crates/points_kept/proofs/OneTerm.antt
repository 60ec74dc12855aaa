-- `singleton_row`: a row of one term. The bounds that it leaves its variable lose none of the points sought, and it is dropped only where they
-- meet it.
use Rattle.std.specs.Prelude.{ℕ, ◌+◌, ◌*◌, ◌^◌, ◌≤◌, ◌<◌, ◌≡◌, refl, ◌≢◌, Bool, not, ◌&&◌, ◌||◌, [], ◌∷◌, T, ℤ, pos, ◌*ℤ◌, length, set}
use Rattle.std.proofs.Common.{arith, sym, ap, ◌∙◌, T_not}
use Rattle.std.proofs.Math.Path.{subst}
use Rattle.std.proofs.Math.Logic.{inl, inr}
use Rattle.std.proofs.Math.Bool.{true, false}
use Rattle.std.proofs.Math.Dec.{eqb, not_T}
use Rattle.std.proofs.Math.IntN.{+ℤ_idr}
use Rattle.std.specs.Float.Ieee.{Float, binary64, lt, of_int}
use Rattle.floats.specs.Num.{choose, ◌⊖◌, ◌⊗◌, ◌⊘◌, 0f, is_finite, abs, maxf, minf}
use Rattle.floats.specs.Zed.{P, N, A, ◌⊑◌, ◌⊏◌}
use Rattle.floats.specs.Points.{int, Bounded, ◌≼◌, ◌⊀◌, Is}
use Rattle.floats.specs.WholeRounding.{NonNeg, Tol}
use Rattle.tolerances.specs.Tol.{ROUNDOFF_FLOOR, Term, row_tolerance, at}
use Rattle.tolerances.specs.Laws.{laws}
use Rattle.tolerances.specs.Budget.{row_tol}
use Rattle.definition.specs.Model.{Model, op_of, is_int, Row, tightened}
use Rattle.definition.specs.Work.{Work, Step, next, ◌>>=◌, with_counts}
use Rattle.definition.specs.Bounds.{emit_bounds, mark_tightened}
use Rattle.definition.specs.Singles.{finite_mag, room_at, widened_at, dropped_room, singleton_bounds, singleton_drop, singleton_row, new_lower, new_upper, singleton_int, lower_meets, upper_meets}
use Rattle.points_kept.specs.PointSet.{PointSet}
use Rattle.points_kept.specs.Statements.{dot, Within}
use Rattle.points_kept.proofs.Integers.{eq_parts}
use Rattle.definition.specs.Choices.{both}
use Rattle.definition.specs.Tests.{and, or, taking, if_true, alike_by}
use Rattle.points_kept.proofs.WholeFloats.{finite, of_le, of_lt, le_of, tol_nonneg, whole_abs, tolerance, abs_bounded, mag_sum, mag_abs, sign, sign_pos, ∞_is, -∞_is, inf_div}
use Rattle.points_kept.specs.WholeFloats.{Mag}
use Rattle.points_kept.specs.Terms.{All, TermOk, NonZero}
use Rattle.points_kept.specs.Invariant.{Sided, GoodW, Each, stopped, went, Narrower}
use Rattle.points_kept.proofs.Invariant.{then}
use Rattle.points_kept.specs.Intervals.{Shrunk}
use Rattle.points_kept.proofs.Intervals.{singled}
use Rattle.points_kept.specs.Changes.{From}
use Rattle.points_kept.proofs.Changes.{set_good, set_one, value, mark_any, drop_ok}
use Rattle.points_kept.proofs.Activity.{bound_tol_lem}
use Rattle.points_kept.proofs.WorkingRow.{int_var, met_in, rhs_mag_lem, scale_mag, budget_tol, point_meets}
use Rattle.points_kept.specs.WorkingRow.{AtWork}
use Rattle.points_kept.specs.Quotients.{AtMost, AtLeast, rises, falls, Signed}
use Rattle.points_kept.proofs.Quotients.{more_least, less_most, upper_keeps, lower_keeps, least_meets, most_meets}
use Rattle.points_kept.specs.OneTerm.{Above, Below, End, GoodPut, Joined, new_hi, new_lo, work_hi, work_lo}

module _ {M : Model} {Sought : PointSet} {w0 : Work} {r : ℕ} {row : Row} (σ : AtWork M Sought w0 r row) where
  pub finite_mag_lem : {x : Float} → Is x σ.ok.b → Mag (2 ^ 45) (finite_mag row x)
  unfolding finite_mag
  finite_mag_lem {x} p =
      if_true (Mag (2 ^ 45)) (is_finite x) 0f (finite x p.whole)
      (let m = mag_sum (mag_sum (rhs_mag_lem σ p)
      (mag_abs (record { whole = p.whole; small = subst (λ (z : ℤ). A z ≤ 2 ^ 40 + σ.ok.f * 2 ^ 35) (sym p.is) σ.ok.b_small }))
      (omega (arith, σ.ok.count))) (scale_mag σ) (omega (arith, σ.ok.count)) in
      record { whole = m.whole; nonneg = m.nonneg; small = omega (arith, m.small, σ.ok.count) })

  pub b_bounded : {x : Float} → Is x σ.ok.b → Bounded (2 ^ 53) x
  b_bounded p = record { whole = p.whole; small = subst (λ (z : ℤ). A z ≤ 2 ^ 53) (sym p.is) (omega (arith, σ.ok.b_small, σ.ok.count)) }

  module _ (a : Float) (ba : Bounded (2 ^ 15) a) (sg : Signed (int a)) where
    pub nonzero : int a ≢ pos 0
    nonzero e = no sg (eq_parts e)
      where
        no : Signed (int a) → P (int a) + 0 ≡ 0 + N (int a) → ⊥
        no (inl p) q = omega arith
        no (inr p) q = omega arith

    pub abs_positive : pos 0 ⊏ int (abs a)
    abs_positive = go sg
      where
        go : Signed (int a) → pos 0 ⊏ int (abs a)
        go (inl p) = let w = whole_abs a ba.whole in omega (arith, ap P w.is, ap N w.is)
        go (inr p) = let w = whole_abs a ba.whole in omega (arith, ap P w.is, ap N w.is)

    -- the rooms: not negative, and below 1 before they are divided
    pub widened_ok : {d : Float} → Is d σ.ok.b → NonNeg (widened_at M r row a d)
    unfolding widened_at room_at
    widened_ok p =
        let m = finite_mag_lem p in
        let W = (abs_bounded ba).whole in
        laws.nonneg_add (laws.nonneg_div (tol_nonneg (budget_tol σ m (omega arith))) W abs_positive)
        (laws.nonneg_div (tol_nonneg (laws.roundoff (record { whole = m.whole; small = m.small }) m.nonneg)) W abs_positive)

    pub dropped_ok : {d : Float} → Is d σ.ok.b → Tol (maxf (row_tolerance M.feas (finite_mag row d) ⊖ ROUNDOFF_FLOOR ⊗ finite_mag row d) 0f)
    dropped_ok p =
        let m = finite_mag_lem p in
        let b : Bounded (2 ^ 45) (finite_mag row _) = record { whole = m.whole; small = m.small } in
        laws.rest (row_tol (tolerance σ.pure.numbers.feas) b m.nonneg) (laws.roundoff b m.nonneg)

    pub not_free : {free? : Bool} {d : Float} → End σ a free? d → T (is_finite (d ⊘ a)) → T (not free?)
    not_free {free?} e f = not_T free? (λ t. e.free t f)

    pub lo_end : End σ a (eqb (op_of M r) 1) row.lo
    lo_end = record { shut = σ.ok.lo.shut; free = λ t f. inf_div true a ba.whole (subst (λ (y : Float). T (is_finite (y ⊘ a))) (σ.ok.lo.free t ∙ -∞_is) f) }

    pub hi_end : End σ a (eqb (op_of M r) 2) row.hi
    hi_end = record { shut = σ.ok.hi.shut; free = λ t f. inf_div false a ba.whole (subst (λ (y : Float). T (is_finite (y ⊘ a))) (σ.ok.hi.free t ∙ ∞_is) f) }

    module _ (v : ℕ) (h : v < length M.lower) (fl fu : Bool) (blo bhi : Float) (lower : End σ a fl blo) (upper : End σ a fu bhi)
        (asked : (x : ℕ → ℤ) → Sought x → Above σ a fl (x v) × Below σ a fu (x v)) where
      pub X : (x : ℕ → ℤ) → Sought x → Is (of_int binary64 (x v)) (x v)
      X x p = value M w0 v x σ.good h p

      pub elo_sound : (x : ℕ → ℤ) → Sought x → at w0.elo v ≼ of_int binary64 (x v)
      elo_sound x p = le_of (σ.good.interval v h).lo.whole (X x p).whole (subst (λ (z : ℤ). int (at w0.elo v) ⊑ z) (sym (X x p).is) (σ.good.keeps x p v h).0)

      pub ehi_sound : (x : ℕ → ℤ) → Sought x → of_int binary64 (x v) ≼ at w0.ehi v
      ehi_sound x p = le_of (X x p).whole (σ.good.interval v h).hi.whole (subst (λ (z : ℤ). z ⊑ int (at w0.ehi v)) (sym (X x p).is) (σ.good.keeps x p v h).1)

      pub lo_sound : (x : ℕ → ℤ) → Sought x → new_lo σ a v blo bhi ≼ of_int binary64 (x v)
      unfolding new_lower maxf
      lo_sound x p =
          let S : Float → Type 0 = λ y. y ≼ of_int binary64 (x v) in
          taking S (is_finite (blo ⊘ a))
          (λ f.
          let b = lower.shut (not_free lower f) in
          both S _ (lower_keeps (b_bounded b) ba (widened_ok b) (X x p) (subst (λ (z : ℤ). AtLeast (int a) z (x v)) (sym b.is) ((asked x p).0 (not_free lower f)))) (elo_sound x p))
          (λ f. elo_sound x p)

      pub hi_sound : (x : ℕ → ℤ) → Sought x → of_int binary64 (x v) ≼ new_hi σ a v blo bhi
      unfolding new_upper minf
      hi_sound x p =
          let S : Float → Type 0 = λ y. of_int binary64 (x v) ≼ y in
          taking S (is_finite (bhi ⊘ a))
          (λ f.
          let b = upper.shut (not_free upper f) in
          both S _ (upper_keeps (b_bounded b) ba (widened_ok b) (X x p) (subst (λ (z : ℤ). AtMost (int a) z (x v)) (sym b.is) ((asked x p).1 (not_free upper f)))) (ehi_sound x p))
          (λ f. ehi_sound x p)

      pub emit_ok : new_hi σ a v blo bhi ⊀ new_lo σ a v blo bhi → From M Sought w0 (emit_bounds M v (new_lo σ a v blo bhi) (new_hi σ a v blo bhi) w0)
      unfolding emit_bounds mark_tightened
      emit_ok n =
          record { good = all.0; nars = s.1; rows = all.1 }
        where
          o : Shrunk (at w0.elo v) (at w0.ehi v) (work_lo σ a v blo bhi) (work_hi σ a v blo bhi) (new_lo σ a v blo bhi) (new_hi σ a v blo bhi)
          o = singled M r row a blo bhi (σ.good.interval v h) n

          s : GoodPut σ a v blo bhi w0.rows
              × ((j : ℕ) → j < length M.lower → Narrower w0.elo w0.ehi (set w0.elo v (new_lo σ a v blo bhi)) (set w0.ehi v (new_hi σ a v blo bhi)) j)
          s = set_good M w0.wlo w0.whi w0.elo w0.ehi (set w0.wlo v (work_lo σ a v blo bhi)) (set w0.whi v (work_hi σ a v blo bhi))
              (set w0.elo v (new_lo σ a v blo bhi)) (set w0.ehi v (new_hi σ a v blo bhi)) w0.rows v
              (work_lo σ a v blo bhi) (work_hi σ a v blo bhi) (new_lo σ a v blo bhi) (new_hi σ a v blo bhi) h σ.good
              (set_one v w0.wlo _ (subst (λ (k : ℕ). v < k) (sym σ.good.wl_length) h)) (set_one v w0.whi _ (subst (λ (k : ℕ). v < k) (sym σ.good.wh_length) h))
              (set_one v w0.elo _ (subst (λ (k : ℕ). v < k) (sym σ.good.el_length) h)) (set_one v w0.ehi _ (subst (λ (k : ℕ). v < k) (sym σ.good.eh_length) h))
              o.interval o.narrow
              (λ x p.
              let e = X x p in
              let i = of_le o.interval.lo.whole e.whole (lo_sound x p) in
              let j = of_le e.whole o.interval.hi.whole (hi_sound x p) in
              (omega (arith, ap P e.is, ap N e.is), omega (arith, ap P e.is, ap N e.is)))

          Q : Work → Type 0
          Q w = GoodPut σ a v blo bhi w.rows × (w.rows ≡ w0.rows)

          tighter : Bool
          tighter = lt (at w0.elo v) (new_lo σ a v blo bhi) || lt (new_hi σ a v blo bhi) (at w0.ehi v)

          all : Q (choose tighter (mark_tightened M v w0) w0)
          all = both Q tighter (mark_any M Q (λ w d c q k. k) v (with_counts (tightened w0.counts) w0) (s.0, refl)) (s.0, refl)

      pub bounds_ok : Each M Sought (From M Sought w0) (singleton_bounds M r row v a blo bhi w0)
      unfolding singleton_bounds singleton_int
      bounds_ok =
          let E : Step → Type 0 = Each M Sought (From M Sought w0) in
          if_true E (is_int M v) _ (int_var M σ.pure v h)
          (taking E _
          (λ t. stopped (λ x p.
          let e = X x p in
          let l = of_lt e.whole e.whole (laws.lt_le_trans (laws.le_lt_trans (hi_sound x p) (record { lt = t })) (lo_sound x p)) in
          omega arith))
          (λ t. went (emit_ok (record { nlt = t }))))

      -- ---- the drop: within the bounds that are left, each end is met
      pub lower_met : (w1 : Work) → From M Sought w0 w1 → T (lower_meets M row v a blo w1) → (x : ℤ) → int (at w1.elo v) ⊑ x → Above σ a fl x
      unfolding lower_meets dropped_room
      lower_met w1 f t x k s =
          let b = lower.shut s in
          let q = laws.div_finite (b_bounded b) ba nonzero in
          elim (or (not (is_finite (blo ⊘ a))) _ t) [
            | inl n ↦ absurd (T_not (is_finite (blo ⊘ a)) n q)
            | inr l ↦ more_least (subst (λ (z : ℤ). AtLeast (int a) z (int (at w1.elo v))) b.is
                (least_meets (b_bounded b) ba (f.good.interval v h).lo (dropped_ok b) (tol_nonneg (bound_tol_lem M w1 σ.pure f.good.interval v false h)) sg (record { le = l }))) k
          ]

      pub upper_met : (w1 : Work) → From M Sought w0 w1 → T (upper_meets M row v a bhi w1) → (x : ℤ) → x ⊑ int (at w1.ehi v) → Below σ a fu x
      unfolding upper_meets dropped_room
      upper_met w1 f t x k s =
          let b = upper.shut s in
          let q = laws.div_finite (b_bounded b) ba nonzero in
          elim (or (not (is_finite (bhi ⊘ a))) _ t) [
            | inl n ↦ absurd (T_not (is_finite (bhi ⊘ a)) n q)
            | inr l ↦ less_most (subst (λ (z : ℤ). AtMost (int a) z (int (at w1.ehi v))) b.is
                (most_meets (b_bounded b) ba (f.good.interval v h).hi (dropped_ok b) (tol_nonneg (bound_tol_lem M w1 σ.pure f.good.interval v true h)) sg (record { le = l }))) k
          ]

      pub drops_ok : (w1 : Work) → From M Sought w0 w1 → Joined σ a v fl fu → GoodW M Sought (singleton_drop M r row v a blo bhi w1)
      unfolding singleton_drop
      drops_ok w1 f m =
          taking (GoodW M Sought) (lower_meets M row v a blo w1 && upper_meets M row v a bhi w1)
          (λ t.
          let d = and (lower_meets M row v a blo w1) _ t in
          drop_ok M r row w1 σ.range f.good (λ x k.
          let k0 : Within (length M.lower) w0.elo w0.ehi x = λ j l. (omega (arith, (k j l).0, (f.nars j l).lo), omega (arith, (k j l).1, (f.nars j l).hi)) in
          met_in σ x k0 (m x (lower_met w1 f d.0 (x v) (k v h).0) (upper_met w1 f d.1 (x v) (k v h).1))))
          (λ t. f.good)

      pub both_ok : Joined σ a v fl fu
          → Each M Sought (GoodW M Sought) (singleton_bounds M r row v a blo bhi w0 >>= λ w1. next (singleton_drop M r row v a blo bhi w1))
      both_ok m = then M {R = GoodW M Sought} bounds_ok (λ w1 f. went (drops_ok w1 f m))

  -- A ROW OF ONE TERM keeps the invariant
  pub single_ok : (t : Term) → row.terms ≡ t ∷ [] → NonZero t → Each M Sought (GoodW M Sought) (singleton_row M r row t w0)
  unfolding singleton_row dot
  single_ok t e nt =
      let a = t.coeff in
      let f₁ = eqb (op_of M r) 1 in
      let f₂ = eqb (op_of M r) 2 in
      alike_by (λ (blo bhi : Float). Each M Sought (GoodW M Sought) (singleton_bounds M r row t.var a blo bhi w0 >>= λ w1. next (singleton_drop M r row t.var a blo bhi w1))) (lt 0f a)
      (λ s.
      let p = sign_pos a c.coeff.whole s in
      both_ok a c.coeff (inl p) t.var c.var f₁ f₂ row.lo row.hi (lo_end a c.coeff (inl p)) (hi_end a c.coeff (inl p))
      (λ x q. (λ u. rises p ((asked x q).above u), λ u. rises p ((asked x q).below u)))
      (λ x g l. back x (λ u. up p (g u)) (λ u. up' p (l u))))
      (λ s.
      let p = sign a c.coeff.whole nt s in
      both_ok a c.coeff (inr p) t.var c.var f₂ f₁ row.hi row.lo (hi_end a c.coeff (inr p)) (lo_end a c.coeff (inr p))
      (λ x q. (λ u. falls p ((asked x q).below u), λ u. falls p ((asked x q).above u)))
      (λ x l g. back x (λ u. down p (g u)) (λ u. down' p (l u))))
    where
      c : TermOk (length M.lower) t
      c = (subst (All (TermOk (length M.lower))) e σ.ok.terms).0

      A₀ : ℤ
      A₀ = int t.coeff

      up : {d x : ℤ} → pos 0 ⊏ A₀ → AtLeast A₀ d x → d ⊑ A₀ *ℤ x
      up p (rises q h) = h
      up p (falls q h) = absurd (omega arith)

      up' : {d x : ℤ} → pos 0 ⊏ A₀ → AtMost A₀ d x → A₀ *ℤ x ⊑ d
      up' p (rises q h) = h
      up' p (falls q h) = absurd (omega arith)

      down : {d x : ℤ} → A₀ ⊏ pos 0 → AtMost A₀ d x → d ⊑ A₀ *ℤ x
      down p (rises q h) = absurd (omega arith)
      down p (falls q h) = h

      down' : {d x : ℤ} → A₀ ⊏ pos 0 → AtLeast A₀ d x → A₀ *ℤ x ⊑ d
      down' p (rises q h) = absurd (omega arith)
      down' p (falls q h) = h

      one : (x : ℕ → ℤ) → dot x row.terms ≡ A₀ *ℤ x t.var
      one x = ap (dot x) e ∙ +ℤ_idr (A₀ *ℤ x t.var)

      asked : (x : ℕ → ℤ) → Sought x → Sided (op_of M r) (A₀ *ℤ x t.var) σ.ok.b
      asked x p = subst (λ (z : ℤ). Sided (op_of M r) z σ.ok.b) (one x) (point_meets σ x p)

      back : (x : ℕ → ℤ) → (T (not (eqb (op_of M r) 1)) → σ.ok.b ⊑ A₀ *ℤ x t.var) → (T (not (eqb (op_of M r) 2)) → A₀ *ℤ x t.var ⊑ σ.ok.b) → Sided (op_of M r) (dot x row.terms) σ.ok.b
      back x g l = subst (λ (z : ℤ). Sided (op_of M r) z σ.ok.b) (sym (one x)) (record { below = l; above = g })
