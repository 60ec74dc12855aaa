-- `tighten_upper` and `tighten_lower` keep the invariant: an integer variable's implied bound, relaxed and rounded, is no tighter than the points sought allow.
use Prim.Native.Nat.{ℕ, ◌<◌}
use Rattle.std.proofs.Common.{arith, sym, subst}
use Rattle.std.proofs.Math.Path.{ap}
use Rattle.std.specs.Prelude.{T, ℤ, length, set, Float}
use Rattle.std.specs.Float.Ieee.{binary64, lt, of_int}
use Rattle.floats.specs.Num.{◌⊕◌, ◌⊖◌, ½f, is_finite, maxf, minf, floor, ceil}
use Rattle.floats.specs.Zed.{P, N}
use Rattle.floats.specs.Points.{Held, ◌≼◌, ◌≺◌, ◌⊀◌, Is}
use Rattle.tolerances.specs.Tol.{at}
use Rattle.tolerances.specs.Laws.{laws}
use Rattle.definition.specs.Model.{Model, is_int, tightened}
use Rattle.definition.specs.Work.{Work, with_bounds, with_counts, Step}
use Rattle.definition.specs.Bounds.{tighten_upper, tighten_lower, upper_int, lower_int, mark_tightened}
use Rattle.points_kept.specs.PointSet.{PointSet}
use Rattle.definition.specs.Tests.{taking, if_true}
use Rattle.points_kept.proofs.WholeFloats.{held, of_le, of_lt, self, half_nonneg}
use Rattle.points_kept.specs.Invariant.{Each, stopped, went}
use Rattle.points_kept.proofs.Intervals.{lowered, raised}
use Rattle.points_kept.specs.Changes.{From}
use Rattle.points_kept.proofs.Changes.{mark_var_lem, value, set_good, set_one, set_none, wider}

module _ (M : Model) {Sought : PointSet} (w0 : Work) (v : ℕ) (w : Work) (h : v < length M.lower) (inv : From M Sought w0 w) where
  -- ---- a rounded upper bound, floor y, that the value of no point sought is above
  upper_int_ok : (y : Float) → Held y → ((x : ℕ → ℤ) → Sought x → Is (of_int binary64 (x v)) (x v) → of_int binary64 (x v) ≼ floor y) → Each M Sought (From M Sought w0) (upper_int M v (floor y) w)
  unfolding upper_int mark_tightened
  upper_int_ok y hy sound =
      let E : Step → Type 0 = Each M Sought (From M Sought w0) in
      taking E (lt (floor y) (at w.ehi v ⊖ ½f))
      (λ a. taking E (lt (floor y) (at w.wlo v ⊖ ½f))
      (λ b. stopped (λ x p. crossing x p (record { lt = b })))
      (λ b. went (mark_var_lem M w0 v _ (update (record { lt = a }) (record { nlt = b })))))
      (λ a. went inv)
    where
      crossing : (x : ℕ → ℤ) → Sought x → floor y ≺ (at w.wlo v ⊖ ½f) → ⊥
      crossing x p b =
          let g = inv.good in
          let wl = (g.interval v h).wlo in
          let X = value M w v x g h p in
          let l : of_int binary64 (x v) ≺ at w.wlo v = laws.le_lt_trans (sound x p X) (laws.lt_le_trans b (laws.sub_keeps wl.whole (held _ wl.whole) (self wl.whole) half_nonneg)) in
          let n = of_lt X.whole wl.whole l in
          omega (arith, ap P X.is, ap N X.is, ap P wl.is, ap N wl.is, (g.keeps x p v h).0)

      update : floor y ≺ (at w.ehi v ⊖ ½f) → floor y ⊀ (at w.wlo v ⊖ ½f)
          → From M Sought w0 (with_counts (tightened w.counts) (with_bounds w.wlo (set w.whi v (minf (at w.whi v) (floor y))) w.elo (set w.ehi v (floor y)) w))
      update a b =
          let g = inv.good in
          let o = g.interval v h in
          let n = lowered o hy a b in
          let s = set_good M w.wlo w.whi w.elo w.ehi w.wlo (set w.whi v (minf (at w.whi v) (floor y))) w.elo (set w.ehi v (floor y)) w.rows v
          (at w.wlo v) (minf (at w.whi v) (floor y)) (at w.elo v) (floor y) h g
          (set_none v w.wlo) (set_one v w.whi _ (subst (λ (k : ℕ). v < k) (sym g.wh_length) h)) (set_none v w.elo) (set_one v w.ehi _ (subst (λ (k : ℕ). v < k) (sym g.eh_length) h))
          n.interval n.narrow
          (λ x p.
          let X = value M w v x g h p in
          let m = of_le X.whole n.interval.hi.whole (sound x p X) in
          ((g.keeps x p v h).0, omega (arith, ap P X.is, ap N X.is))) in
          record { good = s.0; nars = λ j k. wider M (inv.nars j k) (s.1 j k); rows = inv.rows }

  -- ---- a rounded lower bound, ceil y, that the value of no point sought is below
  lower_int_ok : (y : Float) → Held y → ((x : ℕ → ℤ) → Sought x → Is (of_int binary64 (x v)) (x v) → ceil y ≼ of_int binary64 (x v)) → Each M Sought (From M Sought w0) (lower_int M v (ceil y) w)
  unfolding lower_int mark_tightened
  lower_int_ok y hy sound =
      let E : Step → Type 0 = Each M Sought (From M Sought w0) in
      taking E (lt (at w.elo v ⊕ ½f) (ceil y))
      (λ a. taking E (lt (at w.whi v ⊕ ½f) (ceil y))
      (λ b. stopped (λ x p. crossing x p (record { lt = b })))
      (λ b. went (mark_var_lem M w0 v _ (update (record { lt = a }) (record { nlt = b })))))
      (λ a. went inv)
    where
      crossing : (x : ℕ → ℤ) → Sought x → (at w.whi v ⊕ ½f) ≺ ceil y → ⊥
      crossing x p b =
          let g = inv.good in
          let wh = (g.interval v h).whi in
          let X = value M w v x g h p in
          let l : at w.whi v ≺ of_int binary64 (x v) = laws.lt_le_trans (laws.le_lt_trans (laws.add_keeps wh.whole (held _ wh.whole) (self wh.whole) half_nonneg) b) (sound x p X) in
          let n = of_lt wh.whole X.whole l in
          omega (arith, ap P X.is, ap N X.is, ap P wh.is, ap N wh.is, (g.keeps x p v h).1)

      update : (at w.elo v ⊕ ½f) ≺ ceil y → (at w.whi v ⊕ ½f) ⊀ ceil y
          → From M Sought w0 (with_counts (tightened w.counts) (with_bounds (set w.wlo v (maxf (at w.wlo v) (ceil y))) w.whi (set w.elo v (ceil y)) w.ehi w))
      update a b =
          let g = inv.good in
          let o = g.interval v h in
          let n = raised o hy a b in
          let s = set_good M w.wlo w.whi w.elo w.ehi (set w.wlo v (maxf (at w.wlo v) (ceil y))) w.whi (set w.elo v (ceil y)) w.ehi w.rows v
          (maxf (at w.wlo v) (ceil y)) (at w.whi v) (ceil y) (at w.ehi v) h g
          (set_one v w.wlo _ (subst (λ (k : ℕ). v < k) (sym g.wl_length) h)) (set_none v w.whi) (set_one v w.elo _ (subst (λ (k : ℕ). v < k) (sym g.el_length) h)) (set_none v w.ehi)
          n.interval n.narrow
          (λ x p.
          let X = value M w v x g h p in
          let m = of_le n.interval.lo.whole X.whole (sound x p X) in
          (omega (arith, ap P X.is, ap N X.is), (g.keeps x p v h).1)) in
          record { good = s.0; nars = λ j k. wider M (inv.nars j k) (s.1 j k); rows = inv.rows }

  -- ---- `tighten_upper` and `tighten_lower`: of an integer variable
  module _ (int : T (is_int M v)) (q relax : Float) where
    pub upper_ok : ((x : ℕ → ℤ) → Sought x → Is (of_int binary64 (x v)) (x v) → of_int binary64 (x v) ≼ floor (q ⊕ relax)) → Each M Sought (From M Sought w0) (tighten_upper M v q relax w)
    unfolding tighten_upper
    upper_ok sound =
        taking (Each M Sought (From M Sought w0)) (is_finite q)
        (λ _. if_true (Each M Sought (From M Sought w0)) (is_int M v) _ int (upper_int_ok (q ⊕ relax) (laws.fits_add q relax) sound))
        (λ _. went inv)

    pub lower_ok : ((x : ℕ → ℤ) → Sought x → Is (of_int binary64 (x v)) (x v) → ceil (q ⊖ relax) ≼ of_int binary64 (x v)) → Each M Sought (From M Sought w0) (tighten_lower M v q relax w)
    unfolding tighten_lower
    lower_ok sound =
        taking (Each M Sought (From M Sought w0)) (is_finite q)
        (λ _. if_true (Each M Sought (From M Sought w0)) (is_int M v) _ int (lower_int_ok (q ⊖ relax) (laws.fits_sub q relax) sound))
        (λ _. went inv)
