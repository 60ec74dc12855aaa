-- `primal_wave` of src/presolve/work.rs of microlp 0.7.0, changed: the implied bounds of each term, from each side of the row.
-- With the rest of the row at its corner, a finite side bounds the term. That bound is relaxed by the row's budget where it is attained, by the
-- round-off of the rest, which is the sum less this term's own part, and by the slack, so it holds of every solution within tolerance. A bound
-- tightened earlier in the loop does not change the activity: the older one is looser, so what it implies still holds.
use Rattle.std.specs.Prelude.{ℕ, Bool, true, false, not, List, [], ◌∷◌, eqb, Float}
use Rattle.std.proofs.Math.Option.{Option, none, some}
use Rattle.floats.specs.Num.{choose, ◌⊕◌, ◌⊖◌, ◌⊗◌, ◌⊘◌, gt, 0f, is_finite, abs, maxf}
use Rattle.tolerances.specs.Tol.{Term, at, ROUNDOFF_FLOOR}
use Rattle.definition.specs.declared.Activity.{Activity}
use Rattle.definition.specs.Model.{Model, Row, rhs_mag, range_min, range_max}
use Rattle.definition.specs.Work.{Work, Step, next, ◌>>=◌, budget}
use Rattle.definition.specs.Bounds.{tighten_upper, tighten_lower}

-- the rest of the row at a corner, c being the term's part: none where another term there is infinite
unfoldable pub rest_of : Float → ℕ → Float → Option Float
rest_of s ninf c =
    choose (is_finite c) (choose (eqb ninf 0) (some (s ⊖ c)) none) (choose (eqb ninf 1) (some s) none)

unfoldable pub finite_abs : Float → Float
finite_abs c = choose (is_finite c) (abs c) 0f

module _ (M : Model) where
  -- b: the row's bound there, rest: the rest of the row; m, k: the activity's magnitude and slack at that corner, c the term's part of it.
  -- upper: whether the bound b limits the row from above
  unfoldable pub implied : Bool → ℕ → Row → Float → Float → Float → Float → Term → Option Float → Work → Step
  implied upper r row b m k c t none w = next w
  implied upper r row b m k c t (some rest) w =
      let a = t.coeff in
      let q = (b ⊖ rest) ⊘ a in
      let mag = rhs_mag row b ⊕ maxf (m ⊖ finite_abs c) 0f ⊕ abs (b ⊖ rest) ⊕ row.fold_scale in
      let relax = (budget M r mag ⊕ ROUNDOFF_FLOOR ⊗ m ⊕ k) ⊘ abs a in
      choose (choose (gt a 0f) upper (not upper))
      (tighten_upper M t.var q relax w)
      (tighten_lower M t.var q relax w)

  -- both parts of the term are taken before either side; the activity stays the one from before the loop
  unfoldable pub implied_term : ℕ → Row → Activity → Term → Work → Step
  implied_term r row wact t w =
      let a = t.coeff in
      let cmin = range_min a (at w.wlo t.var) (at w.whi t.var) in
      let cmax = range_max a (at w.wlo t.var) (at w.whi t.var) in
      let first : Step =
      choose (is_finite row.hi)
      (implied true r row row.hi wact.absL wact.slack_l cmin t (rest_of wact.l wact.ninf_l cmin) w)
      (next w) in
      first >>= λ w1.
      choose (is_finite row.lo)
      (implied false r row row.lo wact.absU wact.slack_u cmax t (rest_of wact.u wact.ninf_u cmax) w1)
      (next w1)

  unfoldable pub implied_bounds : ℕ → Row → Activity → List Term → Work → Step
  implied_bounds r row wact [] w = next w
  implied_bounds r row wact (t ∷ ts) w = implied_term r row wact t w >>= λ w1. implied_bounds r row wact ts w1
