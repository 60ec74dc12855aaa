-- The walk over what changes bounds: marks, fixings, tightened bounds, implied bounds. A property that `Bounding` keeps is kept by each.
use Prim.Native.Nat.{ℕ, zero, suc}
use Rattle.std.specs.Prelude.{◌≡◌, ◌&&◌, ◌||◌, length, get_or, set, Float}
use Rattle.std.proofs.Math.Path.{refl, subst₂}
use Rattle.std.proofs.Math.Bool.{Bool, true, false, not}
use mathlib.Core.List.{List, [], ◌∷◌}
use Rattle.std.proofs.Math.Option.{Option, none, some}
use Rattle.std.proofs.Math.Dec.{eqb}
use Rattle.std.specs.Float.Ieee.{neg, lt, le}
use Rattle.floats.specs.Num.{choose, ◌⊖◌, ◌⊗◌, gt, ge, 0f, is_finite, maxf, minf}
use Rattle.tolerances.specs.Tol.{Term, at, ROUNDOFF_FLOOR}
use Rattle.definition.specs.declared.Activity.{Activity}
use Rattle.definition.specs.Model.{Model, is_int, Row}
use Rattle.definition.specs.Work.{Work, with_bounds, stop, next, fixed, budget}
use Rattle.definition.specs.Marks.{mark_row, adjacent, mark_from, mark_var}
use Rattle.definition.specs.Bounds.{fix, mark_tightened, emit_bounds, upper_int, upper_real, tighten_upper, lower_int, lower_real, tighten_lower}
use Rattle.definition.specs.Singles.{new_lower, new_upper, singleton_int, singleton_bounds}
use Rattle.definition.specs.Forcing.{corner, forced_term, all_forced, forcing_at, forces_min, forces_max, fix_all}
use Rattle.definition.specs.Sides.{near_min, near_max, mag_l, mag_u}
use Rattle.definition.specs.Implied.{implied, implied_term, implied_bounds}
use Rattle.definition.specs.Dual.{dual_var, dual_from, dual_fix, may_fall, may_rise}
use Rattle.definition.specs.Choices.{both, taking, and_left, and_right, or_right, not_not}
use Rattle.rows_kept.specs.Steps.{Each, stopped, went}
use Rattle.rows_kept.proofs.Steps.{then}
use Rattle.rows_kept.proofs.Numbers.{lt_left, lt_right, finite_number, max_number, min_number}
use Rattle.rows_kept.specs.Kept.{Marking, Value, of_lower, of_upper, Bounding}
use Rattle.rows_kept.specs.Boxes.{Box, Ints, int_term, no_term}

module _ (M : Model) {P : Work → Type 0} (K : Marking P) where
  pub mark_row_lem : (r : ℕ) (w : Work) → P w → P (mark_row r w)
  unfolding mark_row
  mark_row_lem r w p = both P _ (K.marks w _ _ _ p) (K.marks w _ _ _ p)

  pub mark_from_lem : (n r v : ℕ) (w : Work) → P w → P (mark_from M n r v w)
  unfolding mark_from
  mark_from_lem zero r v w p = p
  mark_from_lem (suc n) r v w p = mark_from_lem n (suc r) v _ (both P (adjacent M v r) (mark_row_lem r w p) p)

  pub mark_var_lem : (v : ℕ) (w : Work) → P w → P (mark_var M v w)
  unfolding mark_var
  mark_var_lem v w p = mark_from_lem (length M.rhs) 0 v w p

  pub mark_tightened_lem : (v : ℕ) (w : Work) → P w → P (mark_tightened M v w)
  unfolding mark_tightened
  mark_tightened_lem v w p = mark_var_lem v _ (K.counted w _ _ _ p)

  -- a bound that may move, as the definition has it: x is the state with it moved. Of an integer variable, and of any other, where a crossing within its tolerance changes nothing
  pub int_moves : (v : ℕ) (w x : Work) (a b : Bool) → P w → P x → Each P (choose a (choose b (stop w.counts) (next (mark_tightened M v x))) (next w))
  int_moves v w x a b p q = both (Each P) a (both (Each P) b (stopped w refl p) (went (mark_tightened_lem v x q))) (went p)

  pub real_moves : (v : ℕ) (w x : Work) (a b c : Bool) → P w → P x → Each P (choose a (choose b (choose c (stop w.counts) (next w)) (next (mark_tightened M v x))) (next w))
  real_moves v w x a b c p q = both (Each P) a (both (Each P) b (both (Each P) c (stopped w refl p) (went p)) (went (mark_tightened_lem v x q))) (went p)

pub boxing : {P : Work → Type 0} {l h : List Float} → Marking P → Marking (Box P l h)
boxing K =
    record {
      marks = λ w d c q p. record { holds = K.marks w d c q p.holds; lower = p.lower; upper = p.upper };
      counted = λ w a b c p. record { holds = K.counted w a b c p.holds; lower = p.lower; upper = p.upper };
    }

module _ (M : Model) (r : ℕ) where
  pub term_int : (sliver mag : Float) (w : Work) (t : Term) → forced_term M r sliver mag w t ≡ true → is_int M t.var ≡ true
  unfolding forced_term
  term_int sliver mag w t e = and_left _ _ (and_left _ _ e)

  pub all_ints : (sliver mag : Float) (w : Work) (ts : List Term) → all_forced M r sliver mag w ts ≡ true → Ints M ts
  unfolding all_forced
  all_ints sliver mag w [] e = no_term
  all_ints sliver mag w (t ∷ ts) e =
      let f : Bool = forced_term M r sliver mag w t in
      let g : Bool = all_forced M r sliver mag w ts in
      int_term (term_int sliver mag w t (and_left f g e)) (all_ints sliver mag w ts (and_right f g e))

  pub at_ints : (sliver mag : Float) (w : Work) (ts : List Term) → forcing_at M r sliver mag w ts ≡ true → Ints M ts
  unfolding forcing_at
  at_ints sliver mag w ts e =
      all_ints sliver mag w ts (and_right (le sliver (ROUNDOFF_FLOOR ⊗ mag) && le (neg sliver) (budget M r mag)) (all_forced M r sliver mag w ts) e)

  pub min_ints : (row : Row) (wact e : Activity) (w : Work) → forces_min M r row wact e w ≡ true → Ints M row.terms
  unfolding forces_min
  min_ints row wact e w h =
      at_ints _ _ w row.terms
      (and_right (near_min M r row wact && eqb e.ninf_l 0) (forcing_at M r (row.hi ⊖ e.l) (mag_l row e) w row.terms) h)

  pub max_ints : (row : Row) (wact e : Activity) (w : Work) → forces_max M r row wact e w ≡ true → Ints M row.terms
  unfolding forces_max
  max_ints row wact e w h =
      at_ints _ _ w row.terms
      (and_right (near_max M r row wact && eqb e.ninf_u 0) (forcing_at M r (e.u ⊖ row.lo) (mag_u row e) w row.terms) h)

module _ (M : Model) {P : Work → Type 0} (K : Bounding M P) where
  pub fix_kept : (v : ℕ) (x : Float) (w : Work) → is_int M v ≡ true → Value P v x → P w → P (fix M v x w)
  unfolding fix
  fix_kept v x w i b p =
      mark_var_lem M K.marking v _
      (K.marking.counted _ _ _ _ (K.works _ _ _ (K.uppers _ v x i b (K.lowers w v x i b p))))

  pub emit_kept : (v : ℕ) (lo hi : Float) (w : Work) → is_int M v ≡ true → Value P v lo → Value P v hi → P w → P (emit_bounds M v lo hi w)
  unfolding emit_bounds
  emit_kept v lo hi w i a b p =
      let B : Work → Type 0 = Box P w.elo w.ehi in
      let p1 : B w = record { holds = p; lower = refl; upper = refl } in
      let t : Bool = gt lo (at w.elo v) || lt hi (at w.ehi v) in
      let w1 : Work = choose t (mark_tightened M v w) w in
      let q : B w1 = both B t (mark_tightened_lem M (boxing K.marking) v w p1) p1 in
      let s : P (with_bounds (set w.wlo v (minf (maxf (at w.wlo v) lo) hi)) (set w.whi v (maxf (minf (at w.whi v) hi) lo)) (set w1.elo v lo) (set w1.ehi v hi) w1) =
      K.works _ _ _ (K.uppers _ v hi i b (K.lowers w1 v lo i a q.holds)) in
      subst₂ (λ (c d : List Float). P (with_bounds (set w.wlo v (minf (maxf (at w.wlo v) lo) hi)) (set w.whi v (maxf (minf (at w.whi v) hi) lo)) (set c v lo) (set d v hi) w1))
      q.lower q.upper s

  -- ---- implied bounds
  pub upper_int_lem : (v : ℕ) (qi : Float) (w : Work) → is_int M v ≡ true → P w → Each P (upper_int M v qi w)
  unfolding upper_int
  upper_int_lem v qi w i p =
      taking (Each P) _
      (λ t. both (Each P) _ (stopped w refl p)
      (went (mark_tightened_lem M K.marking v _ (K.works _ _ _ (K.uppers w v qi i (of_upper w p (λ n. lt_left qi _ t)) p)))))
      (λ t. went p)

  pub lower_int_lem : (v : ℕ) (qi : Float) (w : Work) → is_int M v ≡ true → P w → Each P (lower_int M v qi w)
  unfolding lower_int
  lower_int_lem v qi w i p =
      taking (Each P) _
      (λ t. both (Each P) _ (stopped w refl p)
      (went (mark_tightened_lem M K.marking v _ (K.works _ _ _ (K.lowers w v qi i (of_lower w p (λ n. lt_right _ qi t)) p)))))
      (λ t. went p)

  pub upper_real_lem : (v : ℕ) (nq : Float) (w : Work) → P w → Each P (upper_real M v nq w)
  unfolding upper_real
  upper_real_lem v nq w p = real_moves M K.marking v w _ _ _ _ p (K.works w _ _ p)

  pub lower_real_lem : (v : ℕ) (nq : Float) (w : Work) → P w → Each P (lower_real M v nq w)
  unfolding lower_real
  lower_real_lem v nq w p = real_moves M K.marking v w _ _ _ _ p (K.works w _ _ p)

  pub upper_kept : (v : ℕ) (q relax : Float) (w : Work) → P w → Each P (tighten_upper M v q relax w)
  unfolding tighten_upper
  upper_kept v q relax w p = both (Each P) _ (taking (Each P) _ (λ i. upper_int_lem v _ w i p) (λ i. upper_real_lem v _ w p)) (went p)

  pub lower_kept : (v : ℕ) (q relax : Float) (w : Work) → P w → Each P (tighten_lower M v q relax w)
  unfolding tighten_lower
  lower_kept v q relax w p = both (Each P) _ (taking (Each P) _ (λ i. lower_int_lem v _ w i p) (λ i. lower_real_lem v _ w p)) (went p)

  pub implied_kept : (upper : Bool) (r : ℕ) (row : Row) (b m k c : Float) (t : Term) (o : Option Float) (w : Work) → P w → Each P (implied M upper r row b m k c t o w)
  unfolding implied
  implied_kept upper r row b m k c t none w p = went p
  implied_kept upper r row b m k c t (some rest) w p = both (Each P) _ (upper_kept t.var _ _ w p) (lower_kept t.var _ _ w p)

  pub term_kept : (r : ℕ) (row : Row) (act : Activity) (t : Term) (w : Work) → P w → Each P (implied_term M r row act t w)
  unfolding implied_term
  term_kept r row act t w p =
      then (both (Each P) _ (implied_kept true r row _ _ _ _ t _ w p) (went p)) (λ x q. q)
      (λ x q. both (Each P) _ (implied_kept false r row _ _ _ _ t _ x q) (went q))

  pub implied_bounds_lem : (r : ℕ) (row : Row) (act : Activity) (ts : List Term) (w : Work) → P w → Each P (implied_bounds M r row act ts w)
  unfolding implied_bounds
  implied_bounds_lem r row act [] w p = went p
  implied_bounds_lem r row act (t ∷ ts) w p = then (term_kept r row act t w p) (λ x q. q) (λ x q. implied_bounds_lem r row act ts x q)

  -- ---- a singleton's bounds
  pub new_lower_lem : (r : ℕ) (row : Row) (a blo : Float) (v : ℕ) (w : Work) → P w → Value P v (new_lower M r row a blo (at w.elo v))
  unfolding new_lower
  new_lower_lem r row a blo v w p = both (Value P v) _ (of_lower w p (λ n. max_number _ _ n)) (of_lower w p (λ n. n))

  pub new_upper_lem : (r : ℕ) (row : Row) (a bhi : Float) (v : ℕ) (w : Work) → P w → Value P v (new_upper M r row a bhi (at w.ehi v))
  unfolding new_upper
  new_upper_lem r row a bhi v w p = both (Value P v) _ (of_upper w p (λ n. min_number _ _ n)) (of_upper w p (λ n. n))

  pub singleton_int_lem : (r : ℕ) (row : Row) (v : ℕ) (a blo bhi : Float) (w : Work) → is_int M v ≡ true → P w → Each P (singleton_int M r row v a blo bhi w)
  unfolding singleton_int
  singleton_int_lem r row v a blo bhi w i p =
      both (Each P) _ (stopped w refl p) (went (emit_kept v _ _ w i (new_lower_lem r row a blo v w p) (new_upper_lem r row a bhi v w p) p))

  pub singleton_bounds_lem : (r : ℕ) (row : Row) (v : ℕ) (a blo bhi : Float) (w : Work) → P w → Each P (singleton_bounds M r row v a blo bhi w)
  unfolding singleton_bounds
  singleton_bounds_lem r row v a blo bhi w p =
      taking (Each P) _ (λ i. singleton_int_lem r row v a blo bhi w i p) (λ i. both (Each P) _ (stopped w refl p) (went p))

  -- ---- forcing: the value is a bound of the state before
  pub corner_value : (minCorner : Bool) (w0 : Work) (t : Term) → P w0 → Value P t.var (corner minCorner w0 t)
  unfolding corner
  corner_value minCorner w0 t p = both (Value P t.var) _ (of_upper w0 p (λ n. n)) (of_lower w0 p (λ n. n))

  pub fix_all_lem : (minCorner : Bool) (w0 : Work) (ts : List Term) (w : Work) → Ints M ts → P w0 → P w → P (fix_all M minCorner w0 ts w)
  unfolding fix_all
  fix_all_lem minCorner w0 [] w no_term p q = q
  fix_all_lem minCorner w0 (t ∷ ts) w (int_term i is) p q = fix_all_lem minCorner w0 ts _ is p (fix_kept t.var _ w i (corner_value minCorner w0 t p) q)

  -- ---- the dual step
  pub fall_finite : (dec : List Bool) (v : ℕ) (w : Work) → may_fall M dec v w ≡ true → is_finite (at w.wlo v) ≡ true
  unfolding may_fall
  fall_finite dec v w e = and_right (ge (at M.obj v) 0f && not (get_or dec v true)) _ e

  pub rise_finite : (inc : List Bool) (v : ℕ) (w : Work) → may_rise M inc v w ≡ true → is_finite (at w.whi v) ≡ true
  unfolding may_rise
  rise_finite inc v w e = and_right (le (at M.obj v) 0f && not (get_or inc v true)) _ e

  pub dual_var_lem : (dec inc : List Bool) (v : ℕ) (w : Work) (changed : Bool) → P w → P (dual_var M dec inc v w changed).0
  unfolding dual_var
  dual_var_lem dec inc v w changed p =
      let Q : Work × Bool → Type 0 = λ x. P x.0 in
      taking Q _ (λ t. p)
      (λ t. let i : is_int M v ≡ true = not_not (is_int M v) (or_right (fixed w v) (not (is_int M v)) t) in
      taking Q _ (λ f. fix_kept v _ w i (of_lower w p (λ n. finite_number _ (fall_finite dec v w f))) p)
      (λ f. taking Q _ (λ g. fix_kept v _ w i (of_upper w p (λ n. finite_number _ (rise_finite inc v w g))) p) (λ g. p)))

  pub dual_from_lem : (n : ℕ) (dec inc : List Bool) (v : ℕ) (w : Work) (changed : Bool) → P w → P (dual_from M n dec inc v w changed).0
  unfolding dual_from
  dual_from_lem zero dec inc v w changed p = p
  dual_from_lem (suc n) dec inc v w changed p = dual_from_lem n dec inc (suc v) _ _ (dual_var_lem dec inc v w changed p)

  pub dual_fix_lem : (w : Work) → P w → P (dual_fix M w).0
  unfolding dual_fix
  dual_fix_lem w p = dual_from_lem (length M.lower) _ _ 0 w false p
