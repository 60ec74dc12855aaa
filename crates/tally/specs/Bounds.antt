-- What changes bounds: a fixing and a tightened bound count one each, a row's fixings one a term, its implied bounds two a term at most.
use Prim.Native.Nat.{ℕ, zero, suc, ◌+◌, ◌*◌, ◌≤◌}
use Rattle.std.proofs.Common.{arith}
use Rattle.std.proofs.Math.Path.{refl}
use Rattle.std.proofs.Math.Bool.{Bool, true, false}
use mathlib.Core.List.{List, [], ◌∷◌}
use Rattle.std.proofs.Math.Option.{Option, none, some}
use Rattle.std.specs.Prelude.{length, Float}
use Rattle.tolerances.specs.Tol.{Term}
use Rattle.definition.specs.declared.Activity.{Activity}
use Rattle.definition.specs.Model.{Model, Row}
use Rattle.definition.specs.Work.{Work}
use Rattle.definition.specs.Marks.{mark_row, adjacent, mark_from, mark_var}
use Rattle.definition.specs.Bounds.{fix, mark_tightened, emit_bounds, upper_int, upper_real, tighten_upper, lower_int, lower_real, tighten_lower}
use Rattle.definition.specs.Singles.{singleton_int, singleton_bounds}
use Rattle.definition.specs.Forcing.{fix_all}
use Rattle.definition.specs.Implied.{implied, implied_term, implied_bounds}
use Rattle.definition.specs.Dual.{dual_var, dual_from, dual_fix}
use Rattle.definition.specs.Rounds.{dual_step}
use Rattle.definition.specs.Choices.{both, taking}
use Rattle.rows_kept.specs.Steps.{Each, stopped, went}
use Rattle.rows_kept.proofs.Steps.{then}
use Rattle.tally.specs.Tallied.{Tallied, tightens_one, fixes_one, recount, more, queue_one}

module _ (M : Model) {n k : ℕ} where
  -- ---- marks count nothing
  mark_row_lem : {b : ℕ} (r : ℕ) (w : Work) → Tallied n k b w → Tallied n k b (mark_row r w)
  unfolding mark_row
  mark_row_lem {b} r w p = taking (Tallied n k b) _ (λ t. p) (λ f. queue_one r f p)

  mark_from_lem : {b : ℕ} (m r v : ℕ) (w : Work) → Tallied n k b w → Tallied n k b (mark_from M m r v w)
  unfolding mark_from
  mark_from_lem zero r v w p = p
  mark_from_lem {b} (suc m) r v w p = mark_from_lem m (suc r) v _ (both (Tallied n k b) (adjacent M v r) (mark_row_lem r w p) p)

  mark_var_lem : {b : ℕ} (v : ℕ) (w : Work) → Tallied n k b w → Tallied n k b (mark_var M v w)
  unfolding mark_var
  mark_var_lem v w p = mark_from_lem (length M.rhs) 0 v w p

  -- ---- one more
  mark_tightened_lem : {b : ℕ} (v : ℕ) (w : Work) → Tallied n k b w → Tallied n k (suc b) (mark_tightened M v w)
  unfolding mark_tightened
  mark_tightened_lem v w p = mark_var_lem v _ (recount tightens_one p)

  fix_one : {b : ℕ} (v : ℕ) (x : Float) (w : Work) → Tallied n k b w → Tallied n k (suc b) (fix M v x w)
  unfolding fix
  fix_one v x w p = mark_var_lem v _ (recount fixes_one p)

  emit_one : {b : ℕ} (v : ℕ) (lo hi : Float) (w : Work) → Tallied n k b w → Tallied n k (suc b) (emit_bounds M v lo hi w)
  unfolding emit_bounds
  emit_one {b} v lo hi w p = both (Tallied n k (suc b)) _ (mark_tightened_lem v w p) (more (omega arith) p)

  -- ---- implied bounds
  upper_int_lem : {b : ℕ} (v : ℕ) (qi : Float) (w : Work) → Tallied n k b w → Each (Tallied n k (suc b)) (upper_int M v qi w)
  unfolding upper_int
  upper_int_lem {b} v qi w p =
      let q : Tallied n k (suc b) w = more (omega arith) p in
      both (Each (Tallied n k (suc b))) _ (both (Each (Tallied n k (suc b))) _ (stopped w refl q) (went (mark_tightened_lem v _ p))) (went q)

  lower_int_lem : {b : ℕ} (v : ℕ) (qi : Float) (w : Work) → Tallied n k b w → Each (Tallied n k (suc b)) (lower_int M v qi w)
  unfolding lower_int
  lower_int_lem {b} v qi w p =
      let q : Tallied n k (suc b) w = more (omega arith) p in
      both (Each (Tallied n k (suc b))) _ (both (Each (Tallied n k (suc b))) _ (stopped w refl q) (went (mark_tightened_lem v _ p))) (went q)

  upper_real_lem : {b : ℕ} (v : ℕ) (nq : Float) (w : Work) → Tallied n k b w → Each (Tallied n k (suc b)) (upper_real M v nq w)
  unfolding upper_real
  upper_real_lem {b} v nq w p =
      let q : Tallied n k (suc b) w = more (omega arith) p in
      both (Each (Tallied n k (suc b))) _
      (both (Each (Tallied n k (suc b))) _ (both (Each (Tallied n k (suc b))) _ (stopped w refl q) (went q)) (went (mark_tightened_lem v _ p)))
      (went q)

  lower_real_lem : {b : ℕ} (v : ℕ) (nq : Float) (w : Work) → Tallied n k b w → Each (Tallied n k (suc b)) (lower_real M v nq w)
  unfolding lower_real
  lower_real_lem {b} v nq w p =
      let q : Tallied n k (suc b) w = more (omega arith) p in
      both (Each (Tallied n k (suc b))) _
      (both (Each (Tallied n k (suc b))) _ (both (Each (Tallied n k (suc b))) _ (stopped w refl q) (went q)) (went (mark_tightened_lem v _ p)))
      (went q)

  upper_one : {b : ℕ} (v : ℕ) (q relax : Float) (w : Work) → Tallied n k b w → Each (Tallied n k (suc b)) (tighten_upper M v q relax w)
  unfolding tighten_upper
  upper_one {b} v q relax w p =
      both (Each (Tallied n k (suc b))) _ (both (Each (Tallied n k (suc b))) _ (upper_int_lem v _ w p) (upper_real_lem v _ w p)) (went (more (omega arith) p))

  lower_one : {b : ℕ} (v : ℕ) (q relax : Float) (w : Work) → Tallied n k b w → Each (Tallied n k (suc b)) (tighten_lower M v q relax w)
  unfolding tighten_lower
  lower_one {b} v q relax w p =
      both (Each (Tallied n k (suc b))) _ (both (Each (Tallied n k (suc b))) _ (lower_int_lem v _ w p) (lower_real_lem v _ w p)) (went (more (omega arith) p))

  implied_one : {b : ℕ} (upper : Bool) (r : ℕ) (row : Row) (x m s c : Float) (t : Term) (o : Option Float) (w : Work) → Tallied n k b w
      → Each (Tallied n k (suc b)) (implied M upper r row x m s c t o w)
  unfolding implied
  implied_one upper r row x m s c t none w p = went (more (omega arith) p)
  implied_one {b} upper r row x m s c t (some rest) w p = both (Each (Tallied n k (suc b))) _ (upper_one t.var _ _ w p) (lower_one t.var _ _ w p)

  -- from each side of the row
  implied_two : {b : ℕ} (r : ℕ) (row : Row) (act : Activity) (t : Term) (w : Work) → Tallied n k b w → Each (Tallied n k (suc (suc b))) (implied_term M r row act t w)
  unfolding implied_term
  implied_two {b} r row act t w p =
      then (both (Each (Tallied n k (suc b))) _ (implied_one true r row _ _ _ _ t _ w p) (went (more (omega arith) p))) (λ x q. more (omega arith) q)
      (λ x q. both (Each (Tallied n k (suc (suc b)))) _ (implied_one false r row _ _ _ _ t _ x q) (went (more (omega arith) q)))

  pub implied_all : {b c : ℕ} (r : ℕ) (row : Row) (act : Activity) (ts : List Term) (w : Work) → b + 2 * length ts ≤ c → Tallied n k b w → Each (Tallied n k c) (implied_bounds M r row act ts w)
  unfolding implied_bounds
  implied_all r row act [] w h p = went (more (omega arith) p)
  implied_all r row act (t ∷ ts) w h p = then (implied_two r row act t w p) (λ x q. more (omega arith) q) (λ x q. implied_all r row act ts x (omega arith) q)

  -- ---- a singleton's bounds
  singleton_int_lem : {b : ℕ} (r : ℕ) (row : Row) (v : ℕ) (a blo bhi : Float) (w : Work) → Tallied n k b w → Each (Tallied n k (suc b)) (singleton_int M r row v a blo bhi w)
  unfolding singleton_int
  singleton_int_lem {b} r row v a blo bhi w p = both (Each (Tallied n k (suc b))) _ (stopped w refl (more (omega arith) p)) (went (emit_one v _ _ w p))

  pub singleton_one : {b : ℕ} (r : ℕ) (row : Row) (v : ℕ) (a blo bhi : Float) (w : Work) → Tallied n k b w → Each (Tallied n k (suc b)) (singleton_bounds M r row v a blo bhi w)
  unfolding singleton_bounds
  singleton_one {b} r row v a blo bhi w p =
      let q : Tallied n k (suc b) w = more (omega arith) p in
      both (Each (Tallied n k (suc b))) _ (singleton_int_lem r row v a blo bhi w p) (both (Each (Tallied n k (suc b))) _ (stopped w refl q) (went q))

  -- ---- forcing
  pub fix_all_lem : {b c : ℕ} (minCorner : Bool) (w0 : Work) (ts : List Term) (w : Work) → b + length ts ≤ c → Tallied n k b w → Tallied n k c (fix_all M minCorner w0 ts w)
  unfolding fix_all
  fix_all_lem minCorner w0 [] w h p = more (omega arith) p
  fix_all_lem {b = b} minCorner w0 (t ∷ ts) w h p = fix_all_lem {b = suc b} minCorner w0 ts _ (omega arith) (fix_one t.var _ w p)

  -- ---- the dual step: one a variable
  dual_var_lem : {b : ℕ} (dec inc : List Bool) (v : ℕ) (w : Work) (changed : Bool) → Tallied n k b w → Tallied n k (suc b) (dual_var M dec inc v w changed).0
  unfolding dual_var
  dual_var_lem {b} dec inc v w changed p =
      let Q : Work × Bool → Type 0 = λ x. Tallied n k (suc b) x.0 in
      let q : Tallied n k (suc b) w = more (omega arith) p in
      both Q _ q (both Q _ (fix_one v _ w p) (both Q _ (fix_one v _ w p) q))

  dual_from_lem : {b c : ℕ} (m : ℕ) (dec inc : List Bool) (v : ℕ) (w : Work) (changed : Bool) → b + m ≤ c → Tallied n k b w → Tallied n k c (dual_from M m dec inc v w changed).0
  unfolding dual_from
  dual_from_lem zero dec inc v w changed h p = more (omega arith) p
  dual_from_lem {b = b} (suc m) dec inc v w changed h p = dual_from_lem {b = suc b} m dec inc (suc v) _ _ (omega arith) (dual_var_lem dec inc v w changed p)

  pub dual_step_lem : {b c : ℕ} (w : Work) → b + length M.lower ≤ c → Tallied n k b w → Tallied n k c (dual_step M w).0
  unfolding dual_step dual_fix
  dual_step_lem {c = c} w h p = both (λ (x : Work × Bool). Tallied n k c x.0) _ (dual_from_lem (length M.lower) _ _ 0 w false h p) (more (omega arith) p)
