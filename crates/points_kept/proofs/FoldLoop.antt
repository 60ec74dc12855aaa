-- `fold_fixed`: what is left of a row after its fixed variables and zero coefficients have left says what the row says, and has no zero coefficient.
use Prim.Native.Nat.{ℕ, zero, suc, ◌+◌, ◌<◌}
use native.Mathlib.Omega.{arith}
use Rattle.std.specs.Prelude.{◌≡◌, ◌&&◌, ltb}
use Rattle.std.proofs.Math.Path.{refl, sym, subst}
use Rattle.std.proofs.Math.Bool.{not}
use Rattle.std.proofs.Math.Option.{Option}
use Rattle.std.proofs.Math.ListN.{length}
use Rattle.floats.specs.Num.{choose, is_finite}
use Rattle.definition.specs.Model.{Model, Row, Binding}
use Rattle.definition.specs.Work.{Work}
use Rattle.definition.specs.Folds.{fold_step, fold_loop, bound?, gives_back, relax_with, relax_binding, given_back, hold_rewrites, fold_fixed}
use Rattle.definition.specs.Choices.{both}
use Rattle.points_kept.specs.PointSet.{PointSet}
use Rattle.points_kept.specs.Terms.{NonZero}
use Rattle.points_kept.proofs.Terms.{all_index}
use Rattle.points_kept.specs.Invariant.{RowOk, GoodW}
use Rattle.points_kept.proofs.FoldStep.{step_ok}
use Rattle.points_kept.specs.Folding.{Folded, Folding}

module _ (M : Model) {Sought : PointSet} (w : Work) (g : GoodW M Sought w) (r : ℕ) where
  pub loop_ok : (row0 : Row) (n : ℕ) (s : ℕ × Row) → (Folding M w g r) row0 n s → (Folding M w g r) row0 0 (fold_loop n w s)
  unfolding fold_loop
  loop_ok row0 zero s f = f
  loop_ok row0 (suc n) s f = loop_ok row0 n (fold_step w s) ((step_ok M w g r) row0 n s f)

  pub looped : (row : Row) (n : ℕ) → n ≡ length row.terms → RowOk M w.elo w.ehi r row → (Folded M w g r) row (fold_loop n w (0, row)).1
  looped row n e o =
      let f = loop_ok row n (0, row) (record { ok = o; left = omega arith; stay = λ j l. absurd (no j l); alive = refl }) in
      record { ok = f.ok; nonzero = all_index NonZero (fold_loop n w (0, row)).1.terms (λ j l. f.stay j (near (fold_loop n w (0, row)) j f.left l)); alive = f.alive }
    where
      no : (j : ℕ) → j < 0 → ⊥
      no j l = omega arith

      near : (s : ℕ × Row) (j : ℕ) → s.0 + 0 ≡ length s.1.terms → j < length s.1.terms → j < s.0
      near s j e l = omega arith

  -- FOLDING keeps the row's invariant
  pub folded_ok : (row : Row) → RowOk M w.elo w.ehi r row → (Folded M w g r) row (fold_fixed M r w row)
  unfolding fold_fixed hold_rewrites relax_binding gives_back relax_with bound? choose
  folded_ok row o =
      let f = looped row (length row.terms) refl o in
      let row1 = (fold_loop (length row.terms) w (0, row)).1 in
      both ((Folded M w g r) row) (ltb (length row.folded) (length row1.folded))
      (subst (λ (q : Option Binding). (Folded M w g r) row
      (choose (bound? (relax_with M w row1 q).binding && not (is_finite (relax_with M w row1 q).lo) && not (is_finite (relax_with M w row1 q).hi))
      (given_back M r w) (relax_with M w row1 q)))
      (sym f.ok.binding)
      (subst (λ (q : Option Binding). (Folded M w g r) row (choose (bound? q && not (is_finite row1.lo) && not (is_finite row1.hi)) (given_back M r w) row1)) (sym f.ok.binding) f))
      f
