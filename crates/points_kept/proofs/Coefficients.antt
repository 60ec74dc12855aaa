-- `tighten_binary_coeffs`: either a coefficient is counted as rewritten, or the invariant is kept.
use Prim.Native.Nat.{ℕ, zero, suc, ◌<◌}
use Rattle.std.proofs.Common.{arith, sym}
use Rattle.std.proofs.Math.Path.{subst}
use Rattle.std.specs.Prelude.{Bool, true, ◌&&◌, length, Float}
use Rattle.std.proofs.Math.Logic.{inl, inr}
use Rattle.std.proofs.Math.Bool.{false}
use Rattle.std.proofs.Math.Dec.{T}
use Rattle.std.proofs.Math.ListN.{get_or}
use Rattle.definition.specs.Model.{Model, nnz, Row, as_written}
use Rattle.definition.specs.Work.{Work, with_row, no_row}
use Rattle.definition.specs.Folds.{given_back}
use Rattle.definition.specs.Rewrites.{Form, le_form, ge_form, no_form, form_of}
use Rattle.definition.specs.Tighten.{tighten_by, Rewriting, queued, rewrite_step, rewrite_loop, tighten_form, tighten_row, tighten_from, tighten_binary_coeffs}
use Rattle.points_kept.specs.PointSet.{PointSet}
use Rattle.points_kept.specs.Statements.{PureInteger}
use Rattle.definition.specs.Choices.{both}
use Rattle.definition.specs.Tests.{never, and, taking}
use Rattle.points_kept.specs.Invariant.{RowOk, GoodW}
use Rattle.points_kept.proofs.Invariant.{set_row}
use Rattle.points_kept.specs.Folding.{Folded}
use Rattle.points_kept.proofs.FoldLoop.{looped}
use Rattle.points_kept.proofs.Written.{as_written_ok, written_length}
use Rattle.points_kept.proofs.Waves.{in_range}
use Rattle.points_kept.specs.Coefficients.{Ok, OkP, RW, Up}

module _ (M : Model) (Sought : PointSet) (pure : PureInteger M) where
  pub given_back_ok : (w : Work) (g : GoodW M Sought w) (r : ℕ) → r < length M.rhs → Folded M w g r (as_written M r) (given_back M r w)
  unfolding given_back
  given_back_ok w g r h = looped M w g r (as_written M r) (nnz M r) (unfold as_written in (sym (written_length M pure r h))) (as_written_ok M pure w.elo w.ehi r h)

  pub queued_good : (r : ℕ) (w : Work) → GoodW M Sought w → GoodW M Sought (queued r w)
  unfolding queued
  queued_good r w g = both (GoodW M Sought) (get_or w.dirty r true) g g

  pub queued_count : (r : ℕ) (w : Work) → 0 < w.counts.coeffsTightened → 0 < (queued r w).counts.coeffsTightened
  unfolding queued
  queued_count r w h = both (λ (x : Work). 0 < x.counts.coeffsTightened) (get_or w.dirty r true) h h

  pub step_ok : (f : Form) (nz : Float) (r i : ℕ) (s : Rewriting) → r < length M.rhs → (RW M Sought pure) r s → (RW M Sought pure) r (rewrite_step M f nz r i s)
  unfolding rewrite_step
  step_ok f nz r i s hr h =
      both ((RW M Sought pure) r) _ h (both ((RW M Sought pure) r) _ (back h) (inr (omega arith)))
    where
      alive_back : (w : Work) (g : GoodW M Sought w) → T (given_back M r w).alive
      alive_back w g = subst T (sym (given_back_ok w g r hr).alive) (unfold as_written in tt)

      back : (RW M Sought pure) r s → (RW M Sought pure) r (record { row = given_back M r (queued r s.work); act = s.act; work = queued r s.work; changed = true; broke = true })
      back (inl o) =
          let g = queued_good r s.work o.good in
          inl (record { good = g; ok = (given_back_ok (queued r s.work) g r hr).ok; alive = alive_back (queued r s.work) g })
      back (inr p) = inr (queued_count r s.work p)

  pub loop_ok : (n : ℕ) (f : Form) (nz : Float) (r i : ℕ) (s : Rewriting) → r < length M.rhs → (RW M Sought pure) r s → (RW M Sought pure) r (rewrite_loop M n f nz r i s)
  unfolding rewrite_loop
  loop_ok zero f nz r i s hr h = h
  loop_ok (suc n) f nz r i s hr h = loop_ok n f nz r (suc i) (rewrite_step M f nz r i s) hr (step_ok f nz r i s hr h)

  pub form_ok : (f : Form) (r : ℕ) (row : Row) (w : Work) (c : Bool) → r < length M.rhs → GoodW M Sought w → RowOk M w.elo w.ehi r row → T row.alive → (OkP M Sought pure) (tighten_form M f r row w c)
  unfolding tighten_form
  form_ok f r row w c hr g o a =
      both (OkP M Sought pure) _ (inl g) (put _ (loop_ok (length row.terms) f _ r 0 _ hr (inl (record { good = g; ok = o; alive = a }))))
    where
      put : (s : Rewriting) → (RW M Sought pure) r s → Ok M Sought (with_row r s.row s.work)
      put s (inl k) = inl (set_row M s.work.wlo s.work.whi s.work.elo s.work.ehi s.work.rows r s.row hr k.good
          (record { alive = λ t. k.ok; dead = λ t. absurd (never s.row.alive t k.alive) }))
      put s (inr p) = inr p

  -- a count once above 0 stays so
  pub count_step_lem : (f : Form) (nz : Float) (r i : ℕ) (s : Rewriting) → 0 < s.work.counts.coeffsTightened → 0 < (rewrite_step M f nz r i s).work.counts.coeffsTightened
  unfolding rewrite_step
  count_step_lem f nz r i s h =
      both (λ (x : Rewriting). 0 < x.work.counts.coeffsTightened) _ h (both (λ (x : Rewriting). 0 < x.work.counts.coeffsTightened) _ (queued_count r s.work h) (omega arith))

  pub count_loop : (n : ℕ) (f : Form) (nz : Float) (r i : ℕ) (s : Rewriting) → 0 < s.work.counts.coeffsTightened → 0 < (rewrite_loop M n f nz r i s).work.counts.coeffsTightened
  unfolding rewrite_loop
  count_loop zero f nz r i s h = h
  count_loop (suc n) f nz r i s h = count_loop n f nz r (suc i) (rewrite_step M f nz r i s) (count_step_lem f nz r i s h)

  pub count_form : (f : Form) (r : ℕ) (row : Row) (w : Work) (c : Bool) → 0 < w.counts.coeffsTightened → (Up M Sought pure) (tighten_form M f r row w c)
  unfolding tighten_form
  count_form f r row w c h = both (Up M Sought pure) _ h (count_loop (length row.terms) f _ r 0 _ h)

  pub by_ok : (f : Form) (r : ℕ) (row : Row) (w : Work) (c : Bool) → r < length M.rhs → GoodW M Sought w → RowOk M w.elo w.ehi r row → T row.alive → (OkP M Sought pure) (tighten_by M f r row w c)
  unfolding tighten_by
  by_ok le_form r row w c hr g o a = form_ok le_form r row w c hr g o a
  by_ok ge_form r row w c hr g o a = form_ok ge_form r row w c hr g o a
  by_ok no_form r row w c hr g o a = inl g

  pub count_by_lem : (f : Form) (r : ℕ) (row : Row) (w : Work) (c : Bool) → 0 < w.counts.coeffsTightened → (Up M Sought pure) (tighten_by M f r row w c)
  unfolding tighten_by
  count_by_lem le_form r row w c h = count_form le_form r row w c h
  count_by_lem ge_form r row w c h = count_form ge_form r row w c h
  count_by_lem no_form r row w c h = h

  pub row_ok : (r : ℕ) (w : Work) (c : Bool) → Ok M Sought w → (OkP M Sought pure) (tighten_row M r w c)
  unfolding tighten_row
  row_ok r w c (inl g) =
      let row = get_or w.rows r no_row in
      taking (OkP M Sought pure) (row.alive && get_or w.coeff_dirty r false)
      (λ t.
      let a = (and row.alive _ t).0 in
      let h = in_range M r w g a in
      by_ok (form_of row) r row _ c h g ((g.row r h).alive a) a)
      (λ t. inl g)
  row_ok r w c (inr p) =
      let row = get_or w.rows r no_row in
      both (OkP M Sought pure) (row.alive && get_or w.coeff_dirty r false) (inr (count_by_lem (form_of row) r row _ c p)) (inr p)

  pub from_ok : (n r : ℕ) (w : Work) (c : Bool) → Ok M Sought w → (OkP M Sought pure) (tighten_from M n r w c)
  unfolding tighten_from
  from_ok zero r w c h = h
  from_ok (suc n) r w c h = from_ok n (suc r) (tighten_row M r w c).0 (tighten_row M r w c).1 (row_ok r w c h)

  -- THE COEFFICIENT STEP
  pub coeffs_ok : (w : Work) → Ok M Sought w → (OkP M Sought pure) (tighten_binary_coeffs M w)
  unfolding tighten_binary_coeffs
  coeffs_ok w h = from_ok (length w.rows) 0 w false h
