-- The loop over the rows that go out: the ways that a row goes, and the walk over them.
use Prim.Native.Nat.{ℕ, zero, suc, ◌+◌}
use Rattle.std.proofs.Math.Nat.{add-zero}
use Rattle.std.proofs.Common.{add-suc, suc-add}
use Rattle.std.specs.Prelude.{◌≡◌, refl, true, false}
use Rattle.definition.specs.declared.Counts.{Counts}
use Rattle.definition.specs.Model.{Model}
use Rattle.definition.specs.Work.{Work, Step, drop_row, trivial}
use Rattle.definition.specs.Singles.{empty_row_check}
use Rattle.definition.specs.Emit.{Out, Final, fails, final, out_row, out_empty, out_alive, out_one, out_from}
use Rattle.definition.specs.Choices.{both, taking}
use Rattle.rows_kept.specs.Kept.{folded, Rowing}
use Rattle.rows_kept.proofs.RowSteps.{changed_alive}
use Rattle.rows_kept.proofs.Waves.{get_set}
use Rattle.rows_kept.specs.Outs.{Ends, Goes, Going, after_fold, before, emptied, ended, failed, given, last_fold, missed, rewrites, row_at, skipped}

module _ (M : Model) (r : ℕ) (w : Work) (o : Out) (nt : trivial M r ≡ false) (a : (row_at r w).alive ≡ true) where
  pub row_goes : Goes M r w o (final (after_fold M r w) (out_row M r (last_fold M r w) o))
  unfolding out_row
  row_goes =
      let H : Out → Type 0 = λ x. Goes M r w o (final (after_fold M r w) x) in
      taking H _ (λ t. taking H _ (λ f. rewrites nt a t f) (λ f. given nt a)) (λ t. given nt a)

  pub empty_goes : Goes M r w o (out_empty M r o (empty_row_check M r (last_fold M r w) (after_fold M r w)))
  unfolding out_empty empty_row_check
  empty_goes = both (λ (s : Step). Goes M r w o (out_empty M r o s)) _ missed (emptied nt a)

  pub alive_goes : Goes M r w o (out_alive M r (last_fold M r w) w o)
  unfolding out_alive
  alive_goes = both (Goes M r w o) _ empty_goes row_goes

pub one_goes : (M : Model) (r : ℕ) (w : Work) (o : Out) → Goes M r w o (out_one M r (final w o))
unfolding out_one
one_goes M r w o =
    taking (Goes M r w o) _ (λ t. skipped t)
    (λ nt. taking (Goes M r w o) _ (λ a. alive_goes M r w o nt a) (λ a. before nt a))

module _ (M : Model) {I : ℕ → Work → Out → Type 0} (g : Going M I) where
  pub one_ends : (r : ℕ) (w : Work) (o : Out) (s : Final) → Goes M r w o s → I r w o → Ends I (suc r) s
  one_ends r w o (fails k) h i = failed r w o (missed_counts h) i
    where
      missed_counts : {k : Counts} → Goes M r w o (fails k) → w.counts ≡ k
      missed_counts missed = refl
  one_ends r w o (final v x) h i = ended (g r w v o x h i)

  pub step_ends : (r : ℕ) (s : Final) → Ends I r s → Ends I (suc r) (out_one M r s)
  unfolding out_one
  step_ends r (fails k) (failed q w o e i) = failed q w o e i
  step_ends r (final w o) (ended i) = one_ends r w o (out_one M r (final w o)) (one_goes M r w o) i

  pub from_ends : (n r : ℕ) (s : Final) → Ends I r s → Ends I (r + n) (out_from M n r s)
  unfolding out_from
  from_ends zero r s h = rw add-zero h
  from_ends (suc n) r s h = rw (add-suc, ← suc-add) (from_ends n (suc r) (out_one M r s) (step_ends r s h))

-- ---- a property of the state that the steps keep is kept here too
pub goes_kept : (M : Model) {P : Work → Type 0} → Rowing M P → {r : ℕ} {w v : Work} {o x : Out} → Goes M r w o (final v x) → P w → P v
goes_kept M R {r} {w} (skipped t) p = p
goes_kept M R {r} {w} (before t a) p = p
goes_kept M R {r} {w} (emptied t a) p =
    R.drops (after_fold M r w) r (last_fold M r w) (get_set w.rows r _ a) (changed_alive M r (folded w) a) (R.changes w r _ a (folded w) p)
goes_kept M R {r} {w} (given t a) p = R.changes w r _ a (folded w) p
goes_kept M R {r} {w} (rewrites t a c f) p = R.changes w r _ a (folded w) p

pub goes_passes : {M : Model} {r : ℕ} {w v : Work} {o x : Out} → Goes M r w o (final v x) → v.counts.passes ≡ w.counts.passes
unfolding drop_row
goes_passes (skipped t) = refl
goes_passes (before t a) = refl
goes_passes (emptied t a) = refl
goes_passes (given t a) = refl
goes_passes (rewrites t a c f) = refl
