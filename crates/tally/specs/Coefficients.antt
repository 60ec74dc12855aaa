-- The coefficient step counts one a term at most, in each row once.
use Prim.Native.Nat.{ℕ, zero, suc, ◌+◌, ◌*◌, ◌≤◌}
use Rattle.std.proofs.Common.{arith}
use Rattle.std.specs.Prelude.{◌≡◌, Bool, length, get_or}
use Rattle.std.proofs.Math.Path.{refl}
use Rattle.std.proofs.Math.Bool.{true, false}
use Rattle.std.specs.Float.Ieee.{Float}
use Rattle.definition.specs.declared.Activity.{Activity}
use Rattle.definition.specs.Model.{Model, Row}
use Rattle.definition.specs.Work.{Work, no_row}
use Rattle.definition.specs.Activities.{activity}
use Rattle.definition.specs.Rewrites.{Form, le_form, ge_form, no_form, form_of, vacuous_room}
use Rattle.definition.specs.Tighten.{Rewriting, queued, rewrite_step, rewrite_loop, tighten_form, tighten_by, tighten_row, tighten_from, tighten_binary_coeffs}
use Rattle.definition.specs.Choices.{both, taking}
use Rattle.rows_kept.specs.Kept.{Sided, le, ge, tightened}
use Rattle.rows_kept.proofs.RowSteps.{changed_kept}
use Rattle.tally.specs.Tallied.{RowShort, Tallied, rewrites_one, recount, more, queue_one, change_one}
use Rattle.tally.specs.Rows.{AllShort, short_kept}

module _ (M : Model) {n k : ℕ} where
  queue_row : {b : ℕ} (r : ℕ) (w : Work) → Tallied n k b w → Tallied n k b (queued r w)
  unfolding queued
  queue_row {b} r w p = taking (Tallied n k b) _ (λ t. p) (λ f. queue_one r f p)

  rewrite_one : {b : ℕ} (f : Form) (nz : Float) (r i : ℕ) (s : Rewriting) → Tallied n k b s.work → Tallied n k (suc b) (rewrite_step M f nz r i s).work
  unfolding rewrite_step
  rewrite_one {b} f nz r i s p =
      let Q : Rewriting → Type 0 = λ x. Tallied n k (suc b) x.work in
      let q : Tallied n k b (queued r s.work) = queue_row r s.work p in
      both Q _ (more (omega arith) p) (both Q _ (more (omega arith) q) (recount rewrites_one q))

  rewrite_all : {b c : ℕ} (m : ℕ) (f : Form) (nz : Float) (r i : ℕ) (s : Rewriting) → b + m ≤ c → Tallied n k b s.work → Tallied n k c (rewrite_loop M m f nz r i s).work
  unfolding rewrite_loop
  rewrite_all zero f nz r i s h p = more (omega arith) p
  rewrite_all {b = b} (suc m) f nz r i s h p = rewrite_all {b = suc b} m f nz r (suc i) _ (omega arith) (rewrite_one f nz r i s p)

module _ (M : Model) (A : AllShort M) {n k : ℕ} where
  form_all : {b : ℕ} (f : Form) (r : ℕ) (row : Row) (w : Work) (changed : Bool) → form_of row ≡ f → Sided f → RowShort row → Tallied n k b w
      → Tallied n k (b + 65536) (tighten_form M f r row w changed).0
  unfolding tighten_form
  form_all {b} f r row w changed e sided s p =
      let act : Activity = activity M w row true in
      let nz : Float = vacuous_room f row act in
      let s0 : Rewriting = record { row = row; act = act; work = w; changed = changed; broke = false } in
      let z : RowShort (rewrite_loop M (length row.terms) f nz r 0 s0).row = changed_kept M (short_kept M A r) (tightened e sided (length row.terms) 0 nz s0 refl) s in
      both (λ (x : Work × Bool). Tallied n k (b + 65536) x.0) _ (more (omega arith) p)
      (change_one r _ z (rewrite_all M (length row.terms) f nz r 0 s0 (omega arith) p))

  by_all : {b : ℕ} (f : Form) (r : ℕ) (row : Row) (w : Work) (changed : Bool) → form_of row ≡ f → RowShort row → Tallied n k b w → Tallied n k (b + 65536) (tighten_by M f r row w changed).0
  unfolding tighten_by
  by_all le_form r row w changed e s p = form_all le_form r row w changed e le s p
  by_all ge_form r row w changed e s p = form_all ge_form r row w changed e ge s p
  by_all no_form r row w changed e s p = more (omega arith) p

  row_all : {b : ℕ} (r : ℕ) (w : Work) (changed : Bool) → Tallied n k b w → Tallied n k (b + 65536) (tighten_row M r w changed).0
  unfolding tighten_row
  row_all {b} r w changed p =
      both (λ (x : Work × Bool). Tallied n k (b + 65536) x.0) _ (by_all (form_of (get_or w.rows r no_row)) r (get_or w.rows r no_row) _ changed refl (p.short r) p) (more (omega arith) p)

  from_all : {b c : ℕ} (m r : ℕ) (w : Work) (changed : Bool) → b + m * 65536 ≤ c → Tallied n k b w → Tallied n k c (tighten_from M m r w changed).0
  unfolding tighten_from
  from_all zero r w changed h p = more (omega arith) p
  from_all {b = b} (suc m) r w changed h p = from_all {b = b + 65536} m (suc r) _ _ (omega arith) (row_all r w changed p)

  pub tighten_all : {b c : ℕ} (w : Work) → b + n * 65536 ≤ c → Tallied n k b w → Tallied n k c (tighten_binary_coeffs M w).0
  unfolding tighten_binary_coeffs
  tighten_all w h p = from_all (length w.rows) 0 w false (omega (arith, p.rowses)) p
