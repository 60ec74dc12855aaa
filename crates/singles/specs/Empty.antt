-- A row of no term, by the ways through the code.
use Rattle.std.specs.Prelude.{ℕ, ◌≡◌, Bool, true, false, Ok, Err}
use Rattle.std.proofs.Common.{◌∙◌}
use Rattle.tolerances.specs.Tol.{violated}
use Rattle.definition.specs.declared.Infeasible.{Infeasible}
use Rattle.definition.specs.Model.{Model, Row, written, op_of, rhs_of}
use Rattle.definition.specs.Work.{Work, drop_row}
use Rattle.definition.specs.Singles.{fixed_value, empty_row_check}
use Rattle.space.specs.declared.Context.{Context}
use Rattle.space.specs.Store.{Floats, Numbers}
use Rattle.view.specs.Inv.{Inv}
use Rattle.view.specs.Lists.{yes, no, either}
use Rattle.view.specs.Acts.{ActsN, Any, Tries}
use Rattle.view.specs.Steps.{InvStep, stops, goes, KeepsStep}
use Rattle.view.specs.Bounds.{went_by, stopped_by}
use Rattle.readers.specs.Reading.{row_of, ReadsF}
use Rattle.bounds.specs.Same.{passes_of, Leaves, halts, same}
use Rattle.bounds.specs.Drop.{inv_drop, drop_passes}

module _ {P : Model → Type 0} {s : Context} {f : Floats} {n : Numbers} (r : ℕ) {b : Bool} (g : ReadsF P s f b (λ M w. violated M.feas (op_of M r) (written M r) (rhs_of M r) (fixed_value w))) where
  pub empty_stop : {e₀ : Infeasible} → b ≡ true → Tries P s f n f n (Err e₀) (λ M w. empty_row_check M r (row_of w r) w)
  unfolding empty_row_check
  empty_stop e = record { does = λ M o k w p c h i. stopped_by {w = w} (yes _ _ (g.reads M n o k w p c h i ∙ e)) h }

  pub empty_drop : {n' : Numbers} → b ≡ false → ActsN Any s n n' (λ M w. drop_row r (row_of w r) w) → Tries P s f n f n' (Ok tt) (λ M w. empty_row_check M r (row_of w r) w)
  unfolding empty_row_check
  empty_drop e t = record { does = λ M o k w p c h i. went_by (no _ _ (g.reads M n o k w p c h i ∙ e)) (t.does M f o k w tt c h i) }

pub inv_empty : {M : Model} {k : ℕ} (r : ℕ) (row : Row) (w : Work) → Inv M k w → InvStep M k (empty_row_check M r row w)
unfolding empty_row_check
inv_empty {M} {k} r row w i = either (InvStep M k) _ (λ e. stops) (λ e. goes (inv_drop r row w i))

pub empty_keeps : {P : Model → Type 0} {s : Context} (r : ℕ) → KeepsStep P s (λ M w. empty_row_check M r (row_of w r) w)
empty_keeps r = record { keeps = λ M k w p c i. inv_empty r (row_of w r) w i }

pub passes_empty : (M : Model) (r : ℕ) (row : Row) (w : Work) → Leaves passes_of w (empty_row_check M r row w)
unfolding empty_row_check
passes_empty M r row w = either (Leaves passes_of w) _ (λ e. halts) (λ e. same (drop_passes r row w))
