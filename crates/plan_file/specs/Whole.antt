-- THE LINES of a file: `refused` and its number where the reader or the table refuses it; else what the plan breaks first and the largest excursion. The plan is what
-- the file has as its objective.
use Rattle.std.specs.Prelude.{ℕ, ◌≡◌, List, Result, Ok, Err}
use Rattle.std.proofs.Common.{sym, ap, ◌∙◌}
use Rattle.definition.specs.Model.{Model}
use Rattle.model_file.specs.Format.{decode}
use Rattle.refuse.specs.declared.Refusal.{Refusal}
use Rattle.refuse.specs.Number.{number_of}
use Rattle.plan.specs.declared.Check.{Check}
use Rattle.plan.specs.Of.{answer_is}
use Rattle.plan.specs.Refusal.{Answer, refused, said, plan_answer}
use Rattle.print_result.specs.Text.{refused_line, check_text}
use Rattle.presolve_file.specs.Whole.{told}

unfoldable pub answer_lines : Answer → List ℕ
answer_lines (refused k) = refused_line k
answer_lines (said c) = check_text c

unfoldable pub model_lines : Model → List ℕ
model_lines M = answer_lines (plan_answer M M.obj)

unfoldable pub plan_text : List ℕ → List ℕ
plan_text s = told model_lines (decode s)

-- ---- what the code answers, and what it prints of it
module _ (M : Model) {y : Result Check Refusal} (t : answer_is y ≡ plan_answer M M.obj) where
  pub lines_said : {c : Check} → y ≡ Ok c → check_text c ≡ model_lines M
  unfolding model_lines answer_lines
  lines_said e = ap answer_lines (sym (ap answer_is e) ∙ t)

  pub lines_refused : {k : Refusal} {n : ℕ} → y ≡ Err k → n ≡ number_of k → refused_line n ≡ model_lines M
  unfolding model_lines answer_lines
  lines_refused {k} e f = ap refused_line f ∙ ap answer_lines (sym (ap answer_is e) ∙ t)
