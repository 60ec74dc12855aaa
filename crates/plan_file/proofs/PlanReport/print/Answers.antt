-- What the check says is printed.
use Rattle.std.proofs.Common.{◌∙◌, ap, List, ℕ}
use Rattle.definition.specs.Of.{input_model}
use Rattle.print_result.specs.Printing.{printed}
use Rattle.plan_file.specs.Whole.{lines_said, lines_refused}
use Rattle.plan_file.proofs.PlanReport.print.Goals as goal

pub returns-in-Ok : goal.returns-in-Ok
returns-in-Ok c = c.print_check.ensures ∙ ap (λ (t : List ℕ). printed t c.args.out.now) (lines_said (input_model c.args.model) c.check_plan.ensures c.in-Ok.is)

pub returns-in-Err : goal.returns-in-Err
returns-in-Err c =
    c.print_refusal.ensures ∙ ap (λ (t : List ℕ). printed t c.args.out.now) (lines_refused (input_model c.args.model) c.check_plan.ensures c.in-Err.is c.from.ensures)
