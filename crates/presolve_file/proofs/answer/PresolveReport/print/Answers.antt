-- What is printed is the text of the call's answer, which the call's promise fixes.
use Rattle.std.proofs.Common.{◌∙◌, ap, List, ℕ, refl}
use Rattle.print_result.specs.Printing.{printed}
use Rattle.presolve_file.specs.Called.{called_fronts, called_text}
use Rattle.presolve_file.proofs.answer.PresolveReport.print.Goals as goal

pub print_call-requires : goal.print_call-requires
print_call-requires c = called_fronts c.presolve-answer.ensures.promise

pub returns : goal.returns
returns c = c.print_call.ensures ∙ ap (λ (t : List ℕ). printed t c.args.out.now) (called_text c.presolve-answer.ensures.promise refl)
