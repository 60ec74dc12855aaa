-- What is printed are the fronts, which are as long as the answer says.
use Rattle.std.proofs.Common.{◌∙◌, ap, List, ℕ}
use Rattle.print_result.specs.Printing.{printed}
use Rattle.presolve_file.specs.Fronts.{fronts_text_lengths}
use Rattle.presolve_file.proofs.answer.print_reduced.Goals as goal

pub returns : goal.returns
returns c = c.print_answer.ensures ∙ ap (λ (t : List ℕ). printed t c.args.out.now) (fronts_text_lengths _ _ _ _ c.kind_of.ensures c.requires)
