-- What the test answers is printed.
use Rattle.std.proofs.Common.{◌∙◌, ap, List, ℕ, refl}
use Rattle.print_result.specs.Printing.{printed}
use Rattle.numbers_file.specs.Whole.{model_line, whole_line_lem, off_line_lem}
use Rattle.numbers_file.proofs.NumbersReport.print.Goals as goal

pub returns-in-Ok : goal.returns-in-Ok
unfolding model_line
returns-in-Ok c = c.print_numbers.ensures ∙ ap (λ (t : List ℕ). printed t c.args.out.now)
    (whole_line_lem c.whole_numbers.ensures c.in-Ok.is)

pub returns-in-Err : goal.returns-in-Err
unfolding model_line
returns-in-Err c = c.print_numbers-in-Err.ensures ∙ ap (λ (t : List ℕ). printed t c.args.out.now)
    (off_line_lem c.whole_numbers.ensures c.in-Err.is (c.from-in-Err.ensures ∙ c.from.ensures) refl)
