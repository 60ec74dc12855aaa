-- The text is the file's, whether the reader refuses it or leaves its model in the arrays, in which every file fits.
use Rattle.std.proofs.Common.{◌∙◌, ap, List, ℕ, refl}
use Rattle.print_result.specs.Printing.{printed}
use Rattle.model_file.specs.Reading.{file_read}
use Rattle.presolve_file.specs.Front.{read_refused, read_held, read_text}
use Rattle.presolve_file.proofs.report.print_file.Goals as goal

pub front-requires : goal.front-requires
front-requires g c = read_held _ _
    (record { objective = refl; lower = refl; upper = refl; domain = refl; starts = refl; index = refl; coeff = refl; cmp = refl; rhs = refl })
    c.read_model.ensures.read (ap file_read c.in-Ok.is)

pub returns-in-Ok : goal.returns-in-Ok
returns-in-Ok g c =
    let p = read_text _ _ (record { objective = refl; lower = refl; upper = refl; domain = refl; starts = refl; index = refl; coeff = refl; cmp = refl; rhs = refl })
    c.read_model.ensures.read g.R.Report.told (ap file_read c.in-Ok.is) in
    c.print.ensures ∙ ap (λ (t : List ℕ). printed t c.args.out.now) (ap g.R.Report.told c.front.ensures ∙ p)

pub returns-in-Err : goal.returns-in-Err
returns-in-Err g c =
    let p = read_refused _ _ (record { objective = refl; lower = refl; upper = refl; domain = refl; starts = refl; index = refl; coeff = refl; cmp = refl; rhs = refl })
    c.read_model.ensures.read g.R.Report.told (ap file_read c.in-Err.is) in
    rw c.from.ensures at c.print_refusal.ensures ∙ ap (λ (t : List ℕ). printed t c.args.out.now) p
