-- `short_answer`: the table's number, or else 10.
use mathlib.Core.Path.{sym, ap, ◌∙◌}
use mathlib.Core.Option.{some}
use Rattle.presolve_c.specs.Steps.{earlier, else_ten}
use Rattle.presolve_c.proofs.tell.short_answer.Goals as goal

pub returns-in-Err : goal.returns-in-Err
returns-in-Err c = earlier _ c.refused.ensures c.in-Err.is ∙ ap some (sym c.from.ensures)

pub returns-in-Ok : goal.returns-in-Ok
returns-in-Ok c = else_ten c.refused.ensures c.in-Ok.is ∙ ap some (sym c.from-in-Ok.ensures)
