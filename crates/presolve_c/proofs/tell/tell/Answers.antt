-- `tell`, by the answer.
use mathlib.Core.Path.{◌≡◌}
use Rattle.presolve.specs.declared.Presolved.TheVariants.{Infeasible, Model}
use Rattle.presolve_c.specs.Steps.{told_refused, told_infeasible, told_model}
use Rattle.presolve_c.proofs.tell.tell.Goals as goal

pub returns-in-Err : goal.returns-in-Err
returns-in-Err c = told_refused c.in-Err.is c.from.ensures

pub returns-in-Ok-Infeasible : goal.returns-in-Ok-Infeasible
returns-in-Ok-Infeasible c =
    let q : c.in-Ok-Infeasible.field-0 ≡ Infeasible c.in-Ok-Infeasible.k = rw c.in-Ok-Infeasible.is at c.in-Ok-Infeasible.field-0-is in
    told_infeasible c.in-Ok-Infeasible.is q c.put_counts.ensures

pub returns-in-Ok-Model : goal.returns-in-Ok-Model
returns-in-Ok-Model c =
    let q : c.in-Ok-Model.field-0 ≡ Model c.in-Ok-Model.x = rw c.in-Ok-Model.is at c.in-Ok-Model.field-0-is in
    told_model c.in-Ok-Model.is q c.put_model.ensures
