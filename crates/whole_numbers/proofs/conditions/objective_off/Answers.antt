-- An objective that is there, or none.
use Rattle.std.proofs.Common.{rules}
use Rattle.whole_numbers.specs.Branches.{objective_by, objective_past}
use Rattle.whole_numbers.proofs.conditions.objective_off.Goals as goal

pub returns-in-Some : goal.returns-in-Some
returns-in-Some c = objective_by _ _ (search rules) c.is_whole.ensures

pub returns-in-None : goal.returns-in-None
returns-in-None c = search (objective_past, rules)
