-- A number that is there, or none.
use Rattle.std.proofs.Common.{rules}
use Rattle.whole_numbers.specs.Branches.{number_by, number_past}
use Rattle.whole_numbers.proofs.conditions.number_off.Goals as goal

pub returns-in-Some : goal.returns-in-Some
returns-in-Some c = number_by _ _ _ (search rules) c.whole_within.ensures

pub returns-in-None : goal.returns-in-None
returns-in-None c = search (number_past, rules)
