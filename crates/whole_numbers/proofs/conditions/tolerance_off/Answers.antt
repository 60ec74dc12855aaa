-- Feasibility first.
use Rattle.std.proofs.Common.{rules}
use Rattle.whole_numbers.specs.Branches.{feasibility, integrality}
use Rattle.whole_numbers.proofs.conditions.tolerance_off.Goals as goal

pub returns-in-0 : goal.returns-in-0
returns-in-0 c = feasibility _ _ c.in-0.is c.is_tolerable.ensures

pub returns-in_default : goal.returns-in_default
returns-in_default c = integrality _ _ (search rules) c.is_tolerable-in_default.ensures
