-- The lower bound first, then the upper.
use Rattle.whole_numbers.specs.Branches.{lower_off, upper_off}
use Rattle.whole_numbers.proofs.conditions.bounds_off.Goals as goal

pub returns-then-number_off : goal.returns-then-number_off
returns-then-number_off c = lower_off _ _ _ c.number_off.ensures c.if-number_off.true

pub returns-else-number_off : goal.returns-else-number_off
returns-else-number_off c = upper_off _ _ _ c.number_off.ensures c.if-number_off.false c.number_off-else-number_off.ensures
