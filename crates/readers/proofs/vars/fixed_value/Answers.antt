-- `fixed_value`, by whether the variable is fixed.
use Rattle.readers.specs.Vars.{value_fixed, value_free}
use Rattle.readers.proofs.vars.fixed_value.Goals as goal

pub returns-then-fixed_at : goal.returns-then-fixed_at
returns-then-fixed_at c = value_fixed _ c.get-lo.ensures c.get-hi.ensures c.fixed_at.ensures c.if-fixed_at.true

pub returns-else-fixed_at : goal.returns-else-fixed_at
returns-else-fixed_at c = value_free _ c.get-lo.ensures c.get-hi.ensures c.fixed_at.ensures c.if-fixed_at.false
