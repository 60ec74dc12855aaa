-- `stays`, by whether the variable is fixed, and an integer one.
use Rattle.dual.specs.Fixing.{stays_fixed, stays_not}
use Rattle.readers.specs.Vars.{int_reads}
use Rattle.dual.proofs.fixing.stays.Goals as goal

pub returns-then-fixed_at : goal.returns-then-fixed_at
returns-then-fixed_at c = rw c.if-fixed_at.true (stays_fixed _ c.get-lo.ensures c.get-hi.ensures c.fixed_at.ensures c.if-fixed_at.true)

pub returns-else-fixed_at : goal.returns-else-fixed_at
returns-else-fixed_at c = stays_not _ c.get-lo.ensures c.get-hi.ensures c.fixed_at.ensures _ c.if-fixed_at.false (int_reads _ c.is_int.ensures)
