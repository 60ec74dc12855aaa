-- `round_var` stores the definition's bounds of one variable.
use Rattle.begin.specs.Rounding.{var_cross, var_int, var_real}
use Rattle.readers.specs.Vars.{int_reads}
use Rattle.begin.proofs.rounding.round_var.Goals as goal

pub returns-then-lo-hi : goal.returns-then-lo-hi
returns-then-lo-hi c = var_cross (int_reads _ c.is_int.ensures) c.if-is_int.true c.rounded_lower-lo.ensures c.rounded_upper-hi.ensures c.if-lo-hi.true

pub returns-then-is_int : goal.returns-then-is_int
returns-then-is_int c = var_int (int_reads _ c.is_int.ensures) c.if-is_int.true c.rounded_lower-lo.ensures c.rounded_upper-hi.ensures c.if-lo-hi.false c.put_bounds.ensures

pub returns : goal.returns
returns c = var_real (int_reads _ c.is_int.ensures) c.if-is_int.false c.put_bounds-2.ensures
