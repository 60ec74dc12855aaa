-- `fixed_sum`: what is left of the definition from the term looked at on gives the whole.
use Rattle.std.specs.Prelude.{◌+◌, length, get_or}
use Rattle.std.specs.Float.{nan}
use Rattle.space.specs.Store.{floats_of}
use Rattle.readers.specs.Empty.{Summing}
use Rattle.readers.proofs.empty.fixed_sum.Given as goal

abbrev pub invariant-loop-v : goal.invariant-loop-v
invariant-loop-v l = Summing l.rows.index.now l.rows.coeff.now l.cx (floats_of l.cx l.floats) l.a l.e (get_or l.rows.rhs.now l.r nan) (l.a + length l.yielded) l.sum
