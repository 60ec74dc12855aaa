-- `row_coeff`: the walk goes on while the rest of the row has the variable.
use Prim.Native.Nat.{◌+◌, ◌-◌}
use lib.ListN.{get_or}
use Rattle.space.specs.Store.{floats_of, numbers_of}
use Rattle.readers.specs.Coeffs.{Seeking}
use Rattle.readers.proofs.coeffs.row_coeff.Given as goal

abbrev pub invariant-loop-cx : goal.invariant-loop-cx
invariant-loop-cx l = Seeking l.starts l.cx (floats_of l.cx l.floats) (numbers_of l.cx l.numbers) l.r l.v l.k

abbrev pub decreases-loop-cx : goal.decreases-loop-cx
decreases-loop-cx l = get_or (numbers_of l.cx l.numbers).len l.r 0 + get_or (numbers_of l.cx l.numbers).folded l.r 0 - l.k
