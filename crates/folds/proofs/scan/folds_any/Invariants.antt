-- `folds_any`: whether some term of a row leaves.
use Rattle.space.specs.Store.{floats_of, numbers_of}
use Rattle.folds.specs.Scan.{Stay}
use Rattle.folds.proofs.scan.folds_any.Given as goal

abbrev pub invariant-loop-i : goal.invariant-loop-i
invariant-loop-i l = Stay l.starts l.r l.i (floats_of l.cx l.floats) (numbers_of l.cx l.numbers)
