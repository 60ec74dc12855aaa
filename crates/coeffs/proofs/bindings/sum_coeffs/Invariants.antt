-- `sum_coeffs`: what is left of the definition from the k-th binary on gives the whole.
use Rattle.space.specs.Store.{floats_of, numbers_of}
use Rattle.view.specs.Known.{Spans}
use Rattle.coeffs.specs.Over.{Over}
use Rattle.coeffs.specs.Bound.{sum_from, sum_all}
use Rattle.coeffs.proofs.bindings.sum_coeffs.Given as goal

abbrev pub invariant-loop-k : goal.invariant-loop-k
invariant-loop-k l = Over (Spans l.starts) l.cx (floats_of l.cx l.floats) (numbers_of l.cx l.numbers) l.r l.k l.sum (sum_from l.r) (sum_all l.r)
