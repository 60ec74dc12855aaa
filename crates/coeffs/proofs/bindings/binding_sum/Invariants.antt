-- `binding_sum`: what is left of the definition from the k-th binary on gives the whole.
use Rattle.space.specs.Store.{floats_of, numbers_of}
use Rattle.view.specs.Known.{Written}
use Rattle.coeffs.specs.Over.{Over}
use Rattle.coeffs.specs.Bound.{bind_from, bind_all}
use Rattle.coeffs.proofs.bindings.binding_sum.Given as goal

abbrev pub invariant-loop-k : goal.invariant-loop-k
invariant-loop-k l = Over (Written l.rows) l.cx (floats_of l.cx l.floats) (numbers_of l.cx l.numbers) l.r l.k l.d (bind_from l.r)
    (bind_all l.r l.b)
