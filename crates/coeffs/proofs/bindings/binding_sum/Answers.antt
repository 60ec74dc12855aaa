-- `binding_sum`: what is left of the definition from the k-th binary on gives the whole.
use Rattle.coeffs.specs.Bound.{bind_start, bind_turn, bind_end}
use Rattle.coeffs.proofs.bindings.binding_sum.Goals as goal

pub loop-k-init : goal.loop-k-init
loop-k-init c = bind_start _ _ c.from-d.ensures

pub loop-k-preserved : goal.loop-k-preserved
loop-k-preserved c = search bind_turn

pub returns : goal.returns
returns c = search bind_end
