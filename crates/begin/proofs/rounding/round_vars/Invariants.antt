-- `round_vars` stores the definition's bounds, or finds that some cross.
use Rattle.space.specs.Store.{floats_of}
use Rattle.begin.specs.Rounding.{RoundInv}
use Rattle.begin.proofs.rounding.round_vars.Given as goal

abbrev pub invariant-loop-v : goal.invariant-loop-v
invariant-loop-v l = RoundInv l.input l.cx l.v (floats_of l.cx l.floats)
