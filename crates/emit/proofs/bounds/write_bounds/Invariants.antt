-- `write_bounds` is lower and upper of Reduced, at the front of the slices.
use Rattle.emit.specs.Filling.{CopiedUpTo}
use Rattle.space.specs.Store.{floats_of}
use Rattle.emit.proofs.bounds.write_bounds.Given as goal

abbrev pub invariant-loop-v : goal.invariant-loop-v
invariant-loop-v l = CopiedUpTo (floats_of l.cx l.floats).elo l.initial.lower l.cx.vars l.v l.lower × CopiedUpTo (floats_of l.cx l.floats).ehi l.initial.upper l.cx.vars l.v l.upper
