-- `activity`: what is left of the definition from the term looked at on gives the whole.
use Rattle.space.specs.Store.{floats_of, numbers_of}
use Rattle.readers.specs.Activity.{Walking}
use Rattle.readers.proofs.rows.activity.Given as goal

abbrev pub invariant-loop-i : goal.invariant-loop-i
invariant-loop-i g l = Walking l.starts l.cx (floats_of l.cx l.floats) (numbers_of l.cx l.numbers) l.r g.B.Bounds.working l.i l.act
