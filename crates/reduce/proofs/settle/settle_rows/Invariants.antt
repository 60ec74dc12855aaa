-- `settle_rows` is settle_from, of all rows.
use Rattle.space.specs.Store.{floats_of, numbers_of}
use Rattle.view.specs.Known.{Written}
use Rattle.reduce.specs.Settling.{Settling}
use Rattle.reduce.proofs.settle.settle_rows.Given as goal

abbrev pub invariant-loop-r : goal.invariant-loop-r
invariant-loop-r l = Settling (Written l.rows) l.cx (floats_of l.cx l.initial.floats) (numbers_of l.cx l.initial.numbers) (floats_of l.cx l.floats) (numbers_of l.cx l.numbers) l.r
