-- `read_rows` reads the rows as the definition does.
use Rattle.space.specs.Store.{floats_of, numbers_of}
use Rattle.view.specs.Known.{Written}
use Rattle.begin.specs.Reading.{ReadInv}
use Rattle.begin.proofs.reading.read_rows.Given as goal

abbrev pub invariant-loop-r : goal.invariant-loop-r
invariant-loop-r l = ReadInv (Written l.rows) l.cx l.r (floats_of l.cx l.initial.floats) (floats_of l.cx l.floats) (numbers_of l.cx l.numbers)
