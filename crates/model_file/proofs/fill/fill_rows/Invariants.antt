-- The rows that are left give the whole. There is room for the terms of those that are left.
use Rattle.model_file.specs.Reading.{SameSlices, lent}
use Rattle.model_file.specs.Fills.{RowsFilling}
use Rattle.model_file.proofs.fill.fill_rows.Given as goal

abbrev pub invariant-loop-r : goal.invariant-loop-r
invariant-loop-r l = SameSlices l.initial.model l.model
    × RowsFilling l.n l.initial.reader.rest.now (lent l.initial.model) l.r l.t l.reader.rest.now (lent l.model)
