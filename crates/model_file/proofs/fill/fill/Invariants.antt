-- The parts that are left give the whole.
use Rattle.std.proofs.Common.{◌≡◌}
use Rattle.model_file.specs.Reading.{SameSlices, lent}
use Rattle.model_file.specs.Fills.{Filling, sizes}
use Rattle.model_file.proofs.fill.fill.Given as goal

abbrev pub invariant-loop-i : goal.invariant-loop-i
invariant-loop-i g l = SameSlices l.initial.model l.model
    × (sizes (lent l.model) ≡ sizes (lent l.initial.model))
    × Filling g.P.Part.parser g.P.Part.put_gives l.end l.from l.initial.reader.rest.now (lent l.initial.model) l.i l.reader.rest.now (lent l.model)
