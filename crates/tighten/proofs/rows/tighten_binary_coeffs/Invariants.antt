-- `tighten_binary_coeffs`: what is left of the definition from row r on gives the whole.
use Rattle.space.specs.Store.{floats_of, numbers_of}
use Rattle.tighten.specs.Tightening.{Tightening}
use Rattle.tighten.specs.All.{AtRow}
use Rattle.tighten.proofs.rows.tighten_binary_coeffs.Given as goal

abbrev pub invariant-loop-r : goal.invariant-loop-r
invariant-loop-r l = AtRow (Tightening l.lists) l.cx l.r l.changed (floats_of l.cx l.initial.floats) (numbers_of l.cx l.initial.numbers) (floats_of l.cx l.floats) (numbers_of l.cx l.numbers)
