-- `clear`: zeros in each slice.
use Rattle.presolve.specs.Steps.{all_zero}
use Rattle.presolve.proofs.ending.clear.Goals as goal

pub returns-clause-zeros : goal.returns-clause-zeros
returns-clause-zeros c = all_zero _ _ _ c.clear.ensures.floats_zero c.clear.ensures.numbers_zero c.clear.ensures.adjacency_zero
