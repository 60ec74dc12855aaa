-- `finished`: what write_results promises, and zeros.
use mathlib.Core.Path.{refl, ◌∙◌}
use Rattle.presolve.specs.Steps.{same_space}
use Rattle.presolve.proofs.ending.finished.Goals as goal

pub returns-clause-zeros : goal.returns-clause-zeros
returns-clause-zeros c = c.clear.ensures.zeros ∙ same_space _ _ c.write_results-reduced.auto.floats c.write_results-reduced.auto.numbers refl
