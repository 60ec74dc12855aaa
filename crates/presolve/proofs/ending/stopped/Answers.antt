-- `stopped`: zeros.
use mathlib.Core.Path.{refl, ◌∙◌}
use borrow.Author.Rules.{rules}
use Rattle.presolve.specs.Steps.{same_space}
use Rattle.presolve.proofs.ending.stopped.Goals as goal

pub returns-clause-zeros : goal.returns-clause-zeros
returns-clause-zeros c = c.clear.ensures.zeros ∙ same_space _ _ refl (search rules) refl
