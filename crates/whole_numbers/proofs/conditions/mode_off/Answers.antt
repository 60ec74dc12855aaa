-- One law a branch.
use mathlib.Core.Path.{ap, ◌∙◌}
use Rattle.std.specs.Prelude.{ℕ, not, eqb}
use Rattle.whole_numbers.specs.Branches.{mode_one, mode_other}
use Rattle.whole_numbers.proofs.conditions.mode_off.Goals as goal

pub returns-then-mode-ne1 : goal.returns-then-mode-ne1
returns-then-mode-ne1 c = mode_other _ c.if-mode-ne1.true

pub returns-else-mode-ne1 : goal.returns-else-mode-ne1
returns-else-mode-ne1 c = ap (λ (m : ℕ). not (eqb m 1)) c.if-mode-ne1.false ∙ mode_one _ c.if-mode-ne1.false
