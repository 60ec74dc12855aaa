-- `relaxes` is by its three tests.
use Rattle.std.proofs.Common.{sym, ◌∙◌}
use Rattle.formulas.specs.Stays.{held_so, never, relaxes_so}
use Rattle.formulas.proofs.Side.relaxes.Goals as goal
use Rattle.formulas.proofs.Side.relaxes.Goals.{then-feas, else-feas}

pub returns-then-self-clause-relaxes : goal.returns-then-self-clause-relaxes
returns-then-self-clause-relaxes c t = elim c.if-feas.branch [
  | then-feas w ↦ (let e = sym w.value-is ∙ c.if-self.true in search (relaxes_so, held_so))
  | else-feas w ↦ never (sym w.if-feas.false ∙ sym w.value-is ∙ c.if-self.true)
]
