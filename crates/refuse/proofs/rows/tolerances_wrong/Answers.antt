-- `tolerances_wrong` computes its definition.
use mathlib.Core.Path.{refl}
use Rattle.definition.specs.Refusal.{tolerance_wrong, tolerances_wrong}
use Rattle.refuse.proofs.rows.tolerances_wrong.Goals as goal

pub returns : goal.returns
unfolding tolerances_wrong tolerance_wrong
returns c = refl
