-- `too_large` computes its definition.
use mathlib.Core.Path.{refl}
use Rattle.definition.specs.Refusal.{too_large}
use Rattle.refuse.proofs.rows.too_large.Goals as goal

pub returns : goal.returns
unfolding too_large
returns c = refl
