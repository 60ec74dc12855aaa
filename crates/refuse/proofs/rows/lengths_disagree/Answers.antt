-- `lengths_disagree` computes its definition.
use native.Mathlib.Numerals.{add-one}
use Rattle.definition.specs.Refusal.{lengths_disagree}
use Rattle.refuse.proofs.rows.lengths_disagree.Goals as goal

pub returns : goal.returns
unfolding lengths_disagree
returns c = rw add-one
