-- `rhses_wrong` computes its definition.
use Rattle.refuse.specs.Rows.{rhses_are}
use Rattle.refuse.proofs.rows.rhses_wrong.Goals as goal

pub returns : goal.returns
returns c = search rhses_are
