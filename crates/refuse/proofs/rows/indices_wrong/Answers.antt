-- `indices_wrong` computes its definition.
use Rattle.refuse.specs.Rows.{indices_are}
use Rattle.refuse.proofs.rows.indices_wrong.Goals as goal

pub returns : goal.returns
returns c = search indices_are
