-- `bounds_wrong` computes its definition.
use Rattle.refuse.specs.Rows.{bounds_are}
use Rattle.refuse.proofs.rows.bounds_wrong.Goals as goal

pub returns : goal.returns
returns c = search bounds_are
