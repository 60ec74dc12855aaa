-- `numbers_wrong` computes its definition.
use Rattle.refuse.specs.Rows.{numbers_are}
use Rattle.refuse.proofs.rows.numbers_wrong.Goals as goal

pub returns : goal.returns
returns c = search numbers_are
