-- `starts_wrong` computes its definition.
use Rattle.refuse.specs.Rows.{starts_are}
use Rattle.definition.specs.Of.{input_model}
use Rattle.refuse.proofs.rows.starts_wrong.Goals as goal

pub returns : goal.returns
returns c = starts_are (input_model c.args.input) c.requires c.start_falls.ensures
