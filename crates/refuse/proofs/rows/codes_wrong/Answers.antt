-- `codes_wrong` computes its definition.
use Rattle.definition.specs.Of.{input_model}
use Rattle.refuse.specs.Rows.{codes_are}
use Rattle.refuse.proofs.rows.codes_wrong.Goals as goal

pub returns : goal.returns
returns c = codes_are (input_model c.args.input) c.requires.0 c.requires.1 c.code_wrong.ensures c.code_wrong-2.ensures
