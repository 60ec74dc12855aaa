-- One condition more, until one fails or none is left.
use Rattle.std.proofs.Common.{arith}
use Rattle.definition.specs.Of.{input_model}
use Rattle.whole_numbers.specs.Of.{in_order}
use Rattle.whole_numbers.specs.declared.Condition.TheVariants.{Domains}
use Rattle.whole_numbers.specs.Chain.{begun, turn, stop, end}
use Rattle.whole_numbers.proofs.whole_numbers.Goals as goal

pub loop-condition-init : goal.loop-condition-init
loop-condition-init c = begun _

pub returns-in-Some : goal.returns-in-Some
returns-in-Some c = stop (input_model c.args.input) in_order c.loop-condition.condition-index c.loop-condition.invariant Domains (omega arith) c.first_place.ensures c.in-Some.is

pub loop-condition-preserved : goal.loop-condition-preserved
loop-condition-preserved c = turn (input_model c.args.input) in_order c.loop-condition.condition-index c.loop-condition.invariant Domains (omega arith) c.first_place.ensures c.in_default.is

pub returns : goal.returns
returns c = end (input_model c.args.input) in_order c.loop-condition.condition-index c.loop-condition.invariant (omega arith)
