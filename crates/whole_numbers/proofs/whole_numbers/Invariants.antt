-- The conditions asked so far hold: the fault is that of the others.
use Rattle.std.specs.Prelude.{◌≡◌, map, drop}
use Rattle.definition.specs.Of.{input_model}
use Rattle.whole_numbers.specs.Fault.{earliest_fault, told}
use Rattle.whole_numbers.specs.Of.{asked}
use Rattle.whole_numbers.proofs.whole_numbers.Given as goal

abbrev pub invariant-loop-condition : goal.invariant-loop-condition
invariant-loop-condition l =
    told (input_model l.input) ≡ earliest_fault (map (asked (input_model l.input)) (drop l.condition-index l.condition-items))
