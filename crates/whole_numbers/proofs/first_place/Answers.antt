-- What `find` finds is the first place that fails the test.
use Rattle.std.proofs.Common.{rules, ◌≡◌}
use Rattle.std.specs.Prelude.{true, false}
use Rattle.std.proofs.lemmas.Iterator.{first_from_Range}
use Rattle.definition.specs.Of.{input_model}
use Rattle.whole_numbers.specs.Of.{asked}
use Rattle.whole_numbers.specs.First.{found_is}
use Rattle.whole_numbers.proofs.first_place.Goals as goal

pub returns : goal.returns
returns c =
    let k = asked (input_model c.args.input.now) c.args.condition in
    found_is k c.places.ensures _ (first_from_Range (record { start = 0; end = c.places.result }) _ _ _ (λ i. k.fails i ≡ true) (λ i. k.fails i ≡ false) c.find.ensures.ran
    (λ x q t. search rules) (λ x q t. (search rules, search rules)))
