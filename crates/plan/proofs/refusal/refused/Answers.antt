-- `refused`: lengths first, then the model's table, but for a value that is not finite.
use Rattle.plan.proofs.Table.{other_length, a_value, the_model}
use Rattle.std.proofs.Common.{◌∙◌}
use Rattle.definition.specs.Of.{input_model}
use Rattle.plan.proofs.refusal.refused.Goals as goal

pub returns-then-plan-input : goal.returns-then-plan-input
returns-then-plan-input c = other_length (input_model c.args.input) c.args.plan.now c.if-plan-input.true

pub returns-then-numbers_asked-not_finite : goal.returns-then-numbers_asked-not_finite
returns-then-numbers_asked-not_finite c =
    a_value (input_model c.args.input) _ c.args.plan.now c.if-plan-input.false c.refused-model.ensures c.numbers_asked.ensures c.not_finite.ensures c.if-numbers_asked-not_finite.true

pub returns : goal.returns
returns c =
    c.but_space.ensures
    ∙ the_model (input_model c.args.input) _ c.args.plan.now c.if-plan-input.false c.refused-model.ensures c.numbers_asked.ensures c.not_finite.ensures c.if-numbers_asked-not_finite.false
