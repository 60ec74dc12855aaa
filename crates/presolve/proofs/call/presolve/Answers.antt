-- `presolve`: refused by the table, or an accepted call.
use borrow.Author.Rules.{rules}
use mathlib.Core.Path.{ap, ◌∙◌}
use Rattle.definition.specs.Refusal.{refusal}
use Rattle.definition.specs.Of.{input_model}
use Rattle.presolve.specs.Steps.{promise_refused}
use Rattle.presolve.proofs.call.presolve.Goals as goal

pub returns-in_err-refused-clause-promise : goal.returns-in_err-refused-clause-promise
returns-in_err-refused-clause-promise c =
    promise_refused _ (c.refused.ensures ∙ ap (refusal (input_model c.args.input)) c.lent_lengths.ensures) c.in_err-refused.was (search rules)
