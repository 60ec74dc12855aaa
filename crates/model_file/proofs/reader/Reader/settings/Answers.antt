-- Both counts, then the rules.
use Rattle.std.proofs.Common.{◌∙◌}
use Rattle.model_file.specs.Format.{settings}
use Rattle.model_file.specs.Places.{then_got, then_refused}
use Rattle.model_file.proofs.Exits.{failed}
use Rattle.model_file.proofs.reader.Reader.settings.Goals as goal

pub returns-in_err-vars : goal.returns-in_err-vars
unfolding settings
returns-in_err-vars c = failed _ _ _ c.from_residual.ensures.1 (then_refused _ c.in_err-vars.ensures)

pub returns-in_err-rows : goal.returns-in_err-rows
unfolding settings
returns-in_err-rows c = failed _ _ _ c.from_residual-in_err-rows.ensures.1 (then_got _ c.in_ok-vars.ensures ∙ then_refused _ c.in_err-rows.ensures)

pub returns : goal.returns
unfolding settings
returns c = then_got _ c.in_ok-vars.ensures ∙ then_got _ c.in_ok-rows.ensures ∙ c.rules.ensures
