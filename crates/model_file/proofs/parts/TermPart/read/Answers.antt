-- An index and a coefficient.
use Rattle.std.proofs.Common.{◌∙◌}
use Rattle.model_file.specs.Format.{term}
use Rattle.model_file.specs.Places.{then_got, then_refused}
use Rattle.model_file.proofs.Exits.{failed}
use Rattle.model_file.proofs.parts.TermPart.read.Goals as goal

pub returns-in_err-index : goal.returns-in_err-index
unfolding term
returns-in_err-index c = failed _ _ _ c.from_residual.ensures.1 (then_refused _ c.in_err-index.ensures.read)

pub returns-in_err-coeff : goal.returns-in_err-coeff
unfolding term
returns-in_err-coeff c = failed _ _ _ c.from_residual-in_err-coeff.ensures.1 (then_got _ c.in_ok-index.ensures.read ∙ then_refused _ c.in_err-coeff.ensures)

pub returns : goal.returns
unfolding term
returns c = then_got _ c.in_ok-index.ensures.read ∙ then_got _ c.in_ok-coeff.ensures
