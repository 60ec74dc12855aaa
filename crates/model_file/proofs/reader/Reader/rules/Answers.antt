-- Both tolerances, then the mode.
use Rattle.std.proofs.Common.{◌∙◌}
use Rattle.model_file.specs.Format.{rules}
use Rattle.model_file.specs.Places.{then_got, then_refused}
use Rattle.model_file.proofs.Exits.{failed}
use Rattle.model_file.proofs.reader.Reader.rules.Goals as goal

pub returns-in_err-feasibility : goal.returns-in_err-feasibility
unfolding rules
returns-in_err-feasibility c = failed _ _ _ c.from_residual.ensures.1 (then_refused _ c.in_err-feasibility.ensures)

pub returns-in_err-int_tol : goal.returns-in_err-int_tol
unfolding rules
returns-in_err-int_tol c = failed _ _ _ c.from_residual-in_err-int_tol.ensures.1 (
    then_got _ c.in_ok-feasibility.ensures ∙ then_refused _ c.in_err-int_tol.ensures)

pub returns-in_err-mode : goal.returns-in_err-mode
unfolding rules
returns-in_err-mode c = failed _ _ _ c.from_residual-in_err-mode.ensures.1 (
    then_got _ c.in_ok-feasibility.ensures ∙ then_got _ c.in_ok-int_tol.ensures ∙ then_refused _ c.in_err-mode.ensures)

pub returns : goal.returns
unfolding rules
returns c = then_got _ c.in_ok-feasibility.ensures ∙ then_got _ c.in_ok-int_tol.ensures ∙ then_got _ c.in_ok-mode.ensures
