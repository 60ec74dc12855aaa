-- The mode is missing, above its range, or read.
use Rattle.std.proofs.Common.{◌∙◌, lt-ltb, le-ltb}
use Rattle.model_file.specs.Format.{code}
use Rattle.model_file.specs.Places.{then_got, then_refused, refuse_yes, refuse_no}
use Rattle.model_file.proofs.Exits.{failed}
use Rattle.model_file.proofs.reader.Reader.code.Goals as goal

pub returns-in_err-mode : goal.returns-in_err-mode
unfolding code
returns-in_err-mode c = failed _ _ _ c.from_residual.ensures.1 (then_refused _ c.in_err-mode.ensures)

pub returns-then-mode-gt2 : goal.returns-then-mode-gt2
unfolding code
returns-then-mode-gt2 c = then_got _ c.in_ok-mode.ensures ∙ then_refused _ (refuse_yes 12 _ (lt-ltb _ _ c.if-mode-gt2.true))

pub returns : goal.returns
unfolding code
returns c = then_got _ c.in_ok-mode.ensures ∙ then_got _ (refuse_no 12 _ (le-ltb _ _ c.if-mode-gt2.false))
