-- A count is missing, above its limit, or read.
use Rattle.std.proofs.Common.{◌∙◌, lt-ltb, le-ltb}
use Rattle.model_file.specs.Format.{count}
use Rattle.model_file.specs.Places.{then_got, then_refused, refuse_yes, refuse_no}
use Rattle.model_file.proofs.Exits.{failed}
use Rattle.model_file.proofs.reader.Reader.count.Goals as goal

pub returns-in_err-n : goal.returns-in_err-n
unfolding count
returns-in_err-n c = failed _ _ _ c.from_residual.ensures.1 (then_refused _ c.in_err-n.ensures.read)

pub returns-then-n-gt128 : goal.returns-then-n-gt128
unfolding count
returns-then-n-gt128 c = then_got _ c.in_ok-n.ensures.read ∙ then_refused _ (refuse_yes 14 _ (lt-ltb _ _ c.if-n-gt128.true))

pub returns : goal.returns
unfolding count
returns c = then_got _ c.in_ok-n.ensures.read ∙ then_got _ (refuse_no 14 _ (le-ltb _ _ c.if-n-gt128.false))
