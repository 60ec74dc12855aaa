-- The right side, if announced, and the count of terms, which is tested at once.
use native.Mathlib.Omega.{arith}
use Rattle.std.proofs.Common.{◌∙◌, refl, lt-ltb, le-ltb}
use Rattle.model_file.specs.Format.{side}
use Rattle.model_file.specs.Places.{then_got, then_refused, optional_is, refuse_yes, refuse_no}
use Rattle.model_file.proofs.Exits.{failed}
use Rattle.model_file.proofs.reader.Reader.side.Goals as goal

pub returns-in_err-rhs-clause-read : goal.returns-in_err-rhs-clause-read
unfolding side
returns-in_err-rhs-clause-read c = failed _ _ _ c.from_residual.ensures.1 (then_refused _ (optional_is _ c.bit.ensures refl c.in_err-rhs.ensures))

pub returns-in_err-count-clause-read : goal.returns-in_err-count-clause-read
unfolding side
returns-in_err-count-clause-read c = failed _ _ _ c.from_residual-in_err-count.ensures.1 (
    then_got _ (optional_is _ c.bit.ensures refl c.in_ok-rhs.ensures) ∙ then_refused _ c.in_err-count.ensures.read)

pub overflow_add-t : goal.overflow_add-t
overflow_add-t c = omega (arith, c.in_ok-count.ensures.small)

pub returns-then-t-count-gt512-clause-read : goal.returns-then-t-count-gt512-clause-read
unfolding side
returns-then-t-count-gt512-clause-read c = then_got _ (optional_is _ c.bit.ensures refl c.in_ok-rhs.ensures) ∙ then_got _ c.in_ok-count.ensures.read
    ∙ then_refused _ (refuse_yes 14 _ (lt-ltb _ _ c.if-t-count-gt512.true))

pub returns-clause-read : goal.returns-clause-read
unfolding side
returns-clause-read c = then_got _ (optional_is _ c.bit.ensures refl c.in_ok-rhs.ensures) ∙ then_got _ c.in_ok-count.ensures.read
    ∙ then_got _ (refuse_no 14 _ (le-ltb _ _ c.if-t-count-gt512.false))
