-- The three floats, each by its own bit.
use Rattle.std.proofs.Common.{◌∙◌, refl}
use Rattle.model_file.specs.Format.{values}
use Rattle.model_file.specs.Places.{then_got, then_refused, optional_is}
use Rattle.model_file.proofs.Exits.{failed}
use Rattle.model_file.proofs.reader.Reader.values.Goals as goal

pub returns-in_err-objective : goal.returns-in_err-objective
unfolding values
returns-in_err-objective c = failed _ _ _ c.from_residual.ensures.1 (then_refused _ (optional_is _ c.bit.ensures refl c.in_err-objective.ensures))

pub returns-in_err-lower : goal.returns-in_err-lower
unfolding values
returns-in_err-lower c = failed _ _ _ c.from_residual-in_err-lower.ensures.1 (
    then_got _ (optional_is _ c.bit.ensures refl c.in_ok-objective.ensures)
    ∙ then_refused _ (optional_is _ c.bit-2.ensures refl c.in_err-lower.ensures))

pub returns-in_err-upper : goal.returns-in_err-upper
unfolding values
returns-in_err-upper c = failed _ _ _ c.from_residual-in_err-upper.ensures.1 (
    then_got _ (optional_is _ c.bit.ensures refl c.in_ok-objective.ensures)
    ∙ then_got _ (optional_is _ c.bit-2.ensures refl c.in_ok-lower.ensures)
    ∙ then_refused _ (optional_is _ c.bit-3.ensures c.absent_upper.ensures c.in_err-upper.ensures))

pub returns : goal.returns
unfolding values
returns c = then_got _ (optional_is _ c.bit.ensures refl c.in_ok-objective.ensures)
    ∙ then_got _ (optional_is _ c.bit-2.ensures refl c.in_ok-lower.ensures)
    ∙ then_got _ (optional_is _ c.bit-3.ensures c.absent_upper.ensures c.in_ok-upper.ensures)
