-- The answer goes by what the checking pass saw and by the room there is.
use Rattle.std.proofs.Common.{ap, sym, refl, ◌∙◌}
use Rattle.model_file.specs.Reading.{FileRead, lent, out}
use Rattle.model_file.proofs.Exits.{file_failed}
use Rattle.model_file.specs.Answers.{answer_refused, answer_few, answer_roomy, answer_read}
use Rattle.model_file.proofs.read_model.Goals as goal

pub returns-in_err-header-clause-read : goal.returns-in_err-header-clause-read
returns-in_err-header-clause-read c =
    ap (λ (x : FileRead). out x (lent c.args.model.now)) (file_failed _ _ c.from_residual.ensures.1 refl) ∙ answer_refused _ _ c.in_err-header.ensures

pub returns-then-not-has_room-clause-read : goal.returns-then-not-has_room-clause-read
returns-then-not-has_room-clause-read c = answer_few _ _ c.in_ok-header.ensures (sym c.has_room.ensures ∙ c.if-not-has_room.true)

pub fill_model-requires : goal.fill_model-requires
fill_model-requires c = answer_roomy _ _ c.in_ok-header.ensures (sym c.has_room.ensures ∙ c.if-not-has_room.false)

pub returns-clause-read : goal.returns-clause-read
returns-clause-read c = answer_read _ _ c.in_ok-header.ensures (sym c.has_room.ensures ∙ c.if-not-has_room.false) c.in_ok-fill_model.ensures.filled
