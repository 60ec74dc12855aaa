-- Two bytes are missing, or are the number.
use Rattle.std.proofs.Common.{◌∙◌}
use Rattle.model_file.proofs.Numbers.{number_2, number_gone}
use Rattle.model_file.proofs.Exits.{failed}
use Rattle.model_file.proofs.reader.Reader.short.Goals as goal

pub returns-in_err-chunk-clause-read : goal.returns-in_err-chunk-clause-read
returns-in_err-chunk-clause-read c = failed _ _ _ c.from_residual.ensures.1 (number_gone 2 _ c.in_err-chunk.ensures)

pub returns-clause-read : goal.returns-clause-read
returns-clause-read c = number_2 _ c.in_ok-chunk.ensures (c.from.ensures ∙ c.from_le_bytes.ensures)
