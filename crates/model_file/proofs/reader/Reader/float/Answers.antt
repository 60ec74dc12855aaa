-- Eight bytes are missing, or are the float's pattern.
use Rattle.model_file.proofs.Numbers.{float_there, float_gone}
use Rattle.model_file.proofs.Exits.{failed}
use Rattle.model_file.proofs.reader.Reader.float.Goals as goal

pub returns-in_err-chunk : goal.returns-in_err-chunk
returns-in_err-chunk c = failed _ _ _ c.from_residual.ensures.1 (float_gone _ c.in_err-chunk.ensures)

pub returns : goal.returns
returns c = float_there _ c.in_ok-chunk.ensures c.from_le_bytes.ensures c.f64_from_bits_with_nan.ensures
