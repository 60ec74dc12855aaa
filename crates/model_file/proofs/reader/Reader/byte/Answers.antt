-- A byte is missing, or is the first.
use Rattle.model_file.proofs.Numbers.{byte_there, byte_gone}
use Rattle.model_file.proofs.Exits.{failed}
use Rattle.model_file.proofs.reader.Reader.byte.Goals as goal

pub returns-in_err-byte : goal.returns-in_err-byte
returns-in_err-byte c = failed _ _ _ c.from_residual.ensures.1 (byte_gone _ c.in_err-byte.ensures)

pub returns : goal.returns
returns c = byte_there _ c.in_ok-byte.ensures
