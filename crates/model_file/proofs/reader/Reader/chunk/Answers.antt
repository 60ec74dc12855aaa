-- The bytes are missing, or are the first.
use Rattle.model_file.proofs.Numbers.{bytes_short, bytes_split}
use Rattle.model_file.proofs.reader.Reader.chunk.Goals as goal

pub returns-in_default : goal.returns-in_default
returns-in_default g c = bytes_short g.row.N _ c.in_default.ensures.cases

pub returns : goal.returns
returns g c = bytes_split g.row.N _ c.in-Some.ensures.cases.0 c.in-Some.ensures.cases.1 c.in-Some.ensures.cases.2
