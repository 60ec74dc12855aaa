-- Nothing is left, or something is.
use Rattle.model_file.proofs.Numbers.{end_there, end_not}
use Rattle.model_file.proofs.reader.Reader.end.Goals as goal

pub returns-then-is_empty : goal.returns-then-is_empty
returns-then-is_empty c = end_there _ c.if-is_empty.ensures

pub returns-else-is_empty : goal.returns-else-is_empty
returns-else-is_empty c = end_not _ c.if-is_empty.ensures
