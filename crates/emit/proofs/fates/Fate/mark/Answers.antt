-- `mark`: 0 written, 1 rewritten.
use Rattle.emit.specs.FateNumbers.{mark_from}
use Rattle.emit.proofs.fates.Fate.mark.Goals as goal

pub returns : goal.returns
returns c = mark_from c.is_rewritten.ensures c.from.ensures
