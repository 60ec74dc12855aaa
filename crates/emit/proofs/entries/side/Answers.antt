-- `side`: the right side that row r goes out with.
use Rattle.emit.specs.Fates.{side_bound, side_given}
use Rattle.emit.specs.FateNumbers.{rewritten_now}
use Rattle.emit.proofs.entries.side.Goals as goal

pub returns-then-is_rewritten : goal.returns-then-is_rewritten
returns-then-is_rewritten c = side_bound _ _ _ _ (rewritten_now c.fate_of.ensures c.is_rewritten.ensures c.if-is_rewritten.true) c.get.ensures

pub returns : goal.returns
returns c = side_given _ _ _ _ (rewritten_now c.fate_of.ensures c.is_rewritten.ensures c.if-is_rewritten.false)
