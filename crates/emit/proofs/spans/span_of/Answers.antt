-- `span_of`: where the span of row r starts and ends.
use Rattle.emit.specs.FateNumbers.{rewritten_now}
use Rattle.emit.specs.Spans.{from_yes, from_no, upto_yes, upto_no}
use Rattle.emit.proofs.spans.span_of.Goals as goal

pub returns-then-is_rewritten : goal.returns-then-is_rewritten
returns-then-is_rewritten c =
    let t = rewritten_now c.fate_of.ensures c.is_rewritten.ensures c.if-is_rewritten.true in
    record { from = from_yes _ _ _ c.requires.before_value t; upto = upto_yes _ _ _ c.requires.with_value t }

pub returns : goal.returns
returns c =
    let t = rewritten_now c.fate_of.ensures c.is_rewritten.ensures c.if-is_rewritten.false in
    record { from = from_no _ _ _ t; upto = upto_no _ _ _ t }
