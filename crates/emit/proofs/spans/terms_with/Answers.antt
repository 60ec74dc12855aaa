-- `terms_with`: how many terms the rewritten rows have up to row r and with it; before is the number before it.
use Rattle.std.proofs.Common.{arith}
use Rattle.emit.specs.FateNumbers.{rewritten_now}
use Rattle.emit.specs.Spans.{with_room, with_yes, with_no}
use Rattle.emit.proofs.spans.terms_with.Goals as goal

pub overflow_add-result : goal.overflow_add-result
overflow_add-result c = omega (
  arith,
  with_room _ _ c.requires.before_value c.get-len.ensures c.get-folded.ensures
      (rewritten_now c.fate_of.ensures c.is_rewritten.ensures c.if-is_rewritten.true) c.requires.spanned c.requires.r_lt_rows.0,
  c.requires.r_lt_rows.1,
)

pub overflow_add-result-then-is_rewritten : goal.overflow_add-result-then-is_rewritten
overflow_add-result-then-is_rewritten c = omega (
  arith,
  with_room _ _ c.requires.before_value c.get-len.ensures c.get-folded.ensures
      (rewritten_now c.fate_of.ensures c.is_rewritten.ensures c.if-is_rewritten.true) c.requires.spanned c.requires.r_lt_rows.0,
  c.requires.r_lt_rows.1,
)

pub returns-then-is_rewritten : goal.returns-then-is_rewritten
returns-then-is_rewritten c = with_yes _ _ c.requires.before_value c.get-len.ensures c.get-folded.ensures
    (rewritten_now c.fate_of.ensures c.is_rewritten.ensures c.if-is_rewritten.true)

pub returns : goal.returns
returns c = with_no _ _ c.requires.before_value (rewritten_now c.fate_of.ensures c.is_rewritten.ensures c.if-is_rewritten.false)
