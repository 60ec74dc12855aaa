-- `judge_row`, by its ways.
use Rattle.space.specs.Blocks.{fate_length}
use Rattle.readers.specs.Trivial.{written_gives, ready_trivial}
use Rattle.emit.specs.Judging.{judge_trivial, judge_gone, judge_untouched}
use Rattle.output.specs.Judged.{told-as}
use borrow.Author.Rules.{rules}
use Rattle.output.proofs.judge.judge_row.Goals as goal

pub is_trivial-requires : goal.is_trivial-requires
is_trivial-requires c = ready_trivial c.requires.ready c.requires.r_lt_rows.0

pub returns-then-is_trivial : goal.returns-then-is_trivial
returns-then-is_trivial c = judge_trivial _ _ _ _ _ (fate_length _ _ c.requires.r_lt_rows.2) c.requires.r_lt_rows.0 written_gives
    c.is_trivial.ensures c.if-is_trivial.true c.put_fate.ensures

pub returns-then-alive-ne1 : goal.returns-then-alive-ne1
returns-then-alive-ne1 c = judge_gone _ _ _ _ _ (fate_length _ _ c.requires.r_lt_rows.2) c.requires.r_lt_rows.0 written_gives c.is_trivial.ensures c.if-is_trivial.false
    c.get-alive.ensures c.if-alive-ne1.true c.put_fate-then-alive-ne1.ensures

pub returns-then-touched-ne1 : goal.returns-then-touched-ne1
returns-then-touched-ne1 c = judge_untouched _ _ _ _ _ (fate_length _ _ c.requires.r_lt_rows.2) c.requires.r_lt_rows.0 written_gives
    c.is_trivial.ensures c.if-is_trivial.false c.get-alive.ensures c.if-alive-ne1.false
    c.get-touched.ensures c.if-touched-ne1.true c.put_fate-then-touched-ne1.ensures

pub judge_touched-requires : goal.judge_touched-requires
judge_touched-requires c = record { r_lt_rows = search rules; tells_trivial = told-as c.is_trivial.ensures c.if-is_trivial.false; ready = search rules }
