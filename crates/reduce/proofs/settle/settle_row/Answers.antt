-- `settle_row` is settle_row.
use Rattle.readers.specs.Trivial.{written_gives, ready_trivial}
use Rattle.reduce.specs.Settling.{row_trivial, row_gone, row_live}
use Rattle.reduce.proofs.settle.settle_row.Goals as goal

pub is_trivial-requires : goal.is_trivial-requires
is_trivial-requires c = ready_trivial c.requires.ready c.requires.r_lt_rows.0

pub returns-then-is_trivial : goal.returns-then-is_trivial
returns-then-is_trivial c = row_trivial _ c.requires.r_lt_rows.0 written_gives c.is_trivial.ensures c.if-is_trivial.true

pub returns-then-alive-eq1 : goal.returns-then-alive-eq1
returns-then-alive-eq1 c = row_live _ c.requires.r_lt_rows.0 written_gives c.is_trivial.ensures c.if-is_trivial.false
    c.get-alive.ensures c.if-alive-eq1.true c.settle_alive.ensures

pub returns : goal.returns
returns c = row_gone _ c.requires.r_lt_rows.0 written_gives c.is_trivial.ensures _ _
    c.if-is_trivial.false c.get-alive.ensures c.if-alive-eq1.false
