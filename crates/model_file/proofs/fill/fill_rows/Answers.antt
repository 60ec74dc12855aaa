-- The rows that are left give the whole, and none of them is refused.
use Rattle.model_file.specs.Reading.{same_then}
use Rattle.model_file.specs.Fills.{rows_filling_room, rows_filling_turn, rows_filling_bad, rows_filling_end}
use Rattle.model_file.proofs.fill.fill_rows.Goals as goal

pub fill_row-requires-clause-room : goal.fill_row-requires-clause-room
fill_row-requires-clause-room c = rows_filling_room c.loop-r.invariant.1 c.loop-r-test.true

pub returns-in_err-t-clause-ok : goal.returns-in_err-t-clause-ok
returns-in_err-t-clause-ok c = absurd (rows_filling_bad c.loop-r.invariant.1 c.loop-r-test.true c.in_err-t.ensures.read)

pub returns-in_err-t-clause-filled : goal.returns-in_err-t-clause-filled
returns-in_err-t-clause-filled c = absurd (rows_filling_bad c.loop-r.invariant.1 c.loop-r-test.true c.in_err-t.ensures.read)

pub loop-r-preserved : goal.loop-r-preserved
loop-r-preserved c = (
  same_then c.loop-r.invariant.0 c.fill_row.ensures.same,
  rows_filling_turn c.loop-r.invariant.1 c.loop-r-test.true c.in_ok-t.ensures.within c.in_ok-t.ensures.read c.fill_row.ensures.filled,
)

pub returns-clause-filled : goal.returns-clause-filled
returns-clause-filled c = rows_filling_end c.loop-r.invariant.1 c.loop-r-test.false
