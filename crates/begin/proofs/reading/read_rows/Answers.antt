-- `read_rows` reads the rows as the definition does.
use Rattle.std.proofs.Common.{arith}
use Rattle.std.proofs.lemmas.Result.{err_from_is_err_and}
use Rattle.begin.specs.Reading.{read_start, read_turn, read_stop, read_end, turn_room}
use Rattle.begin.proofs.reading.read_rows.Goals as goal

pub loop-r-init : goal.loop-r-init
loop-r-init c = read_start c.requires.holds_f.2

pub read_row-requires-clause-r_lt_rows : goal.read_row-requires-clause-r_lt_rows
read_row-requires-clause-r_lt_rows c = (c.loop-r-test.true, turn_room c.requires.given c.loop-r.invariant, omega arith, omega arith)

pub returns-in_err-read_row : goal.returns-in_err-read_row
returns-in_err-read_row c =
    let p = err_from_is_err_and c.from_residual.result c.from_residual.ensures.1 in
    rw p.1 (read_stop c.loop-r.invariant c.loop-r-test.true c.read_row.ensures c.in_err-read_row.was)

pub loop-r-preserved : goal.loop-r-preserved
loop-r-preserved c = read_turn c.loop-r.invariant c.loop-r-test.true c.read_row.ensures c.in_ok-read_row.was

pub returns : goal.returns
returns c = read_end c.loop-r.invariant (omega arith)
