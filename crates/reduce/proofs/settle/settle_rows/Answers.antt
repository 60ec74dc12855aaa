-- `settle_rows` is settle_from, of all rows.
use Rattle.std.proofs.Common.{arith}
use Rattle.std.proofs.lemmas.Result.{err_from_is_err_and}
use Rattle.reduce.specs.Settling.{settle_start, settle_turn, settle_stop, settle_end}
use Rattle.reduce.proofs.settle.settle_rows.Goals as goal

pub loop-r-init : goal.loop-r-init
loop-r-init c = settle_start c.requires.ready

pub returns-in_err-settle_row : goal.returns-in_err-settle_row
returns-in_err-settle_row c =
    let p = err_from_is_err_and c.from_residual.result c.from_residual.ensures.1 in
    rw p.1 (settle_stop c.loop-r.invariant c.loop-r-test.true c.settle_row.ensures c.in_err-settle_row.was)

pub loop-r-preserved : goal.loop-r-preserved
loop-r-preserved c = settle_turn c.loop-r.invariant c.loop-r-test.true c.settle_row.ensures c.in_ok-settle_row.was

pub returns : goal.returns
returns c = settle_end c.loop-r.invariant (omega arith)
