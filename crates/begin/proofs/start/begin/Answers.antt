-- `begin` does what presolve does before its rounds.
use Rattle.std.specs.Prelude.{is_ok}
use Rattle.std.proofs.Common.{arith, ap}
use Rattle.std.proofs.lemmas.Result.{err_from_is_err_and}
use Rattle.begin.specs.Rounding.{four_long}
use Rattle.begin.specs.Reading.{rows_long, cleared_now}
use Rattle.begin.specs.Start.{begin_crossed, begin_cross, begin_rows}
use Rattle.begin.proofs.start.begin.Goals as goal

pub returns-then-crossed : goal.returns-then-crossed
returns-then-crossed c = begin_crossed c.crossed.ensures (cleared_now _ c.requires.holds_f.1 c.clear.ensures) c.if-crossed.true

pub returns-in_err-round_vars : goal.returns-in_err-round_vars
returns-in_err-round_vars c =
    let p = err_from_is_err_and c.from_residual.result c.from_residual.ensures.1 in
    rw p.1
    (begin_cross c.crossed.ensures (cleared_now _ c.requires.holds_f.1 c.clear.ensures) c.if-crossed.false c.round_vars.ensures
    (ap is_ok c.in_err-round_vars.was))

pub read_rows-requires-clause-holds_f : goal.read_rows-requires-clause-holds_f
read_rows-requires-clause-holds_f c = (omega arith, omega arith, cleared_now _ c.requires.holds_f.1 c.clear.ensures)

pub returns : goal.returns
returns c = begin_rows c.crossed.ensures (cleared_now _ c.requires.holds_f.1 c.clear.ensures) c.if-crossed.false c.round_vars.ensures
    (ap is_ok c.in_ok-round_vars.was) (four_long _ (omega arith)) c.fill_adjacency.ensures
    c.read_rows.ensures (rows_long _ (omega arith))
