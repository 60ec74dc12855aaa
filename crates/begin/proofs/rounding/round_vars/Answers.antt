-- `round_vars` stores the definition's bounds, or finds that some cross.
use Rattle.std.specs.Prelude.{is_ok}
use Rattle.std.proofs.Common.{arith, ap}
use Rattle.std.proofs.lemmas.Result.{err_from_is_err_and}
use Rattle.begin.specs.Rounding.{four_long, round_stop, round_turn, round_end}
use Rattle.begin.proofs.rounding.round_vars.Goals as goal

pub returns-in_err-round_var : goal.returns-in_err-round_var
returns-in_err-round_var c =
    let p = err_from_is_err_and c.from_residual.result c.from_residual.ensures.1 in
    rw p.1
    (round_stop c.loop-v.invariant (four_long _ (omega arith)) c.requires.0 c.requires.1 c.loop-v-test.true c.round_var.ensures
    (ap is_ok c.in_err-round_var.was))

pub loop-v-preserved : goal.loop-v-preserved
loop-v-preserved c = round_turn c.loop-v.invariant (four_long _ (omega arith)) c.requires.0 c.requires.1 c.loop-v-test.true c.round_var.ensures
    (ap is_ok c.in_ok-round_var.was)

pub returns : goal.returns
returns c = round_end c.loop-v.invariant (four_long _ (omega arith)) c.requires.0 c.requires.1 (omega arith)
