-- `lower_int` is lower_int.
use Rattle.std.specs.Prelude.{Ok}
use Rattle.std.proofs.Common.{ap, ◌∙◌}
use Rattle.std.proofs.lemmas.Result.{err_from_is_err_and}
use Rattle.bounds.specs.Moves.{lower_int_leave, lower_int_stop, lower_int_tight}
use Rattle.bounds.proofs.bounds.lower_int.Goals as goal

pub returns-in_err-lower_int_move : goal.returns-in_err-lower_int_move
returns-in_err-lower_int_move c =
    let p = err_from_is_err_and c.from_residual.result c.from_residual.ensures.1 in
    rw p.1 (lower_int_stop _ _ c.get-elo.ensures c.get-whi.ensures c.lower_int_move.ensures c.in_err-lower_int_move.was)

pub returns-then-branch : goal.returns-then-branch
returns-then-branch c = lower_int_tight _ _ c.get-elo.ensures c.get-whi.ensures c.lower_int_move.ensures
    (c.in_ok-lower_int_move.was ∙ ap Ok c.if-branch.true) c.get-wlo.ensures c.put.ensures c.larger.ensures c.put-then-branch.ensures c.mark_tightened.ensures

pub returns-else-branch : goal.returns-else-branch
returns-else-branch c = lower_int_leave _ _ c.get-elo.ensures c.get-whi.ensures c.lower_int_move.ensures
    (c.in_ok-lower_int_move.was ∙ ap Ok c.if-branch.false)
