-- `lower_real` is lower_real.
use Rattle.std.specs.Prelude.{Ok}
use Rattle.std.proofs.Common.{ap, ◌∙◌}
use Rattle.std.proofs.lemmas.Result.{err_from_is_err_and}
use Rattle.bounds.specs.Moves.{lower_real_leave, lower_real_stop, lower_real_tight}
use Rattle.bounds.proofs.bounds.lower_real.Goals as goal

pub returns-in_err-lower_real_move : goal.returns-in_err-lower_real_move
returns-in_err-lower_real_move c =
    let p = err_from_is_err_and c.from_residual.result c.from_residual.ensures.1 in
    rw p.1 (lower_real_stop _ _ c.get-wlo.ensures c.get-whi.ensures c.get-ehi.ensures c.bound_tolerance-tol.ensures c.lower_real_move.ensures c.in_err-lower_real_move.was)

pub returns-then-branch : goal.returns-then-branch
returns-then-branch c = lower_real_tight _ _ c.get-wlo.ensures c.get-whi.ensures c.get-ehi.ensures c.bound_tolerance-tol.ensures c.lower_real_move.ensures
    (c.in_ok-lower_real_move.was ∙ ap Ok c.if-branch.true) c.put.ensures c.mark_tightened.ensures

pub returns-else-branch : goal.returns-else-branch
returns-else-branch c = lower_real_leave _ _ c.get-wlo.ensures c.get-whi.ensures c.get-ehi.ensures c.bound_tolerance-tol.ensures c.lower_real_move.ensures
    (c.in_ok-lower_real_move.was ∙ ap Ok c.if-branch.false)
