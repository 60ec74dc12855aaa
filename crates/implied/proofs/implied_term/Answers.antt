-- `implied_term`: both halves are quiet, or they are gone through.
use Rattle.std.proofs.lemmas.Result.{err_from_is_err_and}
use Rattle.view.specs.Steps.{ready_went}
use Rattle.view.specs.Renamed.{tries_is}
use Rattle.implied.specs.Sides.{side_keeps, term_then, term_stop, term_quiet}
use Rattle.implied.proofs.implied_term.Goals as goal

pub returns-then-quiet-2 : goal.returns-then-quiet-2
returns-then-quiet-2 c = term_quiet _ c.args.x _ _ _ c.get-lo.ensures c.get-hi.ensures c.range_min.ensures c.range_max.ensures c.hi_of.ensures c.lo_of.ensures
    (c.quiet.ensures c.if-quiet.true) (c.quiet-then-quiet.ensures c.if-quiet-2.true)

pub returns-in_err-tighten : goal.returns-in_err-tighten
returns-in_err-tighten c =
    let p = err_from_is_err_and c.from_residual.result c.from_residual.ensures.1 in
    rw p.1 (term_stop _ c.args.x _ _ _ c.get-lo.ensures c.get-hi.ensures c.range_min.ensures c.range_max.ensures c.hi_of.ensures c.lo_of.ensures
    (tries_is c.tighten.ensures c.in_err-tighten.was))

pub tighten-requires-2-clause-ready : goal.tighten-requires-2-clause-ready
tighten-requires-2-clause-ready c = ready_went c.requires.ready (tries_is c.tighten.ensures c.in_ok-tighten.was) (side_keeps _ _ _ _ _ _)

pub returns : goal.returns
returns c = term_then _ c.args.x _ _ _ c.get-lo.ensures c.get-hi.ensures c.range_min.ensures c.range_max.ensures c.hi_of.ensures c.lo_of.ensures
    (tries_is c.tighten.ensures c.in_ok-tighten.was) c.tighten-2.ensures
