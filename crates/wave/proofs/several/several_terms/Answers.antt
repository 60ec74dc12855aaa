-- `several_terms` is several_terms.
use Rattle.std.proofs.Common.{sym}
use Rattle.view.specs.Steps.{ready_under, stop_is}
use Rattle.readers.specs.Knowing.{moves_spans, moves_looks, moves_marks, span_at}
use Rattle.view.specs.Renamed.{tries_is}
use Rattle.wave.specs.Several.{several_stop, several_min, several_max, several_drop, several_implied}
use Rattle.wave.proofs.several.several_terms.Goals as goal

pub written_limits-x-requires : goal.written_limits-x-requires
written_limits-x-requires c = search (span_at, moves_spans)

pub returns-in_err-reduces : goal.returns-in_err-reduces
returns-in_err-reduces c = tries_is (several_stop _ c.requires.r_lt_rows.3 c.activity-act.ensures c.written_limits-x.ensures.read
    c.written_limits-x.ensures.written c.reach_of.ensures c.in_err-reduces.was)
    (sym (stop_is c.from_residual.result c.from_residual.ensures.0))

pub end_of-requires : goal.end_of-requires
end_of-requires c = search (ready_under, moves_looks)

pub force_row-requires : goal.force_row-requires
force_row-requires c = record { r_lt_rows = c.requires.r_lt_rows; ready = ready_under moves_marks c.requires.ready }

pub force_row-requires-in-ForceMax : goal.force_row-requires-in-ForceMax
force_row-requires-in-ForceMax c = record { r_lt_rows = c.requires.r_lt_rows; ready = ready_under moves_marks c.requires.ready }

pub returns-in-ForceMin : goal.returns-in-ForceMin
returns-in-ForceMin c = several_min _ c.requires.r_lt_rows.3 c.activity-act.ensures c.written_limits-x.ensures.read
    c.written_limits-x.ensures.written c.reach_of.ensures c.in_ok-reduces.was c.end_of.ensures c.in-ForceMin.is c.force_row.ensures

pub returns-in-ForceMax : goal.returns-in-ForceMax
returns-in-ForceMax c = several_max _ c.requires.r_lt_rows.3 c.activity-act.ensures c.written_limits-x.ensures.read
    c.written_limits-x.ensures.written c.reach_of.ensures c.in_ok-reduces.was c.end_of.ensures c.in-ForceMax.is c.force_row-in-ForceMax.ensures

pub returns-in-Drop : goal.returns-in-Drop
returns-in-Drop c = several_drop _ c.requires.r_lt_rows.3 c.activity-act.ensures c.written_limits-x.ensures.read
    c.written_limits-x.ensures.written c.reach_of.ensures c.in_ok-reduces.was c.end_of.ensures c.in-Drop.is c.drop_row.ensures

pub returns-in-Open : goal.returns-in-Open
returns-in-Open c = several_implied _ c.requires.r_lt_rows.3 c.activity-act.ensures c.written_limits-x.ensures.read
    c.written_limits-x.ensures.written c.reach_of.ensures c.in_ok-reduces.was c.end_of.ensures c.in-Open.is c.implied_bounds.ensures
