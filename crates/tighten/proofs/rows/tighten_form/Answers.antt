-- `tighten_form`, by whether the row is left alone.
use Rattle.view.specs.Steps.{ready_under}
use Rattle.coeffs.specs.Eligible.{row_limits}
use Rattle.tighten.specs.Tightening.{tightening_binaries}
use Rattle.tighten.specs.Rows.{form_spared, form_rewrites}
use borrow.Author.Rules.{rules}
use Rattle.tighten.proofs.rows.tighten_form.Goals as goal

pub eligible-n-requires : goal.eligible-n-requires
eligible-n-requires c = record { r_lt_rows = search rules; row_limits = row_limits c.limits-limits.ensures; ready = search (ready_under, tightening_binaries) }

pub get-len-requires : goal.get-len-requires
get-len-requires c = search rules

pub returns-then-spared : goal.returns-then-spared
returns-then-spared c = form_spared _ _ c.requires.r_lt_rows.0 c.requires.r_lt_rows.3 c.activity-act.ensures c.limits-limits.ensures
    c.vacuous_room-room.ensures c.eligible-n.ensures
    c.get-len.ensures c.spared.ensures c.if-spared.true

pub rewrite_loop-requires : goal.rewrite_loop-requires
rewrite_loop-requires c = record { r_lt_rows = c.requires.r_lt_rows; ready = c.requires.ready }

pub returns : goal.returns
returns c = form_rewrites _ _ c.requires.r_lt_rows.0 c.requires.r_lt_rows.3 c.activity-act.ensures c.limits-limits.ensures
    c.vacuous_room-room.ensures c.eligible-n.ensures c.get-len.ensures c.spared.ensures
    c.if-spared.false c.rewrite_loop.ensures
