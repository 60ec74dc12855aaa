-- `settle_alive` is settle_alive, of the row folded.
use Rattle.view.specs.Acts.{ready_after}
use Rattle.folds.specs.Stands.{standing, turns_acts}
use Rattle.folds.specs.Kept.{fold_fixed_keeps}
use Rattle.reduce.specs.Settling.{alive_empty, alive_left}
use Rattle.std.proofs.Common.{rules}
use Rattle.reduce.proofs.settle.settle_alive.Goals as goal

pub fold_row-requires : goal.fold_row-requires
fold_row-requires c = search standing

pub empty_row_check-requires : goal.empty_row_check-requires
empty_row_check-requires c = record {
  r_lt_rows = search rules;
  ready = ready_after c.requires.ready (turns_acts c.requires.r_lt_rows.0 c.requires.r_lt_rows.3 c.fold_row.ensures)
      (fold_fixed_keeps _ c.requires.r_lt_rows.0);
}

pub returns-then-len-eq0 : goal.returns-then-len-eq0
returns-then-len-eq0 c = alive_empty _ c.requires.r_lt_rows.0 c.requires.r_lt_rows.3 (turns_acts c.requires.r_lt_rows.0 c.requires.r_lt_rows.3 c.fold_row.ensures)
    c.get-len.ensures c.if-len-eq0.true c.empty_row_check.ensures

pub returns : goal.returns
returns c = alive_left _ c.requires.r_lt_rows.0 c.requires.r_lt_rows.3
    (turns_acts c.requires.r_lt_rows.0 c.requires.r_lt_rows.3 c.fold_row.ensures)
    c.get-len.ensures c.if-len-eq0.false
