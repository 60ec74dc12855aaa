-- `wave_row` is wave_row.
use native.Mathlib.Omega.{arith}
use mathlib.Core.Path.{sym, ◌∙◌}
use Rattle.view.specs.Steps.{ready_under}
use Rattle.view.specs.Known.{known_written}
use Rattle.folds.specs.Stands.{standing}
use Rattle.wave.specs.Row.{ready_clear, ready_folded, alive_folded, row_dead, row_live}
use borrow.Author.Rules.{rules}
use Rattle.wave.proofs.one_row.wave_row.Goals as goal

pub fold_row-requires : goal.fold_row-requires
fold_row-requires c = record {
  r_lt_rows = search rules;
  standing = standing (ready_under known_written (ready_clear _ c.requires.r_lt_rows.0 c.put.ensures
      c.requires.ready_row)) c.requires.r_lt_rows.0 (sym c.get.ensures ∙ c.if-get-eq1.true);
}

pub by_count-requires : goal.by_count-requires
by_count-requires c = record {
  r_lt_rows = (
    c.requires.r_lt_rows.0,
    omega (arith, c.fold_row.auto, c.requires.r_lt_rows.1),
    omega (arith, c.fold_row.auto, c.put.auto, c.requires.r_lt_rows.2),
    alive_folded _ c.requires.r_lt_rows.0 c.put.ensures c.get.ensures c.if-get-eq1.true
        c.fold_row.ensures c.requires.ready_row,
  );
  ready = ready_folded _ c.requires.r_lt_rows.0 c.put.ensures c.get.ensures c.if-get-eq1.true
      c.fold_row.ensures c.requires.ready_row;
}

pub returns-then-get-eq1 : goal.returns-then-get-eq1
returns-then-get-eq1 c = row_live _ c.requires.r_lt_rows.0
    c.put.ensures
    c.get.ensures
    c.if-get-eq1.true
    c.fold_row.ensures
    c.by_count.ensures

pub returns : goal.returns
returns c = row_dead _ c.requires.r_lt_rows.0 c.put.ensures
    c.get.ensures c.if-get-eq1.false
