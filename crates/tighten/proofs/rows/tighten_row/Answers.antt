-- `tighten_row`, by the row's two marks.
use Rattle.tighten.specs.Rows.{row_goes, row_seen, row_dead}
use Rattle.tighten.proofs.rows.tighten_row.Goals as goal
use Rattle.tighten.proofs.rows.tighten_row.Goals.{else-get-eq1-via-else-get-eq1, else-get-eq1-via-then-get-eq1+else-get-eq1-2}

pub returns-then-get-eq1-2 : goal.returns-then-get-eq1-2
returns-then-get-eq1-2 c = row_goes _ c.requires.r_lt_rows.0 c.get.ensures c.get-then-get-eq1.ensures c.if-get-eq1.true c.if-get-eq1-2.true c.tighten_alive.ensures

pub returns-else-get-eq1 : goal.returns-else-get-eq1
returns-else-get-eq1 c = elim c.else-get-eq1.branch [
  | else-get-eq1-via-then-get-eq1+else-get-eq1-2 w ↦ row_seen _ c.requires.r_lt_rows.0 c.get.ensures w.get-then-get-eq1.ensures w.if-get-eq1-2.false
  | else-get-eq1-via-else-get-eq1 w ↦ row_dead _ c.requires.r_lt_rows.0 c.get.ensures w.if-get-eq1.false
]
