-- `empty_row_check` is empty_row_check.
use Rattle.singles.specs.Empty.{empty_stop, empty_drop}
use Rattle.singles.proofs.empty.empty_row_check.Goals as goal

pub returns-then-empty_row_violated : goal.returns-then-empty_row_violated
returns-then-empty_row_violated c = empty_stop _ c.empty_row_violated.ensures c.if-empty_row_violated.true

pub returns : goal.returns
returns c = empty_drop _ c.empty_row_violated.ensures c.if-empty_row_violated.false c.drop_row.ensures
