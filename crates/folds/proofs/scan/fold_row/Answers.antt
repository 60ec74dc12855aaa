-- `fold_row` is fold_fixed.
use Rattle.view.specs.Known.{written_spans}
use Rattle.folds.specs.Scan.{scan_turns}
use Rattle.folds.proofs.scan.fold_row.Goals as goal

pub returns-else-folds_any : goal.returns-else-folds_any
returns-else-folds_any c = search (scan_turns, written_spans)
