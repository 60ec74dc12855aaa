-- A row's head, then as many terms as it says.
use Rattle.model_file.specs.Skips.{row_passed, row_headless, row_cut}
use Rattle.model_file.proofs.Exits.{failed}
use Rattle.model_file.proofs.scan.skip_row.Goals as goal

pub returns-in_err-head-clause-read : goal.returns-in_err-head-clause-read
returns-in_err-head-clause-read c = failed _ _ _ c.from_residual.ensures.1 (row_headless _ _ c.in_err-head.ensures.read)

pub returns-in_err-skip-clause-read : goal.returns-in_err-skip-clause-read
returns-in_err-skip-clause-read c = failed _ _ _ c.from_residual-in_err-skip.ensures.1 (row_cut _ _ c.in_ok-head.ensures.read c.in_err-skip.ensures)

pub returns-clause-read : goal.returns-clause-read
returns-clause-read c = row_passed _ _ c.in_ok-head.ensures.read c.in_ok-skip.ensures
