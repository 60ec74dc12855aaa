-- Settings, variables, then the rest, in the definition's order.
use Rattle.std.proofs.Common.{◌∙◌}
use Rattle.model_file.specs.Skips.{scan_unsettled, scan_refused, scan_rows, tail_refused, rest_more, rest_done}
use Rattle.model_file.proofs.Exits.{file_failed}
use Rattle.model_file.proofs.scan.scan.Goals as goal

pub returns-in_err-vars : goal.returns-in_err-vars
returns-in_err-vars c = file_failed _ _ c.from_residual.ensures.1 (scan_unsettled _ c.in_err-vars.ensures)

pub returns-in_err-skip : goal.returns-in_err-skip
returns-in_err-skip c = file_failed _ _ c.from_residual-in_err-skip.ensures.1 (scan_refused _ c.in_ok-vars.ensures c.in_err-skip.ensures)

pub returns-in_err-terms : goal.returns-in_err-terms
returns-in_err-terms c = file_failed _ _ c.from_residual-in_err-terms.ensures.1
    (tail_refused c.in_ok-vars.field-0 _ c.in_err-terms.ensures ∙ scan_rows _ c.in_ok-vars.ensures c.in_ok-skip.ensures)

pub returns-in_err-end : goal.returns-in_err-end
returns-in_err-end c = file_failed _ _ c.from_residual-in_err-end.ensures.1
    (rest_more c.in_ok-vars.field-0 _ c.in_ok-terms.ensures c.in_err-end.ensures ∙ scan_rows _ c.in_ok-vars.ensures c.in_ok-skip.ensures)

pub returns : goal.returns
returns c = rest_done c.in_ok-vars.field-0 _ c.in_ok-terms.ensures c.in_ok-end.ensures ∙ scan_rows _ c.in_ok-vars.ensures c.in_ok-skip.ensures
