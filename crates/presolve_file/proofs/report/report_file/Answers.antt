-- A text that fits stands at the start of the buffer.
use Rattle.presolve_file.specs.Fitting.{fits}
use Rattle.presolve_file.proofs.report.report_file.Goals as goal

pub returns-clause-part : goal.returns-clause-part
returns-clause-part g c = rw c.unwrap_or.ensures (fits _ _ _ c.print_file.ensures).0

pub returns-clause-text_after : goal.returns-clause-text_after
returns-clause-text_after g c = rw c.unwrap_or.ensures (fits _ _ _ c.print_file.ensures).1.0

pub returns-clause-text_after_2 : goal.returns-clause-text_after_2
returns-clause-text_after_2 g c = (fits _ _ _ c.print_file.ensures).1.1
