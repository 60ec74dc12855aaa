-- A row past the end, and the last start, have no terms.
use Rattle.std.proofs.Common.{rules}
use Rattle.whole_numbers.specs.Branches.{row_past, row_last, row_length}
use Rattle.whole_numbers.proofs.conditions.row_long.Goals as goal

pub returns-then-r-starts : goal.returns-then-r-starts
returns-then-r-starts c = search (row_past, rules)

pub returns-in-Some : goal.returns-in-Some
returns-in-Some c = search (row_length, rules)

pub returns-in-None : goal.returns-in-None
returns-in-None c = search (row_last, rules)
