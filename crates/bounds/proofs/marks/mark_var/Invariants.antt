-- `mark_var` is mark_row over the rows of v.
use mathlib.Core.Path.{◌≡◌}
use lib.ListN.{length}
use Rattle.space.specs.Store.{numbers_of}
use Rattle.bounds.specs.Flags.{FlagsKept}
use Rattle.view.specs.Marks.{RowsInv}
use Rattle.bounds.proofs.marks.mark_var.Given as goal

abbrev pub invariant-loop-r : goal.invariant-loop-r
invariant-loop-r l = (length l.numbers ≡ length l.initial.numbers)
    × RowsInv l.cx l.r-items 0 (length l.r-items) l.r-index (numbers_of l.cx l.initial.numbers) (numbers_of l.cx l.numbers)
    × FlagsKept (numbers_of l.cx l.initial.numbers) (numbers_of l.cx l.numbers)
