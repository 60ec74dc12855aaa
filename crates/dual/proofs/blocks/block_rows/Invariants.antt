-- `block_rows`: after r rows, the flags are those of the first r.
use mathlib.Core.Path.{◌≡◌}
use lib.ListN.{length}
use Rattle.space.specs.Store.{floats_of, numbers_of}
use Rattle.dual.specs.Barring.{BarredRows}
use Rattle.dual.proofs.blocks.block_rows.Given as goal

abbrev pub invariant-loop-r : goal.invariant-loop-r
invariant-loop-r l = (length l.numbers ≡ length l.initial.numbers) × BarredRows l.starts l.cx l.r (floats_of l.cx l.floats) (numbers_of l.cx l.initial.numbers) (numbers_of l.cx l.numbers)
