-- `implied_bounds` is implied_bounds, of the row that stands in the state.
use mathlib.Core.Path.{◌≡◌}
use lib.ListN.{length}
use Rattle.space.specs.Store.{floats_of, numbers_of}
use Rattle.readers.specs.Knowing.{BoundingRows}
use Rattle.bounds.specs.Loop.{Turning}
use Rattle.implied.specs.Loop.{Implying}
use Rattle.implied.proofs.implied_bounds.Given as goal

abbrev pub invariant-loop-i : goal.invariant-loop-i
invariant-loop-i l = (length l.floats ≡ length l.initial.floats) × (length l.numbers ≡ length l.initial.numbers)
    × Turning (BoundingRows l.lists) l.cx (floats_of l.cx l.initial.floats) (numbers_of l.cx l.initial.numbers) (floats_of l.cx l.floats) (numbers_of l.cx l.numbers) (Implying l.r l.act l.i)
