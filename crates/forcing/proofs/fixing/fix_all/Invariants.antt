-- `fix_all` is fix_all.
use mathlib.Core.Path.{◌≡◌}
use lib.ListN.{length}
use Rattle.space.specs.Store.{floats_of, numbers_of}
use Rattle.readers.specs.Knowing.{Marks}
use Rattle.bounds.specs.Loop.{Turning}
use Rattle.forcing.specs.Fixing.{FixedUpTo}
use Rattle.forcing.proofs.fixing.fix_all.Given as goal

abbrev pub invariant-loop-i : goal.invariant-loop-i
invariant-loop-i l = (length l.floats ≡ length l.initial.floats) × (length l.numbers ≡ length l.initial.numbers)
    × Turning (Marks l.lists) l.cx (floats_of l.cx l.initial.floats) (numbers_of l.cx l.initial.numbers) (floats_of l.cx l.floats) (numbers_of l.cx l.numbers) (FixedUpTo l.r l.minCorner l.i)
