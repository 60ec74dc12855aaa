-- `wave_rows` is wave_rows, over the n rows that stand in the block of the wave's rows.
use mathlib.Core.Path.{◌≡◌}
use lib.ListN.{length}
use Rattle.space.specs.Store.{floats_of, numbers_of}
use Rattle.view.specs.Known.{Known}
use Rattle.wave.specs.Rows.{Passing}
use Rattle.wave.proofs.primal.wave_rows.Given as goal

abbrev pub invariant-loop-i : goal.invariant-loop-i
invariant-loop-i l = (length l.floats ≡ length l.initial.floats) × (length l.numbers ≡ length l.initial.numbers)
    × Passing (Known l.lists) l.cx (floats_of l.cx l.initial.floats) (numbers_of l.cx l.initial.numbers) (floats_of l.cx l.floats) (numbers_of l.cx l.numbers) l.n l.i
