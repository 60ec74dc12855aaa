-- `waves` is waves, as many as are left.
use mathlib.Core.Path.{◌≡◌}
use lib.ListN.{length}
use Rattle.space.specs.Store.{floats_of, numbers_of}
use Rattle.view.specs.Known.{Known}
use Rattle.wave.specs.Again.{Waving}
use Rattle.wave.proofs.again.waves.Given as goal

abbrev pub invariant-loop-p : goal.invariant-loop-p
invariant-loop-p l = (length l.floats ≡ length l.initial.floats) × (length l.numbers ≡ length l.initial.numbers)
    × Waving (Known l.lists) l.cx (floats_of l.cx l.initial.floats) (numbers_of l.cx l.initial.numbers) (floats_of l.cx l.floats) (numbers_of l.cx l.numbers) l.cap l.p
