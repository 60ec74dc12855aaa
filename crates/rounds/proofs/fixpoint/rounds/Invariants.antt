-- `rounds`: what is left of the definition after n rounds gives the whole.
use mathlib.Core.Path.{◌≡◌}
use lib.ListN.{length}
use Rattle.space.specs.Store.{floats_of, numbers_of}
use Rattle.rounds.specs.After.{Running}
use Rattle.rounds.specs.Rounding.{Rounding}
use Rattle.rounds.proofs.fixpoint.rounds.Given as goal

abbrev pub invariant-loop-n : goal.invariant-loop-n
invariant-loop-n l = (length l.floats ≡ length l.initial.floats) × (length l.numbers ≡ length l.initial.numbers)
    × Rounding (Running l.obj l.lists l.mode) l.cx (floats_of l.cx l.initial.floats) (numbers_of l.cx l.initial.numbers) (floats_of l.cx l.floats) (numbers_of l.cx l.numbers) l.cap l.n
