-- `clear_flags`: the flags of the variables below v are clear.
use mathlib.Core.Path.{◌≡◌}
use lib.ListN.{length}
use Rattle.space.specs.Store.{numbers_of}
use Rattle.dual.specs.Flags.{Clearing}
use Rattle.dual.proofs.blocks.clear_flags.Given as goal

abbrev pub invariant-loop-v : goal.invariant-loop-v
invariant-loop-v l = (length l.numbers ≡ length l.initial.numbers) × Clearing l.cx l.v (numbers_of l.cx l.initial.numbers) (numbers_of l.cx l.numbers)
