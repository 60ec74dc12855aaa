-- `block_terms`: after i terms, the flags are those of the first i.
use mathlib.Core.Path.{◌≡◌}
use lib.ListN.{length}
use Rattle.space.specs.Store.{floats_of, numbers_of}
use Rattle.dual.specs.Barring.{Barring}
use Rattle.dual.proofs.blocks.block_terms.Given as goal

abbrev pub invariant-loop-i : goal.invariant-loop-i
invariant-loop-i l = (length l.numbers ≡ length l.initial.numbers) × Barring l.cx l.a l.k l.i l.ge l.le (floats_of l.cx l.floats) (numbers_of l.cx l.initial.numbers) (numbers_of l.cx l.numbers)
