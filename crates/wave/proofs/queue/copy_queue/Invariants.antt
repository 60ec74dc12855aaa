-- `copy_queue`: the rows queued so far stand in the wave's block, in their order.
use Prim.Native.Nat.{◌≤◌}
use mathlib.Core.Path.{◌≡◌}
use lib.ListN.{length}
use Rattle.space.specs.Store.{numbers_of}
use Rattle.wave.specs.Begin.{QueueCopied}
use Rattle.wave.proofs.queue.copy_queue.Given as goal

abbrev pub invariant-loop-i : goal.invariant-loop-i
invariant-loop-i l = (length l.numbers ≡ length l.initial.numbers) × (l.i ≤ l.n) × QueueCopied (numbers_of l.cx l.initial.numbers) (numbers_of l.cx l.numbers) l.i
