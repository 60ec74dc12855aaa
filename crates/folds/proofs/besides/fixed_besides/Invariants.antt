-- `fixed_besides` is fixed_besides, of the row's own binding.
use Rattle.std.proofs.Common.{◌-◌, ◌≤◌}
use Rattle.space.specs.Store.{floats_of, numbers_of}
use Rattle.folds.specs.Besides.{listed, Summed}
use Rattle.folds.proofs.besides.fixed_besides.Given as goal

abbrev pub invariant-loop-i : goal.invariant-loop-i
invariant-loop-i l = (l.e - l.n ≤ l.i) × Summed l.starts l.cx l.r (listed l.a l.k (numbers_of l.cx l.numbers).binary) (floats_of l.cx l.floats) (numbers_of l.cx l.numbers) (l.e - l.i) l.sum
