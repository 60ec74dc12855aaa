-- `fold_loop` is fold_loop, over all terms.
use Rattle.space.specs.Store.{floats_of, numbers_of}
use Rattle.folds.specs.FoldLoop.{Turned}
use Rattle.folds.proofs.folding.fold_loop.Given as goal

abbrev pub invariant-loop-turn : goal.invariant-loop-turn
invariant-loop-turn l = Turned l.starts l.cx l.r l.terms l.at l._turn (floats_of l.cx l.initial.floats) (numbers_of l.cx l.initial.numbers) (floats_of l.cx l.floats) (numbers_of l.cx l.numbers)
