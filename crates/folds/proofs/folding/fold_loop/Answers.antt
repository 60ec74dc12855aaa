-- `fold_loop` is fold_loop, over all terms.
use Rattle.folds.specs.FoldLoop.{turned_none, turn_at, turned_more, turned_end}
use borrow.Author.Rules.{rules}
use Rattle.folds.proofs.folding.fold_loop.Goals as goal

pub loop-turn-init : goal.loop-turn-init
loop-turn-init c = search turned_none

pub fold_step-at-requires : goal.fold_step-at-requires
fold_step-at-requires c = search (turn_at, rules)

pub loop-turn-preserved : goal.loop-turn-preserved
loop-turn-preserved c = search (turned_more, rules)

pub returns : goal.returns
returns c = search (turned_end, rules)
