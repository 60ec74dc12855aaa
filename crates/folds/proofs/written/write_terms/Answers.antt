-- `write_terms`: the input's terms from place a up to e, all live.
use native.Mathlib.Omega.{arith}
use mathlib.Core.Path.{refl}
use Rattle.folds.specs.Sized.{sized}
use Rattle.folds.specs.Written.{copied_none, copied_more, copied_end}
use borrow.Author.Rules.{rules}
use Rattle.folds.proofs.written.write_terms.Goals as goal

pub loop-i-init : goal.loop-i-init
loop-i-init c = search (copied_none, rules)

pub loop-i-preserved : goal.loop-i-preserved
loop-i-preserved c = copied_more c.loop-i.invariant (sized _ _ _ (omega arith) (omega arith)) (omega arith) (omega arith) refl c.put.ensures refl c.put-in-loop-i.ensures

pub returns : goal.returns
returns c = search (copied_end, rules)
