-- `index_falls` asks whether each index is below the next.
use lib.Dec.{ltb}
use borrow.Author.Rules.{rules}
use Rattle.std.proofs.lemmas.List.Sorted.{answers_always}
use Rattle.refuse.specs.Laws.{rises_below}
use Rattle.refuse.proofs.lists.index_falls.Goals as goal

pub returns : goal.returns
returns c = rises_below c.args.indices.now c.is_sorted_by.result (c.is_sorted_by.ensures.cases ltb (answers_always _ _ _ (λ f a r f' k. search rules)))
