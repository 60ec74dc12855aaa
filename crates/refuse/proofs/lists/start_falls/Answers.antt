-- `start_falls` asks whether the starts are in order.
use Rattle.refuse.specs.Laws.{falls_below}
use Rattle.refuse.proofs.lists.start_falls.Goals as goal

pub returns : goal.returns
returns c = falls_below c.args.starts.now c.is_sorted.result c.is_sorted.ensures.cases
