-- `fixed_term`: the folded term at place i, added where its variable is none of the k binaries from place a on.
use Rattle.folds.specs.Besides.{besides_kept, besides_added}
use Rattle.folds.proofs.besides.fixed_term.Goals as goal

pub returns-then-has_among : goal.returns-then-has_among
returns-then-has_among c = search besides_kept

pub returns : goal.returns
returns c = search besides_added
