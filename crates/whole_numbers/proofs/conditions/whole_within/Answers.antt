-- Whole first, then the size.
use mathlib.Core.Path.{sym, ap, ◌∙◌}
use lib.Ieee.{Float, le}
use Rattle.whole_numbers.specs.Branches.{size_next, not_whole}
use Rattle.whole_numbers.proofs.conditions.whole_within.Goals as goal

pub returns-then-is_whole : goal.returns-then-is_whole
returns-then-is_whole c = ap (λ (y : Float). le y c.args.limit) c.absolute.ensures ∙ size_next c.args.x c.args.limit
    (sym c.is_whole.ensures ∙ c.if-is_whole.true)

pub returns-else-is_whole : goal.returns-else-is_whole
returns-else-is_whole c = c.if-is_whole.false ∙ not_whole _ _ (sym c.is_whole.ensures ∙ c.if-is_whole.false)
