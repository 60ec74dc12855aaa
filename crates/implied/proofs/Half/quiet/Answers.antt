-- `Half::quiet`, by the rest of the row.
use Rattle.formulas.specs.Stays.{held_so}
use borrow.Author.Rules.{rules}
use Rattle.implied.specs.Sides.{quiet_none, quiet_still}
use Rattle.implied.proofs.Half.quiet.Goals as goal

pub returns-then-relaxes : goal.returns-then-relaxes
returns-then-relaxes c = λ t. quiet_still _ _ _ _ _ c.rest.ensures c.in-Some.is c.quotient-q.ensures c.bounds_above-above.ensures
    (held_so (search rules)) (record { relaxes = c.relaxes.ensures.relaxes c.if-relaxes.true; stays = c.stays.ensures.stays t })

pub returns-in-None : goal.returns-in-None
returns-in-None c = λ t. quiet_none _ _ _ _ _ c.rest.ensures c.in-None.is
