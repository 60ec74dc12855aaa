-- `lower_stays`, by the kind of the variable.
use Rattle.std.proofs.Common.{sym, ap, ◌∙◌}
use lib.Ieee.{le}
use Rattle.floats.specs.Num.{◌⊕◌, ½f}
use Rattle.formulas.specs.Stays.{held_so, lower_int_stays, lower_real_stays}
use Rattle.formulas.proofs.bounds.lower_stays.Goals as goal

pub returns-then-int-clause-lower_stays : goal.returns-then-int-clause-lower_stays
returns-then-int-clause-lower_stays c t = lower_int_stays (held_so c.well_formed.1.0.1) c.if-int.true (ap (λ z. le z (c.args.elo ⊕ ½f)) (sym c.ceil.ensures) ∙ t)

pub returns-else-int-clause-lower_stays : goal.returns-else-int-clause-lower_stays
returns-else-int-clause-lower_stays c = search (lower_real_stays, held_so)
