-- `upper_stays`, by the kind of the variable.
use Rattle.std.proofs.Common.{sym, ap, ◌∙◌}
use lib.Ieee.{le}
use Rattle.floats.specs.Num.{◌⊖◌, ½f}
use Rattle.formulas.specs.Stays.{held_so, upper_int_stays, upper_real_stays}
use Rattle.formulas.proofs.bounds.upper_stays.Goals as goal

pub returns-then-int-clause-upper_stays : goal.returns-then-int-clause-upper_stays
returns-then-int-clause-upper_stays c t = upper_int_stays (held_so c.well_formed.1.0.1) c.if-int.true (ap (le (c.args.ehi ⊖ ½f)) (sym c.floor.ensures) ∙ t)

pub returns-else-int-clause-upper_stays : goal.returns-else-int-clause-upper_stays
returns-else-int-clause-upper_stays c = search (upper_real_stays, held_so)
