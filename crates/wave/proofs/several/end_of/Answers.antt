-- `end_of` is endOf, where the working activity lets the row be forcing or redundant; else the row stays open.
use Rattle.wave.specs.Several.{end_skips, end_min, end_max, end_drop, end_open}
use Rattle.std.proofs.Common.{ap, not}
use Rattle.wave.proofs.several.end_of.Goals as goal

pub returns-then-not-reduces : goal.returns-then-not-reduces
returns-then-not-reduces c = end_skips c.args.reduces _ (ap not c.if-not-reduces.true)

pub returns-then-forces : goal.returns-then-forces
returns-then-forces c = end_min _ _ c.args.reduces (ap not c.if-not-reduces.false)
    c.activity-e.ensures c.forces.ensures c.if-forces.true

pub returns-then-forces-2 : goal.returns-then-forces-2
returns-then-forces-2 c = end_max _ _ c.args.reduces (ap not c.if-not-reduces.false) c.activity-e.ensures
    c.forces.ensures c.if-forces.false c.forces-else-forces.ensures c.if-forces-2.true

pub returns-then-redundant : goal.returns-then-redundant
returns-then-redundant c = end_drop _ _ c.args.reduces (ap not c.if-not-reduces.false) c.activity-e.ensures
    c.forces.ensures c.if-forces.false c.forces-else-forces.ensures
    c.requires.r_lt_rows.3 c.if-forces-2.false c.requires.limits c.redundant.ensures c.if-redundant.true

pub returns-else-redundant : goal.returns-else-redundant
returns-else-redundant c = end_open _ _ c.args.reduces (ap not c.if-not-reduces.false) c.activity-e.ensures
    c.forces.ensures c.if-forces.false c.forces-else-forces.ensures
    c.requires.r_lt_rows.3 c.if-forces-2.false c.requires.limits c.redundant.ensures c.if-redundant.false
