-- `forces` is forces_min or forces_max.
use Rattle.readers.specs.Knowing.{looks_spans, span_at}
use Rattle.forcing.specs.Forced.{at_min, at_max, min_not, min_at, max_not, max_at}
use Rattle.forcing.proofs.corners.forces.Goals as goal

pub written_limits-x-requires : goal.written_limits-x-requires
written_limits-x-requires c = search (span_at, looks_spans)

pub returns-then-e-eq0 : goal.returns-then-e-eq0
returns-then-e-eq0 c = at_min _ _ c.if-minCorner.true (min_at _ _ _ c.requires.r_lt_rows.3 c.written_limits-x.ensures.read c.written_limits-x.ensures.written
    c.near_min.ensures c.if-near_min.true c.if-e-eq0.true c.mag_l.ensures c.forcing_at.ensures)

pub returns-else-near_min : goal.returns-else-near_min
returns-else-near_min c = at_min _ _ c.if-minCorner.true (min_not _ _ _ c.requires.r_lt_rows.3 c.written_limits-x.ensures.read c.written_limits-x.ensures.written
    c.near_min.ensures c.else-near_min.either)

pub returns-then-e-eq0-2 : goal.returns-then-e-eq0-2
returns-then-e-eq0-2 c = at_max _ _ c.if-minCorner.false (max_at _ _ _ c.requires.r_lt_rows.3 c.written_limits-x.ensures.read c.written_limits-x.ensures.written
    c.near_max.ensures c.if-near_max.true c.if-e-eq0-2.true c.mag_u.ensures c.forcing_at-then-e-eq0-2.ensures)

pub returns-else-near_max : goal.returns-else-near_max
returns-else-near_max c = at_max _ _ c.if-minCorner.false (max_not _ _ _ c.requires.r_lt_rows.3 c.written_limits-x.ensures.read c.written_limits-x.ensures.written
    c.near_max.ensures c.else-near_max.either)
