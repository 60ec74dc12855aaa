-- `rewritten_bound`, by whether the row has a binding, and by the side its bound is on.
use native.Mathlib.Omega.{arith}
use mathlib.Core.Path.{ap}
use lib.ListN.{length}
use Rattle.coeffs.specs.Bound.{at_most, not_most, bound_none, bound_up, bound_down}
use Rattle.coeffs.proofs.bindings.rewritten_bound.Goals as goal

pub bounds-rows-r : goal.bounds-rows-r
bounds-rows-r c = omega (arith, c.requires.r_lt_rows.0, c.requires.ready.call.rows, ap length c.requires.ready.known.rhs)

pub returns-then-n-eq0 : goal.returns-then-n-eq0
returns-then-n-eq0 c = search bound_none

pub bounds-rows-r-2 : goal.bounds-rows-r-2
bounds-rows-r-2 c = omega (arith, c.requires.r_lt_rows.0, c.requires.ready.call.rows, c.requires.ready.call.cmps, ap length c.requires.ready.known.cmp)

pub returns-in-AtMost : goal.returns-in-AtMost
returns-in-AtMost c = bound_up _ c.requires.r_lt_rows.0 c.requires.r_lt_rows.3 c.get-n.ensures c.if-n-eq0.false c.binding_sum-d.ensures c.get-kept.ensures
    c.from.ensures (ap at_most c.in-AtMost.is) c.add.ensures c.rounded.ensures

pub returns-in_default : goal.returns-in_default
returns-in_default c = bound_down _ c.requires.r_lt_rows.0 c.requires.r_lt_rows.3 c.get-n.ensures c.if-n-eq0.false c.binding_sum-d.ensures c.get-kept.ensures
    c.from.ensures (not_most _ c.in_default.not-AtMost) c.add-in_default.ensures c.rounded-in_default.ensures
