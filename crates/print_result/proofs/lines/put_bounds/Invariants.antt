-- The lines so far are written, and the bounds that are left are those behind.
use Rattle.std.proofs.Common.{◌≡◌, ◌≤◌, drop, length}
use Rattle.print_result.specs.Text.{from_to, bound_at}
use Rattle.print_result.proofs.lines.put_bounds.Given as goal

abbrev pub invariant-loop-v : goal.invariant-loop-v
invariant-loop-v g l = g.S.Sink.wrote l.initial.out (from_to (bound_at l.lower l.upper) 0 l.v-iterator.count) l.out
    × (l.v-iterator.iter.a.rest.now ≡ drop l.v-iterator.count l.lower) × (l.v-iterator.iter.b.rest.now ≡ drop l.v-iterator.count l.upper)
    × (l.v-iterator.count ≤ length l.lower) × (l.v-iterator.count ≤ length l.upper)
