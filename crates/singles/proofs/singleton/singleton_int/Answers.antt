-- `singleton_int` is singleton_int.
use Rattle.view.specs.Steps.{ready_under}
use Rattle.readers.specs.Knowing.{marks_spans, marks_adj, span_at}
use Rattle.singles.specs.Singleton.{int_stop, int_emit}
use Rattle.singles.proofs.singleton.singleton_int.Goals as goal

pub written_limits-x-requires : goal.written_limits-x-requires
written_limits-x-requires c = search (span_at, marks_spans)

pub returns-then-lo-hi : goal.returns-then-lo-hi
returns-then-lo-hi c = int_stop _ _ _ _ _ c.requires.r_lt_rows.4 c.written_limits-x.ensures.read c.written_limits-x.ensures.written
    c.get.ensures c.get-2.ensures c.new_lower-lo.ensures
    c.new_upper-hi.ensures c.if-lo-hi.true

pub emit_bounds-requires : goal.emit_bounds-requires
emit_bounds-requires c = search (ready_under, marks_adj)

pub returns : goal.returns
returns c = int_emit _ _ _ _ _ c.requires.r_lt_rows.4 c.written_limits-x.ensures.read c.written_limits-x.ensures.written
    c.get.ensures c.get-2.ensures c.new_lower-lo.ensures
    c.new_upper-hi.ensures c.if-lo-hi.false c.emit_bounds.ensures
