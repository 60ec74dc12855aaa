-- `singleton_bounds` is singleton_bounds.
use Rattle.readers.specs.Reading.{domain_in}
use Rattle.readers.specs.Knowing.{moves_spans, moves_domains, span_at}
use Rattle.singles.specs.Singleton.{bounds_int, bounds_stop, bounds_leave}
use Rattle.readers.specs.Vars.{int_reads}
use Rattle.singles.proofs.singleton.singleton_bounds.Goals as goal

pub is_int-requires : goal.is_int-requires
is_int-requires c = search (domain_in, moves_domains)

pub returns-then-is_int : goal.returns-then-is_int
returns-then-is_int c = bounds_int _ _ _ _ _ (int_reads _ c.is_int.ensures) c.if-is_int.true
    c.singleton_int.ensures

pub singleton_misses-requires : goal.singleton_misses-requires
singleton_misses-requires c = search (span_at, moves_spans)

pub returns-then-singleton_misses : goal.returns-then-singleton_misses
returns-then-singleton_misses c = bounds_stop _ _ _ _ _ (int_reads _ c.is_int.ensures) c.requires.r_lt_rows.4
    c.singleton_misses.ensures c.if-is_int.false c.if-singleton_misses.true

pub returns : goal.returns
returns c = bounds_leave _ _ _ _ _ (int_reads _ c.is_int.ensures) c.requires.r_lt_rows.4
    c.singleton_misses.ensures c.if-is_int.false c.if-singleton_misses.false
