-- `as_written` is as_written.
use native.Mathlib.Omega.{arith}
use Rattle.folds.specs.Sized.{sized}
use Rattle.folds.specs.Written.{starts_long, cmp_long, rhs_long, index_long, coeff_long, span_rises, span_within, as_written_end}
use Rattle.folds.proofs.written.as_written.Goals as goal

pub bounds-rows-r : goal.bounds-rows-r
bounds-rows-r c = omega (arith, c.requires.r_lt_rows.0, starts_long c.requires.given.call c.requires.given.known.starts)

pub bounds-rows-r-2 : goal.bounds-rows-r-2
bounds-rows-r-2 c = omega (arith, c.requires.r_lt_rows.0, starts_long c.requires.given.call c.requires.given.known.starts)

pub write_terms-requires : goal.write_terms-requires
write_terms-requires c = search (span_rises, span_within, index_long c.requires.given.call c.requires.given.known.index, coeff_long)

pub sides-lo-requires : goal.sides-lo-requires
sides-lo-requires c = (
  omega (arith, c.requires.r_lt_rows.0, cmp_long c.requires.given.call c.requires.given.known.cmp),
  omega (arith, c.requires.r_lt_rows.0, rhs_long c.requires.given.call c.requires.given.known.rhs),
)

pub overflow_sub-e : goal.overflow_sub-e
overflow_sub-e c = search span_rises

pub returns : goal.returns
returns c = search (as_written_end, sized)
