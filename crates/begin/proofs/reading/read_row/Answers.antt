-- `read_row` reads one row as the definition does.
use Rattle.std.specs.Prelude.{Some}
use Rattle.std.proofs.Common.{arith, ap, ◌∙◌}
use Rattle.folds.specs.Written.{starts_long, cmp_long, rhs_long, span_rises}
use Rattle.begin.specs.Reading.{rows_long, read_skip, read_fail, read_add}
use Rattle.begin.proofs.reading.read_row.Goals as goal

pub verdict-requires : goal.verdict-requires
verdict-requires c = (
  omega (arith, c.requires.r_lt_rows.0, starts_long c.requires.given.call c.requires.given.known.starts),
  omega (arith, c.requires.r_lt_rows.0, cmp_long c.requires.given.call c.requires.given.known.cmp),
  omega (arith, c.requires.r_lt_rows.0, rhs_long c.requires.given.call c.requires.given.known.rhs),
  span_rises c.requires.given c.requires.r_lt_rows.0,
)

pub returns-in-Some-true : goal.returns-in-Some-true
returns-in-Some-true c = read_skip c.requires.r_lt_rows.0 (rows_long _ c.requires.r_lt_rows.3) c.verdict.ensures
    (c.in-Some-true.is ∙ ap Some c.in-Some-true.field-0-test) c.skip_row.ensures

pub returns-in-Some-false : goal.returns-in-Some-false
returns-in-Some-false c = read_fail c.requires.r_lt_rows.0 (rows_long _ c.requires.r_lt_rows.3) c.verdict.ensures
    (c.in-Some-false.is ∙ ap Some c.in-Some-false.field-0-test)

pub returns-in-None : goal.returns-in-None
returns-in-None c = read_add c.requires.r_lt_rows.0 (rows_long _ c.requires.r_lt_rows.3) c.verdict.ensures c.in-None.is c.as_written.ensures.does
    c.queue_row.ensures
