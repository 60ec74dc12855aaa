-- `empty_row_violated`, by whether the row is trivially true.
use native.Mathlib.Omega.{arith}
use Rattle.readers.specs.Empty.{span_ready, empty_true, empty_judged}
use Rattle.readers.proofs.empty.empty_row_violated.Goals as goal

pub is_trivial-requires : goal.is_trivial-requires
is_trivial-requires c = (
  omega (arith, (span_ready c.requires.ready_f c.requires.r_lt_rows.0).starts),
  (span_ready c.requires.ready_f c.requires.r_lt_rows.0).cmps,
  (span_ready c.requires.ready_f c.requires.r_lt_rows.0).rhss,
  (span_ready c.requires.ready_f c.requires.r_lt_rows.0).rise,
)

pub bounds-rows-r : goal.bounds-rows-r
bounds-rows-r c = (span_ready c.requires.ready_f c.requires.r_lt_rows.0).cmps

pub returns-then-is_trivial : goal.returns-then-is_trivial
returns-then-is_trivial c = empty_true c.requires.r_lt_rows.0 c.is_trivial.ensures c.if-is_trivial.true

pub fixed_sum-requires : goal.fixed_sum-requires
fixed_sum-requires c = record { span = (span_ready c.requires.ready_f c.requires.r_lt_rows.0, c.requires.r_lt_rows.1) }

pub returns : goal.returns
returns c = empty_judged c.requires.r_lt_rows.0 c.is_trivial.ensures _ _
    c.if-is_trivial.false c.fixed_sum.ensures c.slack.ensures c.violates.ensures
