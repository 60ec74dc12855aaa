-- `implied_bounds` is implied_bounds, of the row that stands in the state.
use native.Mathlib.Omega.{arith}
use Rattle.std.proofs.lemmas.Result.{err_from_is_err_and}
use Rattle.readers.specs.Knowing.{moves_spans, span_at}
use Rattle.view.specs.Renamed.{tries_is}
use Rattle.bounds.specs.Loop.{turning_ready, still_place, still_small, still_var}
use Rattle.implied.specs.Loop.{implying_rows, implying_turn, implying_stop, implying_end}
use borrow.Author.Rules.{rules}
use Rattle.implied.proofs.implied_bounds.Goals as goal

pub written_limits-x-requires : goal.written_limits-x-requires
written_limits-x-requires c = search (span_at, moves_spans)

pub overflow_add-a : goal.overflow_add-a
overflow_add-a c = omega (
  arith,
  still_small implying_rows moves_spans c.requires.r_lt_rows.0 c.requires.r_lt_rows.3 c.loop-i.invariant.2 c.requires.ready
      c.get-i-end.ensures c.loop-i-test.true,
)

pub get-v-requires : goal.get-v-requires
get-v-requires c = search (still_place, implying_rows, moves_spans, rules)

pub overflow_add-a-in-loop-i : goal.overflow_add-a-in-loop-i
overflow_add-a-in-loop-i c = omega (
  arith,
  still_small implying_rows moves_spans c.requires.r_lt_rows.0 c.requires.r_lt_rows.3 c.loop-i.invariant.2 c.requires.ready
      c.get-i-end.ensures c.loop-i-test.true,
)

pub get-c-requires : goal.get-c-requires
get-c-requires c = (search (still_place, implying_rows, moves_spans), omega arith)

pub implied_term-requires-clause-v_lt_vars : goal.implied_term-requires-clause-v_lt_vars
implied_term-requires-clause-v_lt_vars c = (search (still_var, implying_rows, moves_spans), omega arith, omega arith)

pub implied_term-requires-clause-ready : goal.implied_term-requires-clause-ready
implied_term-requires-clause-ready c = turning_ready c.requires.ready c.loop-i.invariant.2

pub returns-in_err-implied_term : goal.returns-in_err-implied_term
returns-in_err-implied_term c =
    let p = err_from_is_err_and c.from_residual.result c.from_residual.ensures.1 in
    rw p.1 (implying_stop moves_spans c.requires.r_lt_rows.0 c.requires.r_lt_rows.3 c.loop-i.invariant.2 c.written_limits-x.ensures.read
    c.get-i-end.ensures c.loop-i-test.true c.get-v.ensures
    c.get-c.ensures (tries_is c.implied_term.ensures c.in_err-implied_term.was))

pub loop-i-preserved : goal.loop-i-preserved
loop-i-preserved c = (
  omega (arith, c.implied_term.auto, c.loop-i.invariant.0),
  omega (arith, c.implied_term.auto, c.loop-i.invariant.1),
  implying_turn moves_spans c.requires.r_lt_rows.0 c.requires.r_lt_rows.3 c.loop-i.invariant.2 c.written_limits-x.ensures.read
      c.get-i-end.ensures c.loop-i-test.true c.get-v.ensures
      c.get-c.ensures (tries_is c.implied_term.ensures c.in_ok-implied_term.was),
)

pub returns : goal.returns
returns c = implying_end moves_spans c.requires.r_lt_rows.0 c.requires.r_lt_rows.3 c.loop-i.invariant.2 c.get-i-end.ensures c.loop-i-test.false
