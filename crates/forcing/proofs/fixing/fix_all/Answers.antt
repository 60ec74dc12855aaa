-- `fix_all` is fix_all.
use borrow.Author.Rules.{rules}
use native.Mathlib.Omega.{arith}
use Rattle.view.specs.Steps.{ready_under, acts_under}
use Rattle.readers.specs.Knowing.{marks_spans, marks_adj}
use Rattle.bounds.specs.Loop.{turning_ready, still_place, still_small, still_var}
use Rattle.forcing.specs.Fixing.{fixing_rows, fixing_turn, fixing_end}
use Rattle.forcing.proofs.fixing.fix_all.Goals as goal

pub overflow_add-a : goal.overflow_add-a
overflow_add-a c = omega (
  arith,
  still_small fixing_rows marks_spans c.requires.r_lt_rows.0 c.requires.r_lt_rows.3 c.loop-i.invariant.2 c.requires.ready
      c.get-i-end.ensures c.loop-i-test.true,
)

pub get-v-requires : goal.get-v-requires
get-v-requires c = search (still_place, fixing_rows, marks_spans, rules)

pub overflow_add-a-in-loop-i : goal.overflow_add-a-in-loop-i
overflow_add-a-in-loop-i c = omega (
  arith,
  still_small fixing_rows marks_spans c.requires.r_lt_rows.0 c.requires.r_lt_rows.3 c.loop-i.invariant.2 c.requires.ready
      c.get-i-end.ensures c.loop-i-test.true,
)

pub get-c-requires : goal.get-c-requires
get-c-requires c = search (still_place, fixing_rows, marks_spans, rules)

pub fix_term-requires : goal.fix_term-requires
fix_term-requires c = record {
  v_lt_vars = (search (still_var, fixing_rows, marks_spans), omega arith, omega arith);
  ready = ready_under marks_adj (turning_ready c.requires.ready c.loop-i.invariant.2);
}

pub loop-i-preserved : goal.loop-i-preserved
loop-i-preserved c = (
  omega arith,
  omega arith,
  fixing_turn marks_spans c.requires.r_lt_rows.0 c.requires.r_lt_rows.3 c.loop-i.invariant.2 c.get-i-end.ensures
      c.loop-i-test.true c.get-v.ensures
      c.get-c.ensures
      (acts_under marks_adj c.fix_term.ensures),
)

pub returns : goal.returns
returns c = fixing_end marks_spans c.requires.r_lt_rows.0 c.requires.r_lt_rows.3 c.loop-i.invariant.2 c.get-i-end.ensures c.loop-i-test.false
