-- `activity`: what is left of the definition from the term looked at on gives the whole.
use native.Mathlib.Omega.{arith}
use Rattle.readers.specs.RowAt.{row_ready}
use Rattle.readers.specs.Activity.{walk_start, walk_place, walk_small, walk_var, walk_turn, walk_end}
use borrow.Author.Rules.{rules}
use Rattle.readers.proofs.rows.activity.Goals as goal

pub bounds-starts-r : goal.bounds-starts-r
bounds-starts-r g c = omega (arith, (row_ready c.requires.ready (λ M q. q) c.requires.r_lt_rows.0 c.requires.r_lt_rows.3).long)

pub loop-i-init : goal.loop-i-init
loop-i-init g c = search walk_start

pub overflow_add-a : goal.overflow_add-a
overflow_add-a g c = omega (arith, walk_small c.requires.r_lt_rows.0 c.requires.r_lt_rows.3 c.loop-i.invariant c.get-n.ensures c.loop-i-test.true)

pub get-v-requires : goal.get-v-requires
get-v-requires g c = search (walk_place, rules)

pub overflow_add-a-in-loop-i : goal.overflow_add-a-in-loop-i
overflow_add-a-in-loop-i g c = omega (
  arith,
  walk_small c.requires.r_lt_rows.0 c.requires.r_lt_rows.3 c.loop-i.invariant c.get-n.ensures
      c.loop-i-test.true,
)

pub get-x-requires : goal.get-x-requires
get-x-requires g c = search (walk_place, rules)

pub activity_term-act-requires : goal.activity_term-act-requires
activity_term-act-requires g c = (search walk_var, search rules, search rules, search rules)

pub loop-i-preserved : goal.loop-i-preserved
loop-i-preserved g c = search walk_turn

pub returns : goal.returns
returns g c = walk_end c.requires.r_lt_rows.0 c.requires.r_lt_rows.3 c.loop-i.invariant
    c.get-n.ensures c.loop-i-test.false
