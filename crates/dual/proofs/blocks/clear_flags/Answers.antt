-- `clear_flags`: the flags of the variables below v are clear.
use Rattle.space.specs.Blocks.{bad_dec_length, bad_inc_length}
use Rattle.dual.specs.Flags.{clear_start, clear_turn, clear_end}
use borrow.Author.Rules.{rules}
use Rattle.dual.proofs.blocks.clear_flags.Goals as goal

pub loop-v-init : goal.loop-v-init
loop-v-init c = search (clear_start, bad_dec_length, bad_inc_length)

pub loop-v-preserved : goal.loop-v-preserved
loop-v-preserved c = (
  search rules,
  clear_turn c.loop-v.invariant.1 c.loop-v-test.true c.put.ensures
      c.put-in-loop-v.ensures,
)

pub returns : goal.returns
returns c = clear_end c.loop-v.invariant.1 c.loop-v-test.false
