-- `write_bounds` is lower and upper of Reduced, at the front of the slices.
use Rattle.std.proofs.Common.{arith}
use Rattle.std.specs.Float.{nan}
use Rattle.emit.specs.Filling.{copy_start, copy_turn}
use Rattle.space.specs.Blocks.{elo_length, ehi_length}
use Rattle.emit.proofs.bounds.write_bounds.Goals as goal

pub loop-v-init : goal.loop-v-init
loop-v-init c = search (copy_start, elo_length, ehi_length)

pub loop-v-preserved : goal.loop-v-preserved
loop-v-preserved c = (
  copy_turn c.loop-v.invariant.0 nan (omega arith) c.get.ensures,
  copy_turn c.loop-v.invariant.1 nan (omega arith) c.get-in-loop-v.ensures,
)
