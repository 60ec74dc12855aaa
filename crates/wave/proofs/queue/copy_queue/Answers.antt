-- `copy_queue`: the rows queued so far stand in the wave's block, in their order.
use native.Mathlib.Omega.{arith}
use Rattle.space.specs.Blocks.{wave_length, queue_length}
use Rattle.wave.specs.Begin.{copied_turn, copied_end}
use Rattle.wave.proofs.queue.copy_queue.Goals as goal

pub loop-i-preserved : goal.loop-i-preserved
loop-i-preserved c = (
  omega arith,
  omega arith,
  copied_turn c.loop-i.invariant.2 (wave_length _ _ (omega arith)) (queue_length _ _ c.requires.1) c.requires.0 c.loop-i-test.true
      c.get-r.ensures c.put.ensures,
)

pub returns : goal.returns
returns c = search copied_end
