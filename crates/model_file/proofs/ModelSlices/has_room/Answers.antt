-- Every slice is long enough, or one is not.
use Rattle.std.proofs.Common.{arith}
use Rattle.model_file.specs.Reading.{room_vars, room_rows}
use Rattle.model_file.proofs.ModelSlices.has_room.Goals as goal

pub returns-then-rows-self-2 : goal.returns-then-rows-self-2
unfolding room_vars room_rows
returns-then-rows-self-2 c = grind arith

pub returns-else-rows-self-2 : goal.returns-else-rows-self-2
unfolding room_vars room_rows
returns-else-rows-self-2 c = grind arith
