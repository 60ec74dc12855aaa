-- `tighten_binary_coeffs`: what is left of the definition from row r on gives the whole.
use Rattle.tighten.specs.All.{all_start, all_turn, all_end}
use Rattle.tighten.proofs.rows.tighten_binary_coeffs.Goals as goal

pub loop-r-init : goal.loop-r-init
loop-r-init c = search all_start

pub loop-r-preserved : goal.loop-r-preserved
loop-r-preserved c = search all_turn

pub returns : goal.returns
returns c = search all_end
