-- `sized`: 0 / 0 is not a number.
use Rattle.std.specs.Prelude.{refl}
use Rattle.std.specs.Float.Ieee.{of_bits, div}
use Rattle.presolve_trials.proofs.lend.sized.Goals as goal

pub returns : goal.returns
unfolding of_bits div
returns c = (refl, refl, refl, refl, refl, refl, refl, refl, refl)
