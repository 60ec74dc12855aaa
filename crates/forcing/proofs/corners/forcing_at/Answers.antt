-- `forcing_at` is forcing_at.
use Rattle.forcing.specs.Forced.{forcing_not, forcing_all}
use Rattle.forcing.proofs.corners.forcing_at.Goals as goal

pub returns-then-sliver_fits : goal.returns-then-sliver_fits
returns-then-sliver_fits c = forcing_all _ _ _ c.requires.limits.read c.requires.limits.written c.sliver_fits.ensures c.if-sliver_fits.true c.all_forced.ensures

pub returns-else-sliver_fits : goal.returns-else-sliver_fits
returns-else-sliver_fits c = rw c.if-sliver_fits.false (forcing_not _ _ _ c.requires.limits.read c.requires.limits.written c.sliver_fits.ensures c.if-sliver_fits.false)
