-- `place`: live terms, then folded ones.
use Rattle.readers.specs.Coeffs.{place_live, place_folded}
use Rattle.readers.proofs.coeffs.place.Goals as goal

pub returns-then-k-n : goal.returns-then-k-n
returns-then-k-n c = place_live _ _ c.if-k-n.true

pub returns-else-k-n : goal.returns-else-k-n
returns-else-k-n c = place_folded _ _ c.if-k-n.false
