-- `differs`, by its three tests.
use Rattle.output.specs.Summary.{differsBy}
use Rattle.output.proofs.summary.differs.Goals as goal

pub returns : goal.returns
unfolding differsBy
returns c = rw c.bounds_changed.ensures
