-- `singleton_misses` is singleton_misses.
use Rattle.singles.specs.Singleton.{misses_is}
use Rattle.singles.proofs.singleton.singleton_misses.Goals as goal

pub returns : goal.returns
returns c = misses_is _ _ _ _ _ c.written_limits-x.ensures.read c.written_limits-x.ensures.written c.emitted.ensures c.misses.ensures
