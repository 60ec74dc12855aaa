-- `forced_term` is forced_term.
use Rattle.forcing.specs.Forced.{forced_is}
use Rattle.readers.specs.Vars.{int_reads}
use Rattle.forcing.proofs.corners.forced_term.Goals as goal

pub returns : goal.returns
returns c = forced_is _ _ _ _ _ c.requires.limits.read c.requires.limits.written (int_reads _ c.is_int-int.ensures) c.get-lo.ensures c.get-hi.ensures c.forced.ensures
