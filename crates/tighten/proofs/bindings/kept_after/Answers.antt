-- `kept_after`: the room at the binding's magnitudes, or what is kept already.
use Rattle.folds.specs.Stands.{standing}
use Rattle.tighten.specs.Settling.{kept_reads}
use Rattle.tighten.proofs.bindings.kept_after.Goals as goal

pub fixed_besides-fixed-requires : goal.fixed_besides-fixed-requires
fixed_besides-fixed-requires c = search standing

pub returns : goal.returns
returns c = search kept_reads
