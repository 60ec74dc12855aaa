-- `is_int_domain` asks the domain that the list has.
use Rattle.readers.specs.Vars.{domain_is}
use Rattle.readers.proofs.vars.is_int_domain.Goals as goal

pub returns : goal.returns
returns c = domain_is _ c.is_int_domain.ensures
