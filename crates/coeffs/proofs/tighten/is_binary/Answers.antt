-- `is_binary`: the test is a function of numbers.
use Rattle.coeffs.specs.Eligible.{is_binary}
use Rattle.coeffs.proofs.tighten.is_binary.Goals as goal

pub returns : goal.returns
returns c = is_binary _ c.is_int_domain-int.ensures c.get-lo.ensures c.get-hi.ensures
    c.binary.ensures
