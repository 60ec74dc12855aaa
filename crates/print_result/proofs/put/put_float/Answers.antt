-- A space, then sixteen digits.
use Rattle.print_result.specs.Text.{bits}
use Rattle.print_result.proofs.put.put_float.Goals as goal

pub returns : goal.returns
unfolding bits
returns g c = let e = c.f64_to_bits_with_nan.ensures in rw (← e) (g.met.S.Sink.joined _ _ _ _ _ c.put.ensures c.put_hex.ensures)
