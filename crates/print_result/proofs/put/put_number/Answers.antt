-- One field after the other.
use Rattle.print_result.specs.Text.{number}
use Rattle.print_result.proofs.put.put_number.Goals as goal

pub returns : goal.returns
unfolding number
returns g c = g.met.S.Sink.joined _ _ _ _ _ c.put.ensures
    (c.put_decimal.ensures)
