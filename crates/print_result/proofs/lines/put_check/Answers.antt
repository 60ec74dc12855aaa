-- One line after the other.
use Rattle.print_result.specs.Text.{check_text}
use Rattle.print_result.proofs.lines.put_check.Goals as goal

pub returns : goal.returns
unfolding check_text
returns g c = g.met.S.Sink.joined _ _ _ _ _ c.put_verdict.ensures c.put_excursion.ensures
