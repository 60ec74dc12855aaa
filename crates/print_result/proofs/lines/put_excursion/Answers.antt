-- One field after the other.
use Rattle.print_result.specs.Text.{ascii, excursion_line}
use Rattle.print_result.proofs.lines.put_excursion.Goals as goal

pub returns : goal.returns
unfolding ascii excursion_line
returns g c = g.met.S.Sink.joined _ _ _ _ _ c.put_text.ensures (g.met.S.Sink.joined _ _ _ _ _ c.put_float.ensures (c.put.ensures))
