-- One field after the other.
use Rattle.print_result.specs.Text.{ascii, off_line}
use Rattle.print_result.proofs.lines.put_off.Goals as goal

pub returns : goal.returns
unfolding ascii off_line
returns g c = g.met.S.Sink.joined _ _ _ _ _ c.put_text.ensures
    (g.met.S.Sink.joined _ _ _ _ _ c.put_number.ensures
    (g.met.S.Sink.joined _ _ _ _ _ c.put_number-2.ensures
    (c.put.ensures)))
