-- One field after the other.
use Rattle.print_result.specs.Text.{ascii, bound_line}
use Rattle.print_result.proofs.lines.put_bound.Goals as goal

pub returns : goal.returns
unfolding ascii bound_line
returns g c = g.met.S.Sink.joined _ _ _ _ _ c.put_text.ensures
    (g.met.S.Sink.joined _ _ _ _ _ c.put_number.ensures
    (g.met.S.Sink.joined _ _ _ _ _ c.put_float.ensures
    (g.met.S.Sink.joined _ _ _ _ _ c.put_float-2.ensures
    (c.put.ensures))))
