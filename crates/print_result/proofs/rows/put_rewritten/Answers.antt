-- One field after the other.
use Rattle.print_result.specs.Text.{ascii, rewritten_line}
use Rattle.print_result.proofs.rows.put_rewritten.Goals as goal

pub returns : goal.returns
unfolding ascii rewritten_line
returns g c = g.met.S.Sink.joined _ _ _ _ _ c.put_text.ensures
    (g.met.S.Sink.joined _ _ _ _ _ c.put_number.ensures
    (g.met.S.Sink.joined _ _ _ _ _ c.put_text-2.ensures
    (g.met.S.Sink.joined _ _ _ _ _ c.put_float.ensures
    (c.put.ensures))))
