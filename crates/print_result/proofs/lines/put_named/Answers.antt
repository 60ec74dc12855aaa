-- One field after the other.
use Rattle.print_result.proofs.lines.put_named.Goals as goal

pub returns : goal.returns
returns g c = g.met.S.Sink.joined _ _ _ _ _ c.put_text.ensures
    (g.met.S.Sink.joined _ _ _ _ _ c.put_number.ensures
    (c.put.ensures))
