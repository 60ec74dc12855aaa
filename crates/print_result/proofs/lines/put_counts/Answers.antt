-- One field after the other.
use Rattle.print_result.specs.Text.{ascii, counts_line}
use Rattle.print_result.proofs.lines.put_counts.Goals as goal

pub returns : goal.returns
unfolding ascii counts_line
returns g c = g.met.S.Sink.joined _ _ _ _ _ c.put_text.ensures
    (g.met.S.Sink.joined _ _ _ _ _ c.put_number.ensures
    (g.met.S.Sink.joined _ _ _ _ _ c.put_number-2.ensures
    (g.met.S.Sink.joined _ _ _ _ _ c.put_number-3.ensures
    (g.met.S.Sink.joined _ _ _ _ _ c.put_number-4.ensures
    (g.met.S.Sink.joined _ _ _ _ _ c.put_number-5.ensures
    (c.put.ensures))))))
