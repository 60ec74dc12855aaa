-- One field after the other.
use Rattle.print_result.specs.Text.{ascii, written_line}
use Rattle.print_result.proofs.rows.put_written.Goals as goal

pub returns : goal.returns
unfolding ascii written_line
returns g c = g.met.S.Sink.joined _ _ _ _ _ c.put_text.ensures
    (g.met.S.Sink.joined _ _ _ _ _ c.put_number.ensures
    (c.put_text-2.ensures))
