-- One field after the other.
use Rattle.print_result.specs.Text.{ascii, term_line}
use Rattle.print_result.proofs.rows.put_term.Goals as goal

pub returns : goal.returns
unfolding ascii term_line
returns g c = g.met.S.Sink.joined _ _ _ _ _ c.put_text.ensures
    (g.met.S.Sink.joined _ _ _ _ _ c.put_number.ensures
    (g.met.S.Sink.joined _ _ _ _ _ c.put_float.ensures
    (c.put.ensures)))
