-- The line of the word and the number.
use Rattle.print_result.specs.Text.{ascii, refused_line}
use Rattle.print_result.proofs.lines.put_refused.Goals as goal

pub returns : goal.returns
unfolding ascii refused_line
returns g c = c.put_named.ensures
