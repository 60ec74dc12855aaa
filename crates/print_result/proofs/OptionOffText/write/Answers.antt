-- The condition that fails, or none.
use Rattle.print_result.specs.Text.{numbers_text}
use Rattle.print_result.proofs.OptionOffText.write.Goals as goal

pub returns-in-None : goal.returns-in-None
unfolding numbers_text
returns-in-None g c = rw c.in-None.is c.put_whole.ensures

pub returns-in-Some : goal.returns-in-Some
unfolding numbers_text
returns-in-Some g c = rw c.in-Some.is c.put_off.ensures
