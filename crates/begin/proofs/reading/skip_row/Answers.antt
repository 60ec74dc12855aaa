-- `skip_row` stores a row's flags, and counts it.
use Rattle.space.specs.Store.{numbers_of}
use Rattle.begin.specs.Reading.{skip_end}
use Rattle.begin.proofs.reading.skip_row.Goals as goal

pub returns : goal.returns
returns c = skip_end _ (numbers_of c.args.cx c.args.numbers.now) c.put.ensures c.put-2.ensures c.put-3.ensures c.count.ensures
