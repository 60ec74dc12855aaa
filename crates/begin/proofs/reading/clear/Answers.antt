-- `clear` stores to the queue's length and the five counts.
use Rattle.space.specs.Store.{numbers_of}
use Rattle.begin.specs.Reading.{clear_end}
use Rattle.begin.proofs.reading.clear.Goals as goal

pub returns : goal.returns
returns c = clear_end (numbers_of c.args.cx c.args.numbers.now) c.put.ensures c.put-2.ensures c.put-3.ensures c.put-4.ensures c.put-5.ensures c.put-6.ensures
