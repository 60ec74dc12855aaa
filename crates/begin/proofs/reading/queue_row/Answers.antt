-- `queue_row` stores a row's flags, and adds it to the queue.
use Rattle.space.specs.Store.{numbers_of}
use Rattle.begin.specs.Reading.{queue_end}
use Rattle.begin.proofs.reading.queue_row.Goals as goal

pub returns : goal.returns
returns c = queue_end _ (numbers_of c.args.cx c.args.numbers.now) c.get-q.ensures c.put.ensures c.put-2.ensures c.put-3.ensures c.put-4.ensures
