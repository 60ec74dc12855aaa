-- `mark_row` is `requeue` once the mark is set.
use Rattle.bounds.specs.Flags.{flags_old, flags_then}
use Rattle.bounds.specs.Queued.{mark_ready, mark_acts}
use borrow.Author.Rules.{rules}
use Rattle.bounds.proofs.marks.mark_row.Goals as goal

pub requeue-requires : goal.requeue-requires
requeue-requires c = record { r_lt_rows = search rules; ready_n = mark_ready _ c.put.ensures c.requires.ready_n }

pub returns : goal.returns
returns c = record {
  acts_n = mark_acts _ c.put.ensures c.requeue.ensures.acts_n;
  flags_kept = flags_then (flags_old _ c.put.ensures) c.requeue.ensures.flags_kept;
}
