-- `requeue`, by whether the row is queued.
use native.Mathlib.Omega.{arith}
use Rattle.space.specs.Blocks.{queue_length, queued_length}
use Rattle.bounds.specs.Flags.{flags_refl, flags_queued}
use Rattle.bounds.specs.Queued.{requeue_old, requeue_room, requeue_new}
use borrow.Author.Rules.{rules}
use Rattle.bounds.proofs.marks.requeue.Goals as goal

pub returns-then-get-eq1 : goal.returns-then-get-eq1
returns-then-get-eq1 c = record { acts_n = requeue_old c.requires.r_lt_rows.0 c.get.ensures c.if-get-eq1.true; flags_kept = flags_refl }

pub put-requires-2 : goal.put-requires-2
put-requires-2 c = search (requeue_room, rules)

pub overflow_add-q : goal.overflow_add-q
overflow_add-q c = omega (
  arith,
  requeue_room c.requires.r_lt_rows.0 c.get.ensures c.if-get-eq1.false c.put.ensures
      c.get-q.ensures c.requires.ready_n,
)

pub returns : goal.returns
returns c = record {
  acts_n = requeue_new c.requires.r_lt_rows.0 c.get.ensures
      c.if-get-eq1.false c.put.ensures c.get-q.ensures
      (queue_length _ _ c.requires.r_lt_rows.1) (queued_length _ _ c.requires.r_lt_rows.1) c.put-2.ensures
      c.put-3.ensures;
  flags_kept = flags_queued _ _ _ c.put.ensures c.put-2.ensures c.put-3.ensures;
}
