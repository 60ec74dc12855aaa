-- `relax_binding` is relax_binding.
use Rattle.space.specs.Store.{floats_of, numbers_of}
use Rattle.space.specs.Blocks.{kept_length}
use Rattle.folds.specs.Relaxing.{relax_none, relax_same, relax_more}
use Rattle.folds.proofs.relaxing.relax_binding.Goals as goal

pub returns-then-get-eq0 : goal.returns-then-get-eq0
returns-then-get-eq0 c = search relax_none

pub returns-then-kept-old : goal.returns-then-kept-old
returns-then-kept-old c = relax_more (floats_of c.args.cx c.args.floats.now) (numbers_of c.args.cx c.args.numbers.now) c.requires.r_lt_rows.0
    c.get.ensures c.if-get-eq0.false c.fixed_besides-fixed.ensures
    c.get-written.ensures c.get-rewritten.ensures
    c.rewrite_room-kept.ensures c.get-old.ensures (kept_length _ _ c.requires.r_lt_rows.1)
    c.if-kept-old.true c.put.ensures c.widen.ensures

pub returns-else-kept-old : goal.returns-else-kept-old
returns-else-kept-old c = search relax_same
