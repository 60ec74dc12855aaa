-- `fold_fixed` and `hold_rewrites`: each by what the calls in it say.
use Rattle.std.proofs.Common.{arith}
use Rattle.space.specs.Store.{floats_of, numbers_of}
use Rattle.view.specs.Known.{written_spans}
use Rattle.folds.specs.Stands.{turns_under}
use Rattle.folds.specs.Holding.{in_spans, after_loop, after_relax, after_written, loop_weight, written_weight}
use Rattle.folds.specs.Holding.{hold_none, hold_lo, hold_hi, hold_back, fold_less, fold_more}
use Rattle.folds.proofs.holding.+fold_fixed_hold_rewrites.Goals as goal
use Rattle.folds.proofs.holding.+fold_fixed_hold_rewrites.Goals.{hold_rewrites-then-get-eq0-via-then-get-eq0, hold_rewrites-then-get-eq0-via-else-get-eq0+then-is_finite}
use Rattle.folds.proofs.holding.+fold_fixed_hold_rewrites.Goals.{hold_rewrites-then-get-eq0-via-else-get-eq0+else-is_finite+then-is_finite-2}

pub fold_fixed-relax_binding-requires-clause-standing : goal.fold_fixed-relax_binding-requires-clause-standing
fold_fixed-relax_binding-requires-clause-standing t c = in_spans (after_loop c.requires.standing c.fold_loop.ensures)

pub fold_fixed-hold_rewrites-requires : goal.fold_fixed-hold_rewrites-requires
fold_fixed-hold_rewrites-requires t c = (
  omega (arith, c.decreases, loop_weight c.requires.standing c.fold_loop.ensures),
  (
    (c.requires.r_lt_rows.0, omega arith, omega arith),
    after_relax (after_loop c.requires.standing c.fold_loop.ensures) c.relax_binding.ensures,
  ),
)

pub fold_fixed-returns-then-before-after : goal.fold_fixed-returns-then-before-after
fold_fixed-returns-then-before-after t c = fold_more (floats_of c.args.cx c.args.floats.now) (numbers_of c.args.cx c.args.numbers.now) c.get-before.ensures
    (turns_under written_spans c.fold_loop.ensures) c.get-after.ensures c.if-before-after.true
    (turns_under written_spans c.relax_binding.ensures) c.hold_rewrites.ensures

pub fold_fixed-returns-else-before-after : goal.fold_fixed-returns-else-before-after
fold_fixed-returns-else-before-after t c = fold_less (floats_of c.args.cx c.args.floats.now) (numbers_of c.args.cx c.args.numbers.now) c.get-before.ensures
    (turns_under written_spans c.fold_loop.ensures) c.get-after.ensures c.if-before-after.false

pub hold_rewrites-returns-then-get-eq0 : goal.hold_rewrites-returns-then-get-eq0
hold_rewrites-returns-then-get-eq0 t c =
    let f = floats_of c.args.cx c.args.floats.now in
    let n = numbers_of c.args.cx c.args.numbers.now in
    elim c.then-get-eq0.branch [
      | hold_rewrites-then-get-eq0-via-then-get-eq0 w ↦ hold_none f n c.get.ensures w.if-get-eq0.true
      | hold_rewrites-then-get-eq0-via-else-get-eq0+then-is_finite w ↦ hold_lo f n c.get.ensures w.get-else-get-eq0.ensures w.is_finite.ensures w.if-is_finite.true
      | hold_rewrites-then-get-eq0-via-else-get-eq0+else-is_finite+then-is_finite-2 w ↦
          hold_hi f n c.get.ensures w.get-else-get-eq0.ensures w.is_finite.ensures w.get-else-is_finite.ensures w.is_finite-else-is_finite.ensures w.if-is_finite-2.true
    ]

pub hold_rewrites-fold_fixed-requires : goal.hold_rewrites-fold_fixed-requires
hold_rewrites-fold_fixed-requires t c = (
  omega (arith, c.decreases, written_weight c.requires.standing c.as_written.ensures c.get.ensures c.if-get-eq0.false),
  (
    (c.requires.r_lt_rows.0, omega arith, omega arith),
    after_written c.requires.standing c.as_written.ensures c.requires.r_lt_rows.0,
  ),
)

pub hold_rewrites-returns : goal.hold_rewrites-returns
hold_rewrites-returns t c = hold_back (floats_of c.args.cx c.args.floats.now) (numbers_of c.args.cx c.args.numbers.now) c.get.ensures c.get-else-get-eq0.ensures
    c.is_finite.ensures c.get-else-is_finite.ensures c.is_finite-else-is_finite.ensures c.requires.r_lt_rows.0 c.if-get-eq0.false c.if-is_finite.false
    c.if-is_finite-2.false c.as_written.ensures c.fold_fixed.ensures
