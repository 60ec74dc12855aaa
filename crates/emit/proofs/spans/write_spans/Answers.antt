-- `write_spans` is from and upto of emitted, at the front of the slices.
use Rattle.emit.specs.FateNumbers.{out_now}
use Rattle.emit.specs.Filling.{fill_start, fill_room, fill_one, fill_none}
use Rattle.emit.specs.Spans.{none_before, before_next}
use Rattle.emit.proofs.spans.write_spans.Goals as goal
use Rattle.emit.proofs.spans.write_spans.Goals.{then-is_out, else-is_out}

pub loop-r-init : goal.loop-r-init
loop-r-init c = (none_before _, fill_start _ _ _, fill_start _ _ _)

pub bounds-from-n : goal.bounds-from-n
bounds-from-n c = fill_room _ _ c.loop-r.invariant.1 c.loop-r-test.true c.requires.holds_n.1

pub bounds-upto-n : goal.bounds-upto-n
bounds-upto-n c = fill_room _ _ c.loop-r.invariant.2 c.loop-r-test.true c.requires.holds_n.2

pub loop-r-preserved : goal.loop-r-preserved
loop-r-preserved c = elim c.if-is_out.branch [
  | then-is_out w ↦
      let t = out_now c.fate_of.ensures c.is_out.ensures w.if-is_out.true in (
        before_next _ _ c.terms_with-with.ensures,
        fill_one _ _ c.loop-r.invariant.1 c.loop-r-test.true c.requires.holds_n.1 t w.span_of-span.ensures.from w.from-is w.n-is,
        fill_one _ _ c.loop-r.invariant.2 c.loop-r-test.true c.requires.holds_n.2 t w.span_of-span.ensures.upto w.upto-is w.n-is,
      )
  | else-is_out w ↦
      let t = out_now c.fate_of.ensures c.is_out.ensures w.if-is_out.false in (
        before_next _ _ c.terms_with-with.ensures,
        fill_none _ _ c.loop-r.invariant.1 t w.from-is w.n-is,
        fill_none _ _ c.loop-r.invariant.2 t w.upto-is w.n-is,
      )
]
