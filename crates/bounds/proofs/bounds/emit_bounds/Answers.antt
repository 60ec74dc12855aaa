-- `emit_bounds` is emit_bounds.
use Rattle.bounds.specs.Moves.{emit_tighter, emit_same}
use Rattle.bounds.proofs.bounds.emit_bounds.Goals as goal
use Rattle.bounds.proofs.bounds.emit_bounds.Goals.{then-emits_tighter, else-emits_tighter}

pub returns : goal.returns
returns c = elim c.if-emits_tighter.branch [
  | then-emits_tighter w ↦ rw w.numbers-is (emit_tighter _ _ _ c.get-elo.ensures c.get-ehi.ensures c.emits_tighter.ensures w.if-emits_tighter.true
      w.mark_tightened.ensures c.put_emitted.ensures)
  | else-emits_tighter w ↦ rw w.numbers-is (emit_same _ _ _ c.get-elo.ensures c.get-ehi.ensures c.emits_tighter.ensures w.if-emits_tighter.false
      c.put_emitted.ensures)
]
