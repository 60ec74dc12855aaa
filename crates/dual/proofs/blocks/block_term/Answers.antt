-- `block_term`: both flags of one term.
use Rattle.dual.specs.Flags.{fall_barred, fall_free, rise_barred, rise_free}
use Rattle.dual.specs.Barring.{term_bars}
use Rattle.dual.proofs.blocks.block_term.Goals as goal
use Rattle.dual.proofs.blocks.block_term.Goals.{then-blocks, else-blocks}

pub returns-then-blocks-2 : goal.returns-then-blocks-2
returns-then-blocks-2 c = elim c.if-blocks.branch [
  | then-blocks w ↦ term_bars _ _ c.get-v.ensures c.get-x.ensures c.blocks-2.ensures (rw w.numbers-is (fall_barred _ w.if-blocks.true w.put.ensures))
      c.blocks-3.ensures (rise_barred _ c.if-blocks-2.true c.put-then-blocks-2.ensures)
  | else-blocks w ↦ term_bars _ _ c.get-v.ensures c.get-x.ensures c.blocks-2.ensures (rw w.numbers-is (fall_free _ w.if-blocks.false))
      c.blocks-3.ensures (rise_barred _ c.if-blocks-2.true c.put-then-blocks-2.ensures)
]

pub returns-else-blocks-2 : goal.returns-else-blocks-2
returns-else-blocks-2 c = elim c.if-blocks.branch [
  | then-blocks w ↦ term_bars _ _ c.get-v.ensures c.get-x.ensures c.blocks-2.ensures (rw w.numbers-is (fall_barred _ w.if-blocks.true w.put.ensures))
      c.blocks-3.ensures (rise_free _ c.if-blocks-2.false)
  | else-blocks w ↦ term_bars _ _ c.get-v.ensures c.get-x.ensures c.blocks-2.ensures (rw w.numbers-is (fall_free _ w.if-blocks.false))
      c.blocks-3.ensures (rise_free _ c.if-blocks-2.false)
]
