-- `block_rows`: after r rows, the flags are those of the first r.
use Rattle.dual.specs.Flags.{ready_flags}
use Rattle.dual.specs.Barring.{rows_start, rows_turn, rows_end}
use borrow.Author.Rules.{rules}
use Rattle.dual.proofs.blocks.block_rows.Goals as goal

pub loop-r-init : goal.loop-r-init
loop-r-init c = search rows_start

pub loop-r-preserved : goal.loop-r-preserved
loop-r-preserved c = (search rules, search (rows_turn, ready_flags))

pub returns : goal.returns
returns c = search rows_end
