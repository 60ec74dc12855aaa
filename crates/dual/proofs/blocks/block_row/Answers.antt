-- `block_row`, by whether the row is alive.
use Rattle.dual.specs.Barring.{row_fits, row_below, row_bars_lem, row_dead}
use Rattle.dual.proofs.blocks.block_row.Goals as goal

pub block_terms-requires-clause-k_bound : goal.block_terms-requires-clause-k_bound
block_terms-requires-clause-k_bound c = (row_fits c.requires.ready c.requires.r_lt_rows.0 c.get.ensures c.if-get-eq1.true c.get-k.ensures, c.requires.r_lt_rows.1, c.requires.r_lt_rows.2)

pub block_terms-requires-clause-terms_below : goal.block_terms-requires-clause-terms_below
block_terms-requires-clause-terms_below c = row_below c.requires.ready c.requires.r_lt_rows.0 c.get.ensures c.if-get-eq1.true c.get-k.ensures

pub returns-then-get-eq1 : goal.returns-then-get-eq1
returns-then-get-eq1 c = row_bars_lem _ _ _ c.get.ensures c.if-get-eq1.true c.get-k.ensures c.get-then-get-eq1.ensures c.is_finite-ge.ensures
    c.get-then-get-eq1-2.ensures c.is_finite-le.ensures c.block_terms.ensures

pub returns-else-get-eq1 : goal.returns-else-get-eq1
returns-else-get-eq1 c = row_dead _ _ _ c.get.ensures c.if-get-eq1.false
