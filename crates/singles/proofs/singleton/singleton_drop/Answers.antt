-- `singleton_drop` is singleton_drop.
use Rattle.singles.specs.Singleton.{single_drop, single_stay}
use Rattle.singles.proofs.singleton.singleton_drop.Goals as goal

pub returns-then-row_implied : goal.returns-then-row_implied
returns-then-row_implied c = single_drop _ _ _ _ _ c.requires.4 c.row_implied.ensures
    c.if-row_implied.true c.drop_row.ensures

pub returns-else-row_implied : goal.returns-else-row_implied
returns-else-row_implied c = single_stay _ _ _ _ _ c.requires.4 c.row_implied.ensures c.if-row_implied.false
