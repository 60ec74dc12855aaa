-- `row_implied` is the test of singleton_drop.
use Rattle.singles.specs.Singleton.{implied_not, implied_by}
use Rattle.singles.proofs.singleton.row_implied.Goals as goal

pub returns-then-lower_meets : goal.returns-then-lower_meets
returns-then-lower_meets c = implied_by _ _ _ _ _ c.limits-x.ensures c.emitted-e.ensures
    c.lower_meets.ensures c.if-lower_meets.true c.upper_meets.ensures

pub returns-else-lower_meets : goal.returns-else-lower_meets
returns-else-lower_meets c = implied_not _ _ _ _ _ c.limits-x.ensures c.emitted-e.ensures c.lower_meets.ensures c.if-lower_meets.false
