-- `by_count` is by_count.
use Rattle.wave.specs.ByCount.{by_none, by_one, by_more}
use Rattle.wave.proofs.count.by_count.Goals as goal

pub returns-then-n-eq0 : goal.returns-then-n-eq0
returns-then-n-eq0 c = by_none _ c.requires.r_lt_rows.0 c.requires.r_lt_rows.3 c.get-n.ensures c.if-n-eq0.true
    c.empty_row_check.ensures

pub returns-then-n-eq1 : goal.returns-then-n-eq1
returns-then-n-eq1 c = by_one _ c.requires.r_lt_rows.0 c.requires.r_lt_rows.3 c.get-n.ensures c.if-n-eq1.true
    c.singleton_row.ensures

pub returns-else-n-eq1 : goal.returns-else-n-eq1
returns-else-n-eq1 c = by_more _ c.requires.r_lt_rows.0 c.requires.r_lt_rows.3 c.get-n.ensures c.if-n-eq0.false c.if-n-eq1.false
    c.several_terms.ensures
