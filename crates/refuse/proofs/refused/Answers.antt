-- `refused` is the table of refusals: each row that does not apply is skipped, and gives the later ones what they rely on.
use mathlib.Core.Path.{sym, ◌∙◌}
use Rattle.refuse.specs.Rows.{lengths_agree, sizes_small}
use Rattle.refuse.specs.Table.{by_table, no_more, stop, skip}
use Rattle.refuse.proofs.refused.Goals as goal

pub returns-then-lengths_disagree : goal.returns-then-lengths_disagree
returns-then-lengths_disagree c = search (by_table, stop)

pub returns-then-too_large : goal.returns-then-too_large
returns-then-too_large c = search (by_table, skip, stop)

pub starts_wrong-requires : goal.starts_wrong-requires
starts_wrong-requires c = (lengths_agree _ (sym c.lengths_disagree.ensures ∙ c.if-lengths_disagree.false)).starts

pub returns-then-starts_wrong : goal.returns-then-starts_wrong
returns-then-starts_wrong c = search (by_table, skip, stop)

pub indices_wrong-requires : goal.indices_wrong-requires
indices_wrong-requires c = record {
  starts_len = (lengths_agree _ (sym c.lengths_disagree.ensures ∙ c.if-lengths_disagree.false)).starts;
  rhs_value = sym c.starts_wrong.ensures
      ∙ c.if-starts_wrong.false;
}

pub returns-then-indices_wrong : goal.returns-then-indices_wrong
returns-then-indices_wrong c = search (by_table, skip, stop)

pub rows_long-requires : goal.rows_long-requires
rows_long-requires c = (lengths_agree _ (sym c.lengths_disagree.ensures ∙ c.if-lengths_disagree.false)).starts

pub returns-then-rows_long : goal.returns-then-rows_long
returns-then-rows_long c = search (by_table, skip, stop) depth 14

pub codes_wrong-requires : goal.codes_wrong-requires
codes_wrong-requires c = let g = lengths_agree _ (sym c.lengths_disagree.ensures ∙ c.if-lengths_disagree.false) in
    (g.domain, g.cmp)

pub returns-then-codes_wrong : goal.returns-then-codes_wrong
returns-then-codes_wrong c = search (by_table, skip, stop) depth 14

pub bounds_wrong-requires : goal.bounds_wrong-requires
bounds_wrong-requires c = let g = lengths_agree _ (sym c.lengths_disagree.ensures ∙ c.if-lengths_disagree.false) in (g.lower, g.upper)

pub returns-then-bounds_wrong : goal.returns-then-bounds_wrong
returns-then-bounds_wrong c = search (by_table, skip, stop) depth 14

pub numbers_wrong-requires : goal.numbers_wrong-requires
numbers_wrong-requires c = (lengths_agree _ (sym c.lengths_disagree.ensures ∙ c.if-lengths_disagree.false)).coeff

pub returns-then-numbers_wrong : goal.returns-then-numbers_wrong
returns-then-numbers_wrong c = search (by_table, skip, stop) depth 14

pub rhses_wrong-requires : goal.rhses_wrong-requires
rhses_wrong-requires c = (lengths_agree _ (sym c.lengths_disagree.ensures ∙ c.if-lengths_disagree.false)).cmp

pub returns-then-rhses_wrong : goal.returns-then-rhses_wrong
returns-then-rhses_wrong c = search (by_table, skip, stop) depth 14

pub returns-then-tolerances_wrong : goal.returns-then-tolerances_wrong
returns-then-tolerances_wrong c = search (by_table, skip, stop) depth 14

pub too_short-requires : goal.too_short-requires
too_short-requires c = let k = sizes_small _ (sym c.too_large.ensures ∙ c.if-too_large.false) in
    (k.vars, k.rows, k.terms)

pub returns-then-too_short : goal.returns-then-too_short
returns-then-too_short c = search (by_table, skip, stop) depth 14

pub returns : goal.returns
returns c = search (by_table, skip, no_more) depth 14
