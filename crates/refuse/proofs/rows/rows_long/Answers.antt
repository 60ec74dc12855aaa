-- `rows_long` finds the first row with too many terms.
use native.Mathlib.Omega.{arith}
use mathlib.Core.Path.{sym, ◌∙◌}
use Rattle.definition.specs.Model.{from, upto, nnz}
use Rattle.definition.specs.Refusal.{row_long, rows_long}
use Rattle.definition.specs.Of.{input_model}
use Rattle.refuse.specs.Laws.{start, turn, found, end}
use Rattle.refuse.proofs.rows.rows_long.Goals as goal

pub loop-r-init : goal.loop-r-init
loop-r-init c = start _ _

pub returns-then-row_long : goal.returns-then-row_long
unfolding rows_long row_long nnz from upto
returns-then-row_long c = found (row_long (input_model c.args.input)) _ c.loop-r.r c.loop-r-test.true (sym c.row_long.ensures ∙ c.if-row_long.true)

pub loop-r-preserved : goal.loop-r-preserved
unfolding row_long nnz from upto
loop-r-preserved c = turn c.loop-r.invariant c.loop-r-test.true (sym c.row_long.ensures ∙ c.if-row_long.false)

pub returns : goal.returns
unfolding rows_long
returns c = end c.loop-r.invariant (omega arith)
