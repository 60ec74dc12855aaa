-- `some_row_unordered` finds the first row whose indices do not rise.
use native.Mathlib.Omega.{arith}
use mathlib.Core.Path.{sym, ◌∙◌}
use borrow.Author.Rules.{rules}
use Rattle.refuse.specs.Laws.{start, turn, found, end}
use Rattle.definition.specs.Of.{input_model}
use Rattle.refuse.specs.Rows.{span, unordered_is}
use Rattle.refuse.proofs.rows.some_row_unordered.Goals as goal

pub loop-r-init : goal.loop-r-init
loop-r-init c = start _ _

pub offset_bounds-index-from : goal.offset_bounds-index-from
offset_bounds-index-from c =
    let s = span (input_model c.args.input) c.requires.rhs_value c.loop-r.r c.loop-r-test.true in
    search rules

pub slice_bounds-index_falls-count : goal.slice_bounds-index_falls-count
slice_bounds-index_falls-count c = (span (input_model c.args.input) c.requires.rhs_value c.loop-r.r c.loop-r-test.true).rise

pub slice_bounds-index_falls-start : goal.slice_bounds-index_falls-start
slice_bounds-index_falls-start c =
    let s = span (input_model c.args.input) c.requires.rhs_value c.loop-r.r c.loop-r-test.true in
    search rules

pub slice_bounds-index_falls-end : goal.slice_bounds-index_falls-end
slice_bounds-index_falls-end c =
    let s = span (input_model c.args.input) c.requires.rhs_value c.loop-r.r c.loop-r-test.true in
    search rules

pub returns-then-index_falls : goal.returns-then-index_falls
returns-then-index_falls c =
    let s = span (input_model c.args.input) c.requires.rhs_value c.loop-r.r c.loop-r-test.true in
    found _ _ c.loop-r.r c.loop-r-test.true (sym (unordered_is (input_model c.args.input) c.loop-r.r s c.index_falls.ensures) ∙ c.if-index_falls.true)

pub loop-r-preserved : goal.loop-r-preserved
loop-r-preserved c =
    let s = span (input_model c.args.input) c.requires.rhs_value c.loop-r.r c.loop-r-test.true in
    turn c.loop-r.invariant c.loop-r-test.true (sym (unordered_is (input_model c.args.input) c.loop-r.r s c.index_falls.ensures) ∙ c.if-index_falls.false)

pub returns : goal.returns
returns c = end c.loop-r.invariant (omega arith)
