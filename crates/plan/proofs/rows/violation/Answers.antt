-- `violation`: the row's terms are a part of the model's lists.
use Rattle.std.proofs.Common.{rules}
use Rattle.definition.specs.Model.{from, upto, nnz, written, op_of, rhs_of}
use Rattle.definition.specs.Of.{input_model}
use Rattle.refuse.specs.Rows.{span}
use Rattle.plan.specs.Plan.{excursion_at}
use Rattle.plan.proofs.rows.violation.Goals as goal

pub offset_bounds-rows-from : goal.offset_bounds-rows-from
offset_bounds-rows-from c =
    let s = span (input_model c.args.input) c.requires.starts c.args.r c.requires.row in
    search rules

pub slice_bounds-violation-count : goal.slice_bounds-violation-count
slice_bounds-violation-count c =
    let s = span (input_model c.args.input) c.requires.starts c.args.r c.requires.row in
    search rules

pub slice_bounds-violation-start : goal.slice_bounds-violation-start
slice_bounds-violation-start c =
    let s = span (input_model c.args.input) c.requires.starts c.args.r c.requires.row in
    search rules

pub slice_bounds-violation-end : goal.slice_bounds-violation-end
slice_bounds-violation-end c =
    let s = span (input_model c.args.input) c.requires.starts c.args.r c.requires.row in
    search rules

pub offset_bounds-rows-from-2 : goal.offset_bounds-rows-from-2
offset_bounds-rows-from-2 c =
    let s = span (input_model c.args.input) c.requires.starts c.args.r c.requires.row in
    search rules

pub slice_bounds-violation-count-2 : goal.slice_bounds-violation-count-2
slice_bounds-violation-count-2 c =
    let s = span (input_model c.args.input) c.requires.starts c.args.r c.requires.row in
    search rules

pub slice_bounds-violation-start-2 : goal.slice_bounds-violation-start-2
slice_bounds-violation-start-2 c =
    let s = span (input_model c.args.input) c.requires.starts c.args.r c.requires.row in
    search rules

pub slice_bounds-violation-end-2 : goal.slice_bounds-violation-end-2
slice_bounds-violation-end-2 c =
    let s = span (input_model c.args.input) c.requires.starts c.args.r c.requires.row in
    search rules

pub returns : goal.returns
unfolding excursion_at written op_of rhs_of nnz from upto
returns c = c.violation.ensures
