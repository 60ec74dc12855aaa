-- `binding_term`: both coefficients can be asked for, since the variable is one of the row's binaries.
use native.Mathlib.Omega.{arith}
use mathlib.Core.Path.{refl}
use Rattle.view.specs.Known.{written_spans}
use Rattle.readers.specs.RowAt.{row_ready}
use Rattle.readers.specs.Binaries.{ready_written}
use Rattle.coeffs.specs.Over.{over_place, over_small, over_term}
use Rattle.coeffs.specs.Bound.{bind_term}
use borrow.Author.Rules.{rules}
use Rattle.coeffs.proofs.bindings.binding_term.Goals as goal

pub bounds-rows-r : goal.bounds-rows-r
bounds-rows-r c = omega (arith, (row_ready c.requires.ready written_spans c.requires.r_lt_rows.0 c.requires.r_lt_rows.3).long)

pub overflow_add-a : goal.overflow_add-a
overflow_add-a c = omega (arith, over_small c.requires.ready written_spans c.requires.r_lt_rows.0 c.requires.r_lt_rows.3 refl c.requires.r_lt_rows.4)

pub get-v-requires : goal.get-v-requires
get-v-requires c = search (over_place, written_spans)

pub written_coeff-x-requires : goal.written_coeff-x-requires
written_coeff-x-requires c = search ready_written

pub row_coeff-y-requires : goal.row_coeff-y-requires
row_coeff-y-requires c = record {
  r_lt_rows = search rules;
  ready_term = over_term c.requires.ready written_spans c.requires.r_lt_rows.0 c.requires.r_lt_rows.3 refl c.requires.r_lt_rows.4 c.get-v.ensures;
}

pub returns : goal.returns
returns c = bind_term _ c.requires.r_lt_rows.0 c.requires.r_lt_rows.3 _ c.requires.r_lt_rows.4 c.get-v.ensures c.written_coeff-x.ensures c.add.ensures
    c.row_coeff-y.ensures c.add-2.ensures
