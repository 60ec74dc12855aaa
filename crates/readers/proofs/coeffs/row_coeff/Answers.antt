-- `row_coeff`: the walk goes on while the rest of the row has the variable.
use native.Mathlib.Omega.{arith}
use Rattle.readers.specs.Coeffs.{term_long, seek_start, seek_in, seek_row, seek_fits, seek_place, seek_turn, seek_end}
use borrow.Author.Rules.{rules}
use Rattle.readers.proofs.coeffs.row_coeff.Goals as goal

pub bounds-starts-r : goal.bounds-starts-r
bounds-starts-r c = omega (arith, term_long c.requires.ready_term c.requires.r_lt_rows.0 c.requires.r_lt_rows.3)

pub bounds-starts-r-2 : goal.bounds-starts-r-2
bounds-starts-r-2 c = search (term_long, rules)

pub loop-cx-init : goal.loop-cx-init
loop-cx-init c = search seek_start

pub place-i-requires : goal.place-i-requires
place-i-requires c = seek_fits c.requires.r_lt_rows.0 c.requires.r_lt_rows.3 c.loop-cx.invariant c.get-n.ensures

pub get-requires : goal.get-requires
get-requires c = search (seek_place, rules)

pub get-x-requires : goal.get-x-requires
get-x-requires c = search (seek_place, rules)

pub overflow_add-k : goal.overflow_add-k
overflow_add-k c = omega (
  arith,
  seek_fits c.requires.r_lt_rows.0 c.requires.r_lt_rows.3 c.loop-cx.invariant c.get-n.ensures,
  (seek_row c.requires.r_lt_rows.0 c.requires.r_lt_rows.3 c.loop-cx.invariant).last,
  (seek_row c.requires.r_lt_rows.0 c.requires.r_lt_rows.3 c.loop-cx.invariant).small,
)

pub loop-cx-smaller : goal.loop-cx-smaller
loop-cx-smaller c = omega (arith, seek_in c.requires.r_lt_rows.0 c.requires.r_lt_rows.3 c.loop-cx.invariant)

pub loop-cx-preserved : goal.loop-cx-preserved
loop-cx-preserved c = seek_turn c.requires.r_lt_rows.0 c.requires.r_lt_rows.3 c.loop-cx.invariant
    c.get-n.ensures c.place-i.ensures c.get.ensures c.if-get-v.false

pub returns : goal.returns
returns c = seek_end c.requires.r_lt_rows.0 c.requires.r_lt_rows.3 c.loop-cx.invariant
    c.get-n.ensures c.place-i.ensures c.get.ensures
    c.if-get-v.true c.get-x.ensures
