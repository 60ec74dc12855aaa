-- `sum_coeffs`: what is left of the definition from the k-th binary on gives the whole.
use native.Mathlib.Omega.{arith}
use Rattle.readers.specs.RowAt.{row_ready}
use Rattle.coeffs.specs.Over.{over_place, over_small, over_term}
use Rattle.coeffs.specs.Bound.{sum_start, sum_turn, sum_end}
use Rattle.coeffs.proofs.bindings.sum_coeffs.Goals as goal

pub bounds-starts-r : goal.bounds-starts-r
bounds-starts-r c = omega (arith, (row_ready c.requires.ready (λ M q. q) c.requires.r_lt_rows.0 c.requires.r_lt_rows.3).long)

pub loop-k-init : goal.loop-k-init
loop-k-init c = sum_start _

pub overflow_add-a : goal.overflow_add-a
overflow_add-a c = omega (
  arith,
  over_small {k = c.loop-k.k} c.requires.ready (λ M q. q) c.requires.r_lt_rows.0 c.requires.r_lt_rows.3 c.get-n.ensures (omega arith),
)

pub get-v-requires : goal.get-v-requires
get-v-requires c = search over_place

pub row_coeff-x-requires : goal.row_coeff-x-requires
row_coeff-x-requires c = search over_term

pub loop-k-preserved : goal.loop-k-preserved
loop-k-preserved c = search sum_turn

pub returns : goal.returns
returns c = search sum_end
