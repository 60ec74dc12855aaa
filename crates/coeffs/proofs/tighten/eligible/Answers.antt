-- `eligible`: what is left of the definition from the term looked at on gives the whole.
use native.Mathlib.Omega.{arith}
use Rattle.readers.specs.RowAt.{row_ready}
use Rattle.coeffs.specs.Along.{along_place, along_small, along_var}
use Rattle.coeffs.specs.Eligible.{binaries_spans, domain_in, count_turn, count_end}
use Rattle.coeffs.proofs.tighten.eligible.Goals as goal

pub bounds-starts-r : goal.bounds-starts-r
bounds-starts-r c = omega (arith, (row_ready c.requires.ready binaries_spans c.requires.r_lt_rows.0 c.requires.r_lt_rows.3).long)

pub overflow_add-a : goal.overflow_add-a
overflow_add-a c = omega (
  arith,
  along_small {k = c.loop-i.i} c.requires.ready binaries_spans c.requires.r_lt_rows.0 c.requires.r_lt_rows.3 c.get-len.ensures (omega arith),
)

pub get-v-requires : goal.get-v-requires
get-v-requires c = search (along_place, binaries_spans)

pub overflow_add-a-in-loop-i : goal.overflow_add-a-in-loop-i
overflow_add-a-in-loop-i c = omega (
  arith,
  along_small {k = c.loop-i.i} c.requires.ready binaries_spans c.requires.r_lt_rows.0 c.requires.r_lt_rows.3 c.get-len.ensures
      (omega arith),
)

pub get-c-requires : goal.get-c-requires
get-c-requires c = search (along_place, binaries_spans)

pub rewrite_term-z-requires : goal.rewrite_term-z-requires
rewrite_term-z-requires c = search (along_var, binaries_spans, domain_in)

pub overflow_add-n : goal.overflow_add-n
overflow_add-n c = omega (
  arith,
  along_small {k = c.loop-i.i} c.requires.ready binaries_spans c.requires.r_lt_rows.0 c.requires.r_lt_rows.3 c.get-len.ensures
      (omega arith),
  c.loop-i.invariant.few,
  (count_turn _ _ _ _ c.requires.r_lt_rows.0 c.requires.r_lt_rows.3 c.loop-i.invariant c.get-len.ensures c.args.x.limits c.requires.row_limits
      (omega arith) c.get-v.ensures c.get-c.ensures
      c.rewrite_term-z.ensures c.rewrite_count-n.ensures).few,
)

pub loop-i-preserved : goal.loop-i-preserved
loop-i-preserved c = count_turn _ _ _ _ c.requires.r_lt_rows.0 c.requires.r_lt_rows.3 c.loop-i.invariant c.get-len.ensures c.args.x.limits c.requires.row_limits
    (omega arith) c.get-v.ensures c.get-c.ensures
    c.rewrite_term-z.ensures c.rewrite_count-n.ensures

pub returns : goal.returns
returns c = search count_end
