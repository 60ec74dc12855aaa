-- `mark_var` is mark_row over the rows of v.
use native.Mathlib.Omega.{arith}
use mathlib.Core.Path.{refl}
use Rattle.view.specs.Marks.{rows_row, rows_turn}
use Rattle.bounds.specs.Flags.{flags_refl, flags_then}
use Rattle.bounds.proofs.Rows.{own_start, own_end}
use borrow.Author.Rules.{rules}
use Rattle.bounds.proofs.marks.mark_var.Goals as goal

pub loop-r-init : goal.loop-r-init
loop-r-init c = (refl, own_start c.requires.ready_n c.requires.v_lt_vars.0, flags_refl)

pub mark_row-requires : goal.mark_row-requires
mark_row-requires c = record { r_lt_rows = search (rows_row, rules); ready_n = c.loop-r.invariant.1.ready }

pub loop-r-preserved : goal.loop-r-preserved
loop-r-preserved c = (
  search rules,
  rows_turn c.loop-r.invariant.1 c.loop-r-test.true refl c.mark_row.ensures.acts_n,
  search flags_then,
)

pub returns : goal.returns
returns c = record { acts_n = own_end c.requires.ready_n c.requires.v_lt_vars.0 c.loop-r.invariant.1 (omega arith); flags_kept = c.loop-r.invariant.2 }
