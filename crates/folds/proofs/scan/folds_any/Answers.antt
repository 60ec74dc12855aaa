-- `folds_any`: whether some term of a row leaves.
use native.Mathlib.Omega.{arith}
use mathlib.Core.Path.{refl}
use Rattle.folds.specs.FoldStep.{spans_long, live_in, var_in}
use Rattle.folds.specs.Scan.{stay_start, stay_more, scanned_none, scanned_some}
use borrow.Author.Rules.{rules}
use Rattle.folds.proofs.scan.folds_any.Goals as goal

pub bounds-starts-r : goal.bounds-starts-r
bounds-starts-r c = omega (arith, spans_long c.requires.r_lt_rows.0 c.requires.standing, c.requires.r_lt_rows.0)

pub loop-i-init : goal.loop-i-init
loop-i-init c = stay_start

pub overflow_add-a : goal.overflow_add-a
overflow_add-a c = omega (arith, live_in c.requires.r_lt_rows.0 c.requires.standing, c.get-n.ensures)

pub leaves-requires : goal.leaves-requires
leaves-requires c = (
  omega (arith, live_in c.requires.r_lt_rows.0 c.requires.standing, c.get-n.ensures),
  search rules,
  search rules,
  var_in c.requires.r_lt_rows.0 c.requires.standing _ (omega arith) refl,
)

pub returns-then-leaves : goal.returns-then-leaves
returns-then-leaves c = scanned_some

pub loop-i-preserved : goal.loop-i-preserved
loop-i-preserved c = search stay_more

pub returns : goal.returns
returns c = search scanned_none
