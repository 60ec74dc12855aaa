-- The rows that are left give the whole; the terms so far stay within the limit.
use Rattle.std.proofs.Common.{arith, ◌∙◌}
use native.Mathlib.Nat.{sub-zero}
use Rattle.model_file.specs.Skips.{rows_next, rows_bad, rows_end}
use Rattle.model_file.proofs.Exits.{failed}
use Rattle.model_file.proofs.scan.skip_rows.Goals as goal

pub loop-init : goal.loop-init
loop-init c = (omega arith, rw sub-zero)

pub returns-in_err-terms : goal.returns-in_err-terms
returns-in_err-terms c = failed _ _ _ c.from_residual.ensures.1 (c.loop.invariant.1 ∙ rows_bad _ _ _ (omega arith) c.in_err-terms.ensures.read)

pub loop-preserved : goal.loop-preserved
loop-preserved c = (c.in_ok-terms.ensures.within, c.loop.invariant.1 ∙ rows_next _ _ _ _ c.loop-test.true c.in_ok-terms.ensures.read)

pub returns : goal.returns
returns c = c.loop.invariant.1 ∙ rows_end _ _ _ (omega arith)
