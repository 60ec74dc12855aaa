-- The parts that are left give the whole.
use Rattle.std.proofs.Common.{arith, ◌∙◌}
use native.Mathlib.Nat.{sub-zero}
use Rattle.model_file.specs.Skips.{skip_next, skip_bad, skip_end}
use Rattle.model_file.proofs.Exits.{failed}
use Rattle.model_file.proofs.scan.skip.Goals as goal

pub loop-init : goal.loop-init
loop-init g c = rw sub-zero

pub returns-in_err-read : goal.returns-in_err-read
returns-in_err-read g c = failed _ _ _ c.from_residual.ensures.1 (c.loop.invariant ∙ skip_bad g.P.Part.parser _ (omega arith) c.in_err-read.ensures)

pub loop-preserved : goal.loop-preserved
loop-preserved g c = c.loop.invariant ∙ skip_next g.P.Part.parser _ _ c.loop-test.true c.in_ok-read.ensures

pub returns : goal.returns
returns g c = c.loop.invariant ∙ skip_end g.P.Part.parser _ _ (omega arith)
