-- The parts that are left give the whole.
use Rattle.std.proofs.Common.{ap, ◌∙◌}
use Rattle.model_file.specs.Reading.{same_then}
use Rattle.model_file.specs.Fills.{sizes, filling_turn, filling_bad, filling_end}
use Rattle.model_file.proofs.Exits.{failed}
use Rattle.model_file.proofs.fill.fill.Goals as goal

pub returns-in_err-read-clause-filled : goal.returns-in_err-read-clause-filled
returns-in_err-read-clause-filled g c = let y = filling_bad c.loop-i.invariant.2 c.loop-i-test.true c.in_err-read.ensures in
    record { place = failed c.from_residual.result c.in_err-read.field-0.0 c.read.new.reader.rest.now c.from_residual.ensures.1 y.0; columns = y.1 }

pub loop-i-preserved : goal.loop-i-preserved
loop-i-preserved g c = (
  same_then c.loop-i.invariant.0 c.put.ensures.same,
  ap sizes c.put.ensures.put ∙ g.met.P.Part.keeps _ _ _ ∙ c.loop-i.invariant.1,
  filling_turn c.loop-i.invariant.2 c.loop-i-test.true c.in_ok-read.ensures c.put.ensures.put,
)

pub returns-clause-filled : goal.returns-clause-filled
returns-clause-filled g c = let y = filling_end c.loop-i.invariant.2 c.loop-i-test.false in record { place = y.0; columns = y.1 }
