-- `collect` writes the values of the rows whose fate passes the test.
use Rattle.std.proofs.Common.{arith, ◌∙◌}
use Rattle.emit.specs.Filling.{fill_start, fill_one, fill_none}
use Rattle.emit.proofs.collecting.collect.Goals as goal
use Rattle.emit.proofs.collecting.collect.Goals.{then-test, else-test}

pub loop-r-init : goal.loop-r-init
loop-r-init g c = (omega arith, λ p f W. fill_start p f _)

pub loop-r-preserved : goal.loop-r-preserved
loop-r-preserved g c = elim c.if-test.branch [
  | then-test w ↦ (
    omega (arith, w.n-is, c.loop-r.invariant.0),
    λ p f W. fill_one p f (c.loop-r.invariant.1 p f W) c.loop-r-test.true c.requires.holds_n.1
        (W.test _ _ _ c.loop-r-test.true c.fate_of-fate.ensures c.test.ensures ∙ w.if-test.true)
        (W.value _ _ _ c.loop-r-test.true c.fate_of-fate.ensures w.value.ensures) w.out-is w.n-is,
  )
  | else-test w ↦ (
    omega (arith, w.n-is, c.loop-r.invariant.0),
    λ p f W. fill_none p f (c.loop-r.invariant.1 p f W)
        (W.test _ _ _ c.loop-r-test.true c.fate_of-fate.ensures c.test.ensures ∙ w.if-test.false) w.out-is w.n-is,
  )
]
