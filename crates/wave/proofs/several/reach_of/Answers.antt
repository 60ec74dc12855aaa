-- `reach_of` is unreachable and may_reduce.
use Rattle.wave.specs.Several.{reach_err, reach_ok}
use Rattle.wave.proofs.several.reach_of.Goals as goal

pub returns-then-above-below : goal.returns-then-above-below
returns-then-above-below c = reach_err c.args.x c.args.act c.above_hi-above.ensures c.below_lo-below.ensures c.if-above-below.true

pub returns : goal.returns
returns c = reach_ok c.args.x c.args.act c.above_hi-above.ensures c.below_lo-below.ensures c.if-above-below.false
    c.near_min-low.ensures c.near_max-high.ensures c.within-inside.ensures
