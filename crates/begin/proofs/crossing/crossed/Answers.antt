-- `crossed` computes its definition.
use Rattle.std.specs.Prelude.{Float}
use Rattle.std.proofs.Common.{◌∙◌, rules, tests}
use Rattle.std.proofs.lemmas.Iterator.{YieldsList-from_slice, YieldsList-from_zip}
use Rattle.std.proofs.lemmas.Iterator.Consumers.{YieldsList-at}
use Rattle.std.proofs.lemmas.Iterator.Search.{any_from_yields_List}
use Rattle.floats.specs.Num.{gt}
use Rattle.begin.specs.Crossing.{crossed_pairs}
use Rattle.begin.proofs.crossing.crossed.Goals as goal

pub returns : goal.returns
returns c =
    any_from_yields_List (λ (p : Float × Float). gt p.0 p.1) c.any.new.self _ _ c.any.ensures.ran
    (YieldsList-from_zip (YieldsList-at c.zip.ensures.first (YieldsList-from_slice c.args.lower.now c.iter.ensures.rest))
    (YieldsList-from_slice c.args.upper.now c.zip.ensures.second.0)) (λ x b q k. search (rules, tests))
    ∙ crossed_pairs _ _
