-- `bounds_changed` is whether a bound is another number now than in the model.
use Rattle.std.specs.Prelude.{refl}
use Rattle.std.proofs.Common.{arith, ◌∙◌, rules, tests}
use Rattle.std.proofs.lemmas.Iterator.{YieldsList-from_range}
use Rattle.std.proofs.lemmas.Iterator.Search.{any_from_yields_List}
use Rattle.space.specs.Blocks.{elo_length, ehi_length}
use Rattle.space.specs.Store.{floats_of}
use Rattle.emit.specs.Same.{differs, any_differs, same_start}
use Rattle.emit.proofs.bounds.bounds_changed.Goals as goal

pub returns : goal.returns
returns c =
    any_from_yields_List (differs (floats_of c.args.cx c.args.floats.now).elo c.args.lower.now (floats_of c.args.cx c.args.floats.now).ehi c.args.upper.now) c.any.new.self _ _ c.any.ensures.ran
    (YieldsList-from_range 0 c.args.cx.vars c.args.cx.vars refl (omega arith)) (λ x b q k. search (rules, tests))
    ∙ any_differs {n = c.args.cx.vars} c.args.cx.vars 0 (omega arith) (search (same_start, elo_length)) (search (same_start, ehi_length))
