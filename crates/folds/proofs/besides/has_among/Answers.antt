-- `has_among`: whether v is among the k binaries from place a on.
use Rattle.std.specs.Prelude.{ℕ, ◌+◌, refl, get_or, eqb}
use Rattle.std.proofs.Common.{arith, rules, tests, ◌∙◌}
use Rattle.std.proofs.lemmas.Iterator.{YieldsList-from_range}
use Rattle.std.proofs.lemmas.Iterator.Search.{any_from_yields_List}
use Rattle.space.specs.Store.{numbers_of}
use Rattle.space.specs.Blocks.{binary_length}
use Rattle.folds.specs.Besides.{among_any}
use Rattle.folds.proofs.besides.has_among.Goals as goal

pub returns : goal.returns
returns c =
    any_from_yields_List (λ (j : ℕ). eqb (get_or (numbers_of c.args.cx c.args.numbers.now).binary (c.args.a + j) 0) c.args.v) c.any.new.self _ _ c.any.ensures.ran
    (YieldsList-from_range 0 c.args.k c.args.k refl (omega arith)) (λ x b q h. search (numbers_of, rules, tests))
    ∙ among_any c.args.a c.args.k c.args.v _ (search (numbers_of, binary_length, rules))
