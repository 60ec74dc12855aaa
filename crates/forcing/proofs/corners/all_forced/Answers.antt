-- `all_forced` is all_forced.
use Rattle.std.specs.Prelude.{get_or, Bool, true, false}
use Rattle.std.proofs.Common.{rules, ◌<◌, ℕ, refl, arith}
use Rattle.std.proofs.lemmas.Iterator.{serves_from_Range, YieldsList-from_range, cases_from_all}
use Rattle.readers.specs.RowAt.{live_place, live_var}
use Rattle.readers.specs.Reading.{domain_in}
use Rattle.readers.specs.Knowing.{looks_spans, looks_domains}
use Rattle.space.specs.Store.{floats_of, numbers_of}
use Rattle.forcing.specs.Forced.{live_small, TermTold, told_of, all_forced_is}
use Rattle.forcing.proofs.corners.all_forced.Goals as goal

pub all-requires-clause-callable : goal.all-requires-clause-callable
all-requires-clause-callable c =
    serves_from_Range (λ x q k. search rules)
    (λ i _ m.
    let at = c.requires.r_lt_rows in
    let ready = c.requires.ready in
    let small = live_small ready looks_spans at.0 at.3 c.get.ensures m in
    let len : i < get_or (numbers_of c.args.cx c.args.numbers.now).len c.args.r 0 = omega (arith, m, c.get.ensures) in
    let place = live_place ready looks_spans at.0 at.3 len in (
      search (arith, small),
      search place,
      search (arith, small),
      search place,
      λ _ _ _ _ _ _ _ _ _ _ _ _ _ _ _ v _ _ _. (
        (live_var ready looks_spans at.0 at.3 len v.ensures, at.1, domain_in ready looks_domains (live_var ready looks_spans at.0 at.3 len v.ensures)),
        c.requires.limits,
      ),
    ))

-- `c` is hidden from two searches, which then reach all that a turn's calls say
pub returns : goal.returns
returns c =
    let is : Bool → ℕ → Type 0 = TermTold c.args.lists c.args.cx (floats_of c.args.cx c.args.floats.now) (numbers_of c.args.cx c.args.numbers.now) c.args.r c.args.sliver.gap c.args.sliver.mag in
    all_forced_is c.requires.r_lt_rows.0 c.requires.r_lt_rows.3 c.get.ensures _ _ _
    (cases_from_all c.all.new.self _ _ (is true) (is false) c.all.ensures.ran (YieldsList-from_range 0 c.get.result c.get.result refl (omega arith))
    (λ x q k. (search rules, let c : ℕ = 0 in search told_of)) (λ x q k. let c : ℕ = 0 in search told_of))
