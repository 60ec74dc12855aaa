-- `write_kept` is kept of Reduced, at the front of the slice.
use Rattle.std.proofs.Common.{◌≡◌, refl, rules, tests}
use Rattle.emit.specs.FateNumbers.{keeps, kept_now}
use Rattle.emit.proofs.kept.write_kept.Goals as goal

pub returns : goal.returns
returns c = c.collect.ensures _ _
    (record {
      test = λ r z b l F q. let e : b ≡ keeps z = search (rules, tests) in kept_now F e refl;
      value = λ r z x l F q. search (rules, tests);
    })
