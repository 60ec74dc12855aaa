-- `write_rhs` is rhs of emitted, at the front of the slice.
use Rattle.std.proofs.Common.{◌≡◌, refl, rules, tests}
use Rattle.emit.specs.FateNumbers.{emits, out_now}
use Rattle.emit.proofs.entries.write_rhs.Goals as goal

pub returns : goal.returns
returns c = c.collect.ensures _ _
    (record {
      test = λ r z b l F q. let e : b ≡ emits z = search (rules, tests) in out_now F e refl;
      value = λ r z x l F q. search (rules, tests);
    })
