-- `write_emitted` is row and rewritten of emitted, at the front of the slices.
use Rattle.std.proofs.Common.{◌≡◌, ◌∙◌, refl, rules, tests}
use Rattle.row_terms.specs.RowMark.{mark}
use Rattle.emit.specs.Fates.{collect_count}
use Rattle.emit.specs.FateNumbers.{emits, rewrites, out_now, mark_now}
use Rattle.emit.proofs.entries.write_emitted.Goals as goal

pub returns-clause-filled : goal.returns-clause-filled
returns-clause-filled c = c.collect-2.ensures _ _
    (record {
      test = λ r z b l F q. let e : b ≡ emits z = search (rules, tests) in out_now F e refl;
      value = λ r z x l F q. search (rules, tests);
    })

pub returns-clause-filled_2 : goal.returns-clause-filled_2
returns-clause-filled_2 c =
    let marks = c.collect.ensures _ _
    (record {
      test = λ r z b l F q. let e : b ≡ emits z = search (rules, tests) in out_now F e refl;
      value = λ r z x l F q. let e : x ≡ mark (rewrites z) = search (rules, tests) in mark_now F e;
    }) in
    record { list = marks.list; count = (returns-clause-filled c).count ∙ collect_count _ _ _ _ }
