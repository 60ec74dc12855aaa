-- After an infeasible answer only the counts follow.
use Rattle.std.proofs.Common.{◌∙◌, sym}
use Rattle.print_result.specs.TextLaws.{only_counts, all_lines}
use Rattle.print_result.proofs.AnswerText.write.Goals as goal

pub returns-then-is_followed : goal.returns-then-is_followed
returns-then-is_followed g c =
    rw (← all_lines _ _ _ _ _ _ _ _ _ _ _ _ _ _ _ (sym c.is_followed.ensures ∙ c.if-is_followed.true))
    (g.met.S.Sink.joined _ _ _ _ _ c.put_kind.ensures
    (g.met.S.Sink.joined _ _ _ _ _ c.put_counts.ensures
    (g.met.S.Sink.joined _ _ _ _ _ c.put_bounds.ensures
    (g.met.S.Sink.joined _ _ _ _ _ c.put_rows.ensures c.put_kept.ensures))))

pub returns-else-is_followed : goal.returns-else-is_followed
returns-else-is_followed g c =
    rw (← only_counts _ _ _ _ _ _ _ _ _ _ _ _ _ _ _ (sym c.is_followed.ensures ∙ c.if-is_followed.false))
    (g.met.S.Sink.joined _ _ _ _ _ c.put_kind.ensures c.put_counts.ensures)
