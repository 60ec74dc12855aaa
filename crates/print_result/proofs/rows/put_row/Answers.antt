-- A rewritten row has its terms; any other is one line.
use Rattle.print_result.specs.TextLaws.{parts_lines, row_rewritten, row_written}
use Rattle.print_result.proofs.rows.put_row.Goals as goal

pub returns-then-span-ne0 : goal.returns-then-span-ne0
returns-then-span-ne0 g c =
    rw (
      ← row_rewritten c.args.r c.args.rhs c.args.span.from c.args.span.upto c.args.terms.index.now c.args.terms.coeff.now c.if-span-ne0.true,
      ← parts_lines c.args.span.from c.args.span.upto _ _ _ _ c.if-span-ne0.true c.part-vars.ensures c.part-coeffs.ensures,
    )
    (g.met.S.Sink.joined _ _ _ _ _ c.put_rewritten.ensures c.put_terms.ensures)

pub returns-else-span-ne0 : goal.returns-else-span-ne0
returns-else-span-ne0 g c =
    rw (← row_written c.args.r c.args.rhs c.args.span.from c.args.span.upto c.args.terms.index.now c.args.terms.coeff.now c.if-span-ne0.false) c.put_written.ensures
