-- One line more, until the lists end.
use Rattle.std.proofs.Common.{arith, subst, ℕ, length, ◌≡◌}
use Prim.Native.Nat.{min}
use Rattle.print_result.specs.Text.{from_to, each, row_at, row_texts}
use Rattle.print_result.specs.TextLaws.{more_lines}
use Rattle.print_result.proofs.rows.put_rows.Goals as goal

pub loop-i-init : goal.loop-i-init
unfolding from_to each
loop-i-init g c = g.met.S.Sink.none _

pub loop-i-preserved : goal.loop-i-preserved
loop-i-preserved g c = rw (more_lines (row_at c.args.rows.row.now c.args.rows.rewritten.now c.args.rows.rhs.now c.args.rows.from.now c.args.rows.upto.now
    c.args.terms.index.now c.args.terms.coeff.now) c.loop-i.i) (g.met.S.Sink.joined _ _ _ _ _ c.loop-i.invariant c.put_row.ensures)

pub returns : goal.returns
unfolding row_texts
returns g c =
    let e : c.loop-i.i ≡ min (length c.args.rows.row.now) (min (min (length c.args.rows.row.now) (min (length c.args.rows.rewritten.now) (length c.args.rows.rhs.now)))
    (min (length c.args.rows.from.now) (length c.args.rows.upto.now))) = omega arith in
    subst (λ (n : ℕ). g.S.Sink.wrote c.args.out.now (from_to (row_at c.args.rows.row.now c.args.rows.rewritten.now c.args.rows.rhs.now c.args.rows.from.now c.args.rows.upto.now
    c.args.terms.index.now c.args.terms.coeff.now) 0 n) c.loop-i.out) e c.loop-i.invariant
