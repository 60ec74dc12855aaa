-- One line more, until the lists end.
use Rattle.std.proofs.Common.{arith, subst, ℕ, length, ◌≡◌}
use Prim.Native.Nat.{min}
use Rattle.print_result.specs.Text.{ascii, from_to, each, validate_at, validate_line, validate_lines}
use Rattle.print_result.specs.TextLaws.{more_lines}
use Rattle.print_result.proofs.lines.put_kept.Goals as goal

pub loop-r-init : goal.loop-r-init
unfolding from_to each
loop-r-init g c = g.met.S.Sink.none _

pub loop-r-preserved : goal.loop-r-preserved
unfolding ascii validate_line
loop-r-preserved g c = rw (more_lines (validate_at c.args.kept.now) c.loop-r.r-index) (g.met.S.Sink.joined _ _ _ _ _ c.loop-r.invariant c.put_named.ensures)

pub returns : goal.returns
unfolding validate_lines
returns g c =
    let e : c.loop-r.r-index ≡ min (length c.args.kept.now) (length c.args.kept.now) = omega arith in
    subst (λ (n : ℕ). g.S.Sink.wrote c.args.out.now (from_to (validate_at c.args.kept.now) 0 n) c.loop-r.out) e c.loop-r.invariant
