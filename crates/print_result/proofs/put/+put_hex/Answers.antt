-- The last digit follows those of a sixteenth.
use Rattle.std.proofs.Common.{arith, ap, ◌∙◌, sym, subst, List, ℕ, [], ◌∷◌, ◌++◌, ◌-◌, ◌/◌}
use Rattle.print_result.specs.Text.{hex_digits}
use Rattle.print_result.specs.TextLaws.{hex_none, hex_more}
use Rattle.print_result.proofs.put.+put_hex.Goals as goal

pub returns-then-k-gt0 : goal.returns-then-k-gt0
returns-then-k-gt0 g t c =
    let e = ap (λ (d : ℕ). hex_digits (c.args.k - 1) (c.args.n / 16) ++ (d ∷ [])) c.digit_of.ensures ∙ sym (hex_more c.args.k c.args.n (λ z. omega (arith, z))) in
    subst (λ (l : List ℕ). g.S.Sink.wrote c.args.out.now l c.put.new.self) e (g.met.S.Sink.joined _ _ _ _ _ c.put_hex.ensures c.put.ensures)

pub returns-else-k-gt0 : goal.returns-else-k-gt0
returns-else-k-gt0 g t c = rw (hex_none c.args.k c.args.n (omega arith)) (g.met.S.Sink.none _)
