-- The last digit follows those of a tenth.
use Rattle.std.proofs.Common.{arith, ap, ◌∙◌, sym, subst, List, ℕ, [], ◌∷◌, ◌++◌, ◌/◌}
use Rattle.print_result.specs.Text.{decimal}
use Rattle.print_result.specs.TextLaws.{decimal_one, decimal_more}
use Rattle.print_result.proofs.put.+put_decimal.Goals.{then-n-ge10, else-n-ge10}
use Rattle.print_result.proofs.put.+put_decimal.Goals as goal

pub returns : goal.returns
returns g t c = elim c.if-n-ge10.branch [
  | then-n-ge10 w ↦
      let e = ap (λ (d : ℕ). decimal (c.args.n / 10) ++ (d ∷ [])) c.digit_of.ensures ∙ sym (decimal_more c.args.n (omega arith)) in
      subst (λ (l : List ℕ). g.S.Sink.wrote c.args.out.now l c.put.new.self) e
      (g.met.S.Sink.joined _ _ _ _ _ w.put_decimal.ensures (subst (λ o. g.S.Sink.wrote o (c.digit_of.result ∷ []) c.put.new.self) w.out-is c.put.ensures))
  | else-n-ge10 w ↦
      let e = ap (λ (d : ℕ). d ∷ []) c.digit_of.ensures ∙ sym (decimal_one c.args.n (omega arith)) in
      subst (λ (l : List ℕ). g.S.Sink.wrote c.args.out.now l c.put.new.self) e (subst (λ o. g.S.Sink.wrote o (c.digit_of.result ∷ []) c.put.new.self) w.out-is c.put.ensures)
]
