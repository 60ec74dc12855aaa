-- `implied_slack`: each turn takes the next term, and at the end no term is left.
use Rattle.std.proofs.Common.{◌+◌, [], ◌∷◌, length, get_or, length-append, sym, ap, ◌∙◌, arith}
use Rattle.std.proofs.lemmas.Slice.Zip.{zip_turn, zip_end}
use lib.Ieee.{Float, nan}
use Rattle.cdouble.specs.declared.CDouble.{CDouble}
use Rattle.tolerances.specs.Tol.{at, zip_terms, row_term, row_slack}
use Rattle.tolerances.specs.Terms.{slack_by_terms}
use Rattle.tolerances.specs.Answers.{sum_of}
use Rattle.tolerances.proofs.Sum.{Left, count_is, step, done}
use Rattle.tolerances.proofs.Row.implied_slack.Goals as goal

pub loop-v-preserved : goal.loop-v-preserved
loop-v-preserved c = let x = at c.args.values.now in let index = c.args.self.index.now in let coeff = c.args.self.coeff.now in
    let i = length c.loop-v.yielded in let s = sum_of c.loop-v.row in
    let z = zip_turn index coeff c.loop-v.yielded c.into_iter-v-iterator.result c.loop-v.v-iterator c.next.new.self c.next.result (cc) (cc) c.loop-v.yielded_by
    (c.in-Some.v, c.in-Some.a) c.in-Some.is c.next.ensures.steps in
    ap (Left x index coeff (sum_of c.with-row.result)) (length-append c.loop-v.yielded ((c.in-Some.v, c.in-Some.a) ∷ []))
    ∙ ap (λ (r : CDouble × Float). Left x index coeff r (i + 1))
    (c.with-row.ensures ∙ ap (λ (a : Float). row_term s a c.value_of.result) (z.3 nan) ∙ ap (row_term s (get_or coeff i nan)) (c.value_of.ensures ∙ ap x (z.2 0)))
    ∙ sym (step x index coeff s i z.0 z.1) ∙ c.loop-v.invariant

pub returns : goal.returns
returns c = let x = at c.args.values.now in let index = c.args.self.index.now in let coeff = c.args.self.coeff.now in
    let n = zip_end index coeff c.loop-v.yielded c.into_iter-v-iterator.result c.loop-v.v-iterator c.next.new.self c.next.result (cc) (cc) c.loop-v.yielded_by c.in-None.is c.next.ensures.steps in
    c.slack.ensures ∙ ap row_slack (sym (done x index coeff (sum_of c.loop-v.row) (length c.loop-v.yielded) (omega (arith, n, count_is index coeff))) ∙ c.loop-v.invariant)
    ∙ sym (slack_by_terms x c.args.self.rhs (zip_terms index coeff))
