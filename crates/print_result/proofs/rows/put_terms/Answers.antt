-- One line more, until the lists end.
use Rattle.std.proofs.Common.{arith, subst, ap, ◌∙◌, ℕ, [], ◌∷◌, length, length-append, get_or, ◌≡◌}
use Rattle.std.proofs.lemmas.Slice.Zip.{zip_turn, zip_end}
use Prim.Native.Nat.{min}
use lib.Ieee.{nan}
use Rattle.print_result.specs.Text.{from_to, each, term_at, term_line, term_lines}
use Rattle.print_result.specs.TextLaws.{more_lines}
use Rattle.print_result.proofs.rows.put_terms.Goals as goal

pub loop-v-init : goal.loop-v-init
unfolding from_to each
loop-v-init g c = g.met.S.Sink.none _

pub loop-v-preserved : goal.loop-v-preserved
loop-v-preserved g c = let vars = c.args.vars.now in let coeffs = c.args.coeffs.now in
    let i = length c.loop-v.yielded in
    let z = zip_turn vars coeffs c.loop-v.yielded c.into_iter-v-iterator.result c.loop-v.v-iterator c.next.new.self c.next.result (cc) (cc) c.loop-v.yielded_by
    (c.in-Some.v, c.in-Some.coeff) c.in-Some.is c.next.ensures.steps in
    let e : term_line c.in-Some.v.now c.in-Some.coeff.now ≡ term_at vars coeffs i = ap (λ (v : ℕ). term_line v c.in-Some.coeff.now) (z.2 0) ∙ ap (term_line (get_or vars i 0)) (z.3 nan) in
    rw (length-append c.loop-v.yielded ((c.in-Some.v, c.in-Some.coeff) ∷ []), more_lines (term_at vars coeffs) i, ← e)
    (g.met.S.Sink.joined _ _ _ _ _ c.loop-v.invariant c.put_term.ensures)

pub returns : goal.returns
unfolding term_lines
returns g c = let vars = c.args.vars.now in let coeffs = c.args.coeffs.now in
    let n = zip_end vars coeffs c.loop-v.yielded c.into_iter-v-iterator.result c.loop-v.v-iterator c.next.new.self c.next.result (cc) (cc) c.loop-v.yielded_by c.in-None.is c.next.ensures.steps in
    let e : length c.loop-v.yielded ≡ min (length vars) (min (length vars) (length coeffs)) = omega (arith, n) in
    subst (λ (n : ℕ). g.S.Sink.wrote c.args.out.now (from_to (term_at vars coeffs) 0 n) c.loop-v.out) e c.loop-v.invariant
