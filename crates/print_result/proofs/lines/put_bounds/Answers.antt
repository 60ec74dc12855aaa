-- One line more, until a list ends.
use Rattle.std.proofs.Common.{arith, subst, sym, ap, ◌∙◌, ℕ, List, ◌∷◌, ◌+◌, ◌<◌, drop, length, length-drop, drop-cons, get_or, get_or-drop, ◌≡◌, refl, ⊎_elim}
use Prim.Native.Nat.{min, suc}
use Rattle.std.specs.Float.{nan}
use Rattle.print_result.specs.Text.{from_to, each, bound_line, bound_at, bound_lines}
use Rattle.print_result.specs.TextLaws.{more_lines}
use Rattle.print_result.proofs.lines.put_bounds.Goals as goal

-- what is left of a list from place k on: its next entry, and the rest
module _ {A : Type 0} (l : List A) (k : ℕ) {x : A} {r : List A} (e : drop k l ≡ x ∷ r) where
  inside : k < length l
  inside = omega (arith, ap length e, length-drop k l)

  next : (d : A) → x ≡ get_or l k d
  next d = let n : k + 0 ≡ k = omega arith in ap (λ m. get_or m 0 d) (sym e) ∙ get_or-drop k l 0 d ∙ ap (λ i. get_or l i d) n

  later : r ≡ drop (k + 1) l
  later = let n : suc k ≡ k + 1 = omega arith in sym (ap (drop 1) e) ∙ ap (drop 1) (drop-cons l k x inside) ∙ ap (λ i. drop i l) n

pub loop-v-init : goal.loop-v-init
unfolding from_to each
loop-v-init g c =
    let n : c.into_iter-v-iterator.result.count ≡ 0 = cc in
    let a : c.into_iter-v-iterator.result.iter.a.rest.now ≡ c.args.lower.now = cc in
    let b : c.into_iter-v-iterator.result.iter.b.rest.now ≡ c.args.upper.now = cc in
    rw n (g.met.S.Sink.none _, a, b, omega arith, omega arith)

pub loop-v-preserved : goal.loop-v-preserved
loop-v-preserved g c = let z = c.in-Some.ensures.steps in
    let k = c.loop-v.v-iterator.count in
    let l = c.args.lower.now in
    let u = c.args.upper.now in
    let p = sym c.loop-v.invariant.1 ∙ z.0.0 in
    let q = sym c.loop-v.invariant.2 ∙ z.0.1 in
    let a : c.in-Some.lower.now ≡ get_or l k nan = next l k p nan in
    let b : c.in-Some.upper.now ≡ get_or u k nan = next u k q nan in
    let line : bound_line c.in-Some.v c.in-Some.lower.now c.in-Some.upper.now ≡ bound_at l u k = rw (z.1, a, b) refl in
    let w = subst (λ x. g.S.Sink.wrote c.loop-v.out x c.put_bound.new.out) line c.put_bound.ensures in
    rw z.2 (
      rw (more_lines (bound_at l u) k) (g.met.S.Sink.joined _ _ _ _ _ c.loop-v.invariant.0 w),
      later l k p,
      later u k q,
      omega (arith, inside l k p),
      omega (arith, inside u k q),
    )

pub returns : goal.returns
unfolding bound_lines
returns g c =
    let k = c.loop-v.v-iterator.count in
    let l = c.args.lower.now in
    let u = c.args.upper.now in
    let i = c.loop-v.invariant in
    let e : k ≡ min (length l) (min (length l) (length u)) = ⊎_elim
    (λ s. omega (arith, s.1.0, ap length i.1, length-drop k l, i.3, i.4)) (λ s. omega (arith, s.1.0, ap length i.2, length-drop k u, i.3, i.4)) c.in-None.ensures.steps.0 in
    subst (λ (n : ℕ). g.S.Sink.wrote c.args.out.now (from_to (bound_at l u) 0 n) c.loop-v.out) e i.0
