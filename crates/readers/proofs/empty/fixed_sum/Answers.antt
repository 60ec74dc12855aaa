-- `fixed_sum`: each turn takes the next term of the row, and at the end no term is left.
use Rattle.std.proofs.Common.{◌≡◌, ◌+◌, ◌-◌, ◌<◌, ◌≤◌, ℕ, List, [], ◌∷◌, take, drop, min, length, get_or, get_or-take, get_or-drop, length-append, length-take, length-drop, subst, ap, ◌∙◌, arith}
use Rattle.std.proofs.lemmas.Slice.Zip.{zip_turn, zip_end}
use Rattle.std.specs.Float.{Float, nan}
use Rattle.space.specs.declared.Context.{Context}
use Rattle.space.specs.Store.{Floats}
use Rattle.definition.specs.Singles.{fixed_value}
use Rattle.tolerances.specs.declared.RowSum.{RowSum}
use Rattle.tolerances.specs.Tol.{row_start, row_term}
use Rattle.tolerances.specs.Terms.{row_from}
use Rattle.tolerances.specs.Answers.{sum_of}
use Rattle.view.specs.Acts.{Any}
use Rattle.readers.specs.Reading.{ReadsF}
use Rattle.readers.specs.Empty.{Summing, sum_start, sum_turn, sum_end, span_terms}
use Rattle.readers.proofs.empty.fixed_sum.Goals as goal

-- the part of a list from a up to e
abbrev part : {A : Type 0} → List A → ℕ → ℕ → List A
part l a e = take (e - a) (drop a l)

module _ {A : Type 0} (l : List A) (a e k : ℕ) (p : k < length (part l a e)) where
  within : a + k < e
  within = omega (arith, p, length-take (e - a) (drop a l))

  inside : a + k < length l
  inside = omega (arith, p, length-take (e - a) (drop a l), length-drop a l)

  there : (d : A) → get_or (part l a e) k d ≡ get_or l (a + k) d
  there d = let w = within in get_or-take (e - a) (drop a l) k d (omega (arith, w)) ∙ get_or-drop a l k d

module _ (is : List ℕ) (cs : List Float) (s : Context) (f : Floats) (a e : ℕ) (b : Float) where
  starts : {sum : RowSum} → a ≤ e → sum_of sum ≡ row_start b → Summing is cs s f a e b (a + 0) sum
  starts {sum} l d = let n : a ≡ a + 0 = omega arith in subst (λ i. Summing is cs s f a e b i sum) n (sum_start l d)

  module _ (k : ℕ) {sum : RowSum} (S : Summing is cs s f a e b (a + k) sum) where
    turns : {v j : ℕ} {c x : Float} {sum' : RowSum} → e ≤ length is → e ≤ length cs → k < length (part is a e) → k < length (part cs a e) → v ≡ get_or (part is a e) k 0 → c
        ≡ get_or (part cs a e) k nan
        → ReadsF Any s f x (λ M u. fixed_value u v) → sum_of sum' ≡ row_term (sum_of sum) c x → j ≡ k + 1 → Summing is cs s f a e b (a + j) sum'
    turns {v} {j} {c} {x} {sum'} p q m n ev ec R d ej =
        let i : a + k + 1 ≡ a + j = omega (arith, ej) in
        let u : ReadsF Any s f x (λ M t. fixed_value t (get_or is (a + k) 0)) = subst (λ y. ReadsF Any s f x (λ M t. fixed_value t y)) (ev ∙ there is a e k m 0) R in
        subst (λ y. Summing is cs s f a e b y sum') i (sum_turn S p q (within is a e k m) u (d ∙ ap (λ y. row_term (sum_of sum) y x) (ec ∙ there cs a e k n nan)))

    ends : e ≤ length is → e ≤ length cs → k ≡ min (length (part is a e)) (length (part cs a e)) → ReadsF Any s f (sum_of sum) (λ M u. row_from (fixed_value u) (row_start b) (span_terms is cs a e))
    ends p q n = sum_end S (omega (arith, p, q, n, length-take (e - a) (drop a is), length-drop a is, length-take (e - a) (drop a cs), length-drop a cs))

pub loop-v-init : goal.loop-v-init
loop-v-init c = starts _ _ _ _ _ _ _ c.requires.span.0.rise c.start-sum.ensures

pub fixed_value-requires : goal.fixed_value-requires
fixed_value-requires c =
    let a = get_or c.args.rows.starts.now c.args.r 0 in
    let e = get_or c.args.rows.starts.now (c.args.r + 1) 0 in
    let index = c.args.rows.index.now in
    let k = length c.loop-v.yielded in
    let z = zip_turn (part index a e) (part c.args.rows.coeff.now a e) c.loop-v.yielded c.into_iter-v-iterator.result c.loop-v.v-iterator c.next.new.self c.next.result (cc)
    (cc) c.loop-v.yielded_by (c.in-Some.v, c.in-Some.coeff) c.in-Some.is c.next.ensures.steps in
    (omega (arith, z.2 0, there index a e k z.0 0, c.requires.span.0.below.below (a + k) (inside index a e k z.0)), c.requires.span.1)

pub loop-v-preserved : goal.loop-v-preserved
loop-v-preserved c =
    let x = c.requires.span.0 in
    let a = get_or c.args.rows.starts.now c.args.r 0 in
    let e = get_or c.args.rows.starts.now (c.args.r + 1) 0 in
    let index = c.args.rows.index.now in
    let coeff = c.args.rows.coeff.now in
    let k = length c.loop-v.yielded in
    let z = zip_turn (part index a e) (part coeff a e) c.loop-v.yielded c.into_iter-v-iterator.result c.loop-v.v-iterator c.next.new.self c.next.result (cc)
    (cc) c.loop-v.yielded_by (c.in-Some.v, c.in-Some.coeff) c.in-Some.is c.next.ensures.steps in
    turns _ _ _ _ _ _ _ k c.loop-v.invariant x.indices (omega (arith, x.indices, x.coeffs)) z.0 z.1 (z.2 0) (z.3 nan) c.fixed_value.ensures c.with-sum.ensures
    (length-append c.loop-v.yielded ((c.in-Some.v, c.in-Some.coeff) ∷ []))

pub returns : goal.returns
returns c =
    let x = c.requires.span.0 in
    let a = get_or c.args.rows.starts.now c.args.r 0 in
    let e = get_or c.args.rows.starts.now (c.args.r + 1) 0 in
    let n = zip_end (part c.args.rows.index.now a e) (part c.args.rows.coeff.now a e) c.loop-v.yielded c.into_iter-v-iterator.result
    c.loop-v.v-iterator c.next.new.self c.next.result (cc) (cc) c.loop-v.yielded_by c.in-None.is c.next.ensures.steps in
    ends _ _ _ _ _ _ _ (length c.loop-v.yielded) c.loop-v.invariant x.indices (omega (arith, x.indices, x.coeffs)) n
