-- The numbers one by one, and the promise from what presolve promises.
use Rattle.std.specs.Prelude.{ℕ, ◌≤◌, ◌<◌, ◌≡◌, refl, Bool, true, false, List, [], ◌∷◌, length, set, Float, ⊤, Result, Ok, Err}
use Rattle.std.proofs.Common.{arith, ap, sym, ◌∙◌, subst, lt-ltb, le-ltb}
use Rattle.std.specs.Int.{from_bool}
use Rattle.std.proofs.Math.Option.{Option, none, some}
use Rattle.floats.specs.Num.{choose}
use Rattle.definition.specs.declared.Counts.{Counts}
use Rattle.definition.specs.Model.{Model}
use Rattle.definition.specs.Presolve.{presolve}
use Rattle.definition.specs.Refusal.{Lent, refusal}
use Rattle.view.specs.Lists.{yes, no}
use Rattle.refuse.specs.declared.Refusal.{Refusal}
use Rattle.refuse.specs.Number.{number_of}
use Rattle.refuse.specs.Of.{refused_is}
use Rattle.emit.specs.Filling.{over, over_set}
use Rattle.output.specs.declared.Reduced.{Reduced}
use Rattle.output.specs.Results.{Results, results}
use Rattle.presolve.specs.declared.Presolved.{Presolved}
use Rattle.presolve.specs.declared.Presolved.TheVariants as variants
use Rattle.presolve.specs.Promise.{Working, working, lengths, Outcome, Answer, answer_is, outcome, results_after, working_after, Promise}
use Rattle.presolve_c.specs.Face.{or_else, short_answer, face_refusal, code_of, flag_number, five_of, nine_of, numbers_of, Told, FacePromise}

-- ---- the numbers, from the front
pub put_five : (k : Counts) (old : List ℕ) → 9 ≤ length old
    → set (set (set (set (set old 0 k.rowsDropped) 1 k.boundsTightened) 2 k.varsFixed) 3 k.coeffsTightened) 4 k.passes ≡ over (five_of k) old
put_five k old p =
    let a = k.rowsDropped in
    let b = k.boundsTightened in
    let c = k.varsFixed in
    let d = k.coeffsTightened in
    let e = k.passes in
    ap (λ (l : List ℕ). set (set (set (set l 1 b) 2 c) 3 d) 4 e) (over_set [] old a (omega (arith, p)))
    ∙ ap (λ (l : List ℕ). set (set (set l 2 c) 3 d) 4 e) (over_set (a ∷ []) old b (omega (arith, p)))
    ∙ ap (λ (l : List ℕ). set (set l 3 d) 4 e) (over_set (a ∷ b ∷ []) old c (omega (arith, p)))
    ∙ ap (λ (l : List ℕ). set l 4 e) (over_set (a ∷ b ∷ c ∷ []) old d (omega (arith, p)))
    ∙ over_set (a ∷ b ∷ c ∷ d ∷ []) old e (omega (arith, p))

pub put_nine : (k : Counts) (n t q : ℕ) (f : Bool) (old : List ℕ) {g : ℕ} {five : List ℕ} → g ≡ flag_number f → 9 ≤ length old → five ≡ over (five_of k) old
    → set (set (set (set five 5 n) 6 t) 7 q) 8 g ≡ over (nine_of k n t q (flag_number f)) old
put_nine k n t q f old {g} {five} i p e =
    let a = k.rowsDropped in
    let b = k.boundsTightened in
    let c = k.varsFixed in
    let d = k.coeffsTightened in
    let h = k.passes in
    ap (λ (l : List ℕ). set (set (set (set l 5 n) 6 t) 7 q) 8 g) e
    ∙ ap (λ (l : List ℕ). set (set (set l 6 t) 7 q) 8 g) (over_set (five_of k) old n (omega (arith, p)))
    ∙ ap (λ (l : List ℕ). set (set l 7 q) 8 g) (over_set (a ∷ b ∷ c ∷ d ∷ h ∷ n ∷ []) old t (omega (arith, p)))
    ∙ ap (λ (l : List ℕ). set l 8 g) (over_set (a ∷ b ∷ c ∷ d ∷ h ∷ n ∷ t ∷ []) old q (omega (arith, p)))
    ∙ over_set (a ∷ b ∷ c ∷ d ∷ h ∷ n ∷ t ∷ q ∷ []) old g (omega (arith, p))
    ∙ ap (λ (u : ℕ). over (nine_of k n t q u) old) i

pub flag_is : (g : Bool) → from_bool g ≡ flag_number g
unfolding flag_number choose
flag_is true = refl
flag_is false = refl

-- ---- tell, by the answer
pub told_refused : {a : Answer} {k : Refusal} {z : ℕ} {ans : List ℕ} → a ≡ Err k → z ≡ number_of k → Told (answer_is a) ans z ans
unfolding code_of numbers_of
told_refused {z = z} {ans} e f = subst (λ (y : Answer). Told (answer_is y) ans z ans) (sym e) (record { code = f; answer = refl })

pub told_infeasible : {a : Answer} {y : Presolved} {k : Counts} {ans ans' : List ℕ} → a ≡ Ok y → y ≡ variants.Infeasible k → ans' ≡ over (five_of k) ans → Told (answer_is a) ans 100 ans'
unfolding code_of numbers_of
told_infeasible {ans = ans} {ans'} e i f = subst (λ (y : Answer). Told (answer_is y) ans 100 ans') (sym (e ∙ ap (λ (y : Presolved). Ok y) i)) (record { code = refl; answer = f })

pub told_model : {a : Answer} {y : Presolved} {r : Reduced} {ans ans' : List ℕ} → a ≡ Ok y → y ≡ variants.Model r
    → ans' ≡ over (nine_of r.counts r.emitted r.terms r.kept (flag_number r.flag)) ans → Told (answer_is a) ans 0 ans'
unfolding code_of numbers_of
told_model {ans = ans} {ans'} e i f = subst (λ (y : Answer). Told (answer_is y) ans 0 ans') (sym (e ∙ ap (λ (y : Presolved). Ok y) i)) (record { code = refl; answer = f })

-- ---- a slice of fewer than nine: the table's number, or else 10
pub else_ten : {r : Option ℕ} {y : Result ⊤ Refusal} {u : ⊤} → refused_is y ≡ r → y ≡ Ok u → or_else r (some 10) ≡ some 10
unfolding or_else
else_ten t g = ap (λ (o : Option ℕ). or_else o (some 10)) (sym t ∙ ap refused_is g)

pub earlier : {r : Option ℕ} {y : Result ⊤ Refusal} (k : Refusal) → refused_is y ≡ r → y ≡ Err k → or_else r (some 10) ≡ some (number_of k)
unfolding or_else
earlier k t g = ap (λ (o : Option ℕ). or_else o (some 10)) (sym t ∙ ap refused_is g)

short_is : (M : Model) (L : Lent) (n : ℕ) → n < 9 → face_refusal M L n ≡ or_else (refusal M L) (some 10)
unfolding face_refusal short_answer
short_is M L n p = ap (or_else (refusal M L)) (yes _ _ (lt-ltb n 9 p))

pub promise_short : {M : Model} {b : Results} {x : Working} {ans : List ℕ} {L : Lent} (k : ℕ) → length ans < 9 → L ≡ lengths b x → or_else (refusal M L) (some 10) ≡ some k
    → FacePromise M b x ans k b x ans
unfolding outcome results_after working_after code_of numbers_of
promise_short {M} {b} {x} {ans} k p l e =
    let r : some k ≡ face_refusal M (lengths b x) (length ans) = sym (short_is M (lengths b x) (length ans) p ∙ ap (λ (L : Lent). or_else (refusal M L) (some 10)) (sym l) ∙ e) in
    record {
      code = ap (λ (o : Option ℕ). code_of (outcome o (presolve M))) r;
      answer = ap (λ (o : Option ℕ). over (numbers_of (outcome o (presolve M))) ans) r;
      results = ap (λ (o : Option ℕ). results_after o (presolve M) b) r;
      working = ap (λ (o : Option ℕ). working_after o x) r;
    }

-- ---- a slice of nine or more: the table alone
else_none : (r : Option ℕ) → or_else r none ≡ r
unfolding or_else
else_none none = refl
else_none (some k) = refl

pub long_is : (M : Model) (L : Lent) (n : ℕ) → 9 ≤ n → face_refusal M L n ≡ refusal M L
unfolding face_refusal short_answer
long_is M L n p = ap (or_else (refusal M L)) (no _ _ (le-ltb n 9 p)) ∙ else_none (refusal M L)

pub promise_told : {M : Model} {b b' : Results} {x x' : Working} {ans ans' : List ℕ} {a : Answer} {z : ℕ} → 9 ≤ length ans → Promise M b x a b' x'
    → Told (answer_is a) ans z ans' → FacePromise M b x ans z b' x' ans'
promise_told {M} {b} {x = x} {ans = ans} n p t =
    let r : refusal M (lengths b x) ≡ face_refusal M (lengths b x) (length ans) = sym (long_is M (lengths b x) (length ans) n) in
    let o = p.answer ∙ ap (λ (u : Option ℕ). outcome u (presolve M)) r in
    record {
      code = t.code ∙ ap code_of o;
      answer = t.answer ∙ ap (λ (u : Outcome). over (numbers_of u) ans) o;
      results = p.results ∙ ap (λ (u : Option ℕ). results_after u (presolve M) b) r;
      working = p.working ∙ ap (λ (u : Option ℕ). working_after u x) r;
    }

-- ---- the caller's slices, one by one
pub promise_in : {M : Model} {b b' : Results} {x x' : Working} {ans ans' : List ℕ} {z : ℕ} {l u : List Float} {r m : List ℕ} {h : List Float} {g e k i : List ℕ} {c f : List Float} {n j : List ℕ}
    → FacePromise M b x ans z b' x' ans' → l ≡ b'.lower → u ≡ b'.upper → r ≡ b'.emit_row → m ≡ b'.emit_rewritten → h ≡ b'.emit_rhs → g ≡ b'.emit_from → e ≡ b'.emit_upto
    → k ≡ b'.kept → i ≡ b'.term_index → c ≡ b'.term_coeff → f ≡ x'.floats → n ≡ x'.numbers → j ≡ x'.adjacency → FacePromise M b x ans z (results l u r m h g e k i c) (working f n j) ans'
promise_in p e1 e2 e3 e4 e5 e6 e7 e8 e9 e10 e11 e12 e13 = rw (e1, e2, e3, e4, e5, e6, e7, e8, e9, e10, e11, e12, e13) p
