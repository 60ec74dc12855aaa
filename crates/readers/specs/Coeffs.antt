-- A coefficient by the first match, and the walk over a row's live, then folded terms, which ends at the variable, since the row has it.
use Rattle.std.specs.Prelude.{ℕ, zero, suc, ◌+◌, ◌-◌, ◌≤◌, ◌<◌, ◌≡◌, refl, ◌⊎◌, Bool, true, false, ◌||◌, List, [], ◌∷◌, ◌++◌, eqb, ltb, length, get_or, drop, Float}
use Rattle.std.proofs.Common.{arith, add-one, sym, ◌∙◌, inl, inr, ⊎_elim, length-append, length-drop, drop-cons, get_or-append-add, eq-eqb, ne_eqb, lt-ltb, le-ltb}
use Rattle.std.proofs.Math.Path.{ap}
use Rattle.std.proofs.Math.Option.{Option, some}
use Rattle.std.proofs.Math.ListN.{get_or-append}
use Rattle.std.specs.Float.{nan}
use Rattle.floats.specs.Num.{choose, 0f}
use Rattle.tolerances.specs.Tol.{Term}
use Rattle.definition.specs.Model.{Model, Row, coeff_in, or_else, coeff_of}
use Rattle.definition.specs.Work.{Work, no_term, has_term}
use Rattle.space.specs.declared.Context.{Context}
use Rattle.space.specs.Store.{Floats, Numbers}
use Rattle.view.specs.Call.{Call}
use Rattle.view.specs.Shows.{Shows}
use Rattle.view.specs.Inv.{Inv}
use Rattle.view.specs.Lists.{yes, no}
use Rattle.view.specs.Acts.{Ready, Reads}
use Rattle.view.specs.Known.{Spans}
use Rattle.readers.specs.Reading.{row_of, Alive}
use Rattle.readers.specs.RowAt.{TermAt, RowAt, row_at, row_ready}

-- ---- the first match in a list
-- a list of terms that has v is not empty, and its head is v or the rest has it
pub some_left : (v : ℕ) (ts : List Term) → has_term v ts ≡ true → 0 < length ts
unfolding has_term
some_left v [] e = absurd (let z : ◌≡◌ {A = ℕ} 0 1 = cc in omega arith)
some_left v (t ∷ ts) e = omega arith

or_else_lem : (a b : Bool) → a ≡ false → (a || b) ≡ true → b ≡ true
or_else_lem a b f e = rw f at e

module _ (v : ℕ) (t : Term) (ts : List Term) where
  rest_has : (t.var ≡ v → ⊥) → has_term v (t ∷ ts) ≡ true → has_term v ts ≡ true
  unfolding has_term
  rest_has n e = or_else_lem (eqb t.var v) (has_term v ts) (ne_eqb _ _ n) e

  here_coeff : (d : Float) → t.var ≡ v → or_else (coeff_in v (t ∷ ts)) d ≡ t.coeff
  unfolding coeff_in or_else
  here_coeff d e = ap (λ (x : Option Float). or_else x d) (yes _ _ (eq-eqb _ _ e))

  later_coeff : (d : Float) → (t.var ≡ v → ⊥) → or_else (coeff_in v (t ∷ ts)) d ≡ or_else (coeff_in v ts) d
  unfolding coeff_in
  later_coeff d n = ap (λ (x : Option Float). or_else x d) (no _ _ (ne_eqb _ _ n))

module _ (v : ℕ) (ts : List Term) (k : ℕ) (l : k < length ts) where
  pub drop_rest : ((get_or ts k no_term).var ≡ v → ⊥) → has_term v (drop k ts) ≡ true → has_term v (drop (k + 1) ts) ≡ true
  drop_rest n e = rw add-one (rest_has v (get_or ts k no_term) (drop (suc k) ts) n (rw (drop-cons ts k no_term l) at e))

  pub drop_here : (d : Float) → (get_or ts k no_term).var ≡ v → or_else (coeff_in v (drop k ts)) d ≡ (get_or ts k no_term).coeff
  drop_here d e = ap (λ (x : List Term). or_else (coeff_in v x) d) (drop-cons ts k no_term l) ∙ here_coeff v (get_or ts k no_term) (drop (suc k) ts) d e

  pub drop_later : (d : Float) → ((get_or ts k no_term).var ≡ v → ⊥) → or_else (coeff_in v (drop k ts)) d ≡ or_else (coeff_in v (drop (k + 1) ts)) d
  drop_later d n =
      ap (λ (x : List Term). or_else (coeff_in v x) d) (drop-cons ts k no_term l) ∙ later_coeff v (get_or ts k no_term) (drop (suc k) ts) d n
      ∙ ap (λ (j : ℕ). or_else (coeff_in v (drop j ts)) d) (sym (add-one k))

pub drop_in : (v : ℕ) (ts : List Term) (k : ℕ) → has_term v (drop k ts) ≡ true → k < length ts
drop_in v ts k e = omega (arith, some_left v (drop k ts) e, length-drop k ts)

-- ---- the live, then the folded terms
coeff_append : (v : ℕ) (xs ys : List Term) (d : Float) → or_else (coeff_in v (xs ++ ys)) d ≡ or_else (coeff_in v xs) (or_else (coeff_in v ys) d)
unfolding coeff_in or_else choose
coeff_append v [] ys d = refl
coeff_append v (t ∷ xs) ys d = go (eqb t.var v) (coeff_append v xs ys d)
  where
    go : (b : Bool) → or_else (coeff_in v (xs ++ ys)) d ≡ or_else (coeff_in v xs) (or_else (coeff_in v ys) d)
        → or_else (choose b (some t.coeff) (coeff_in v (xs ++ ys))) d ≡ or_else (choose b (some t.coeff) (coeff_in v xs)) (or_else (coeff_in v ys) d)
    go true e = refl
    go false e = e

pub coeff_of_lem : (row : Row) (v : ℕ) → or_else (coeff_in v (row.terms ++ row.folded)) 0f ≡ coeff_of row v
unfolding coeff_of
coeff_of_lem row v = coeff_append v row.terms row.folded 0f

unfoldable pub place_of : ℕ → ℕ → ℕ → ℕ → ℕ
place_of a e n k = choose (ltb k n) (a + k) (e - 1 - (k - n))

pub place_live : (a e : ℕ) {n k : ℕ} → k < n → a + k ≡ place_of a e n k
unfolding place_of
place_live a e {n} {k} h = sym (yes _ _ (lt-ltb k n h))

pub place_folded : (a e : ℕ) {n k : ℕ} → n ≤ k → e - 1 - (k - n) ≡ place_of a e n k
unfolding place_of
place_folded a e {n} {k} h = sym (no _ _ (le-ltb k n h))

-- term k of the live, then the folded ones
pub row_term_lem : {ss : List ℕ} {s : Context} {f : Floats} {n : Numbers} {r : ℕ} {row : Row} → RowAt ss s f n r row → (k : ℕ) → k < length (row.terms ++ row.folded)
    → TermAt s f n (place_of (get_or ss r 0) (get_or ss (r + 1) 0) (get_or n.len r 0) k) (get_or (row.terms ++ row.folded) k no_term)
row_term_lem {ss} {s} {f} {n} {r} {row} x k l = go (side k (length row.terms))
  where
    side : (a b : ℕ) → (a < b) ⊎ (b ≤ a)
    side a zero = inr (omega arith)
    side zero (suc b) = inl (omega arith)
    side (suc a) (suc b) = ⊎_elim (λ z. inl (omega arith)) (λ z. inr (omega arith)) (side a b)

    go : (k < length row.terms) ⊎ (length row.terms ≤ k) → TermAt s f n (place_of (get_or ss r 0) (get_or ss (r + 1) 0) (get_or n.len r 0) k) (get_or (row.terms ++ row.folded) k no_term)
    go (inl q) =
        rw (← place_live (get_or ss r 0) (get_or ss (r + 1) 0) {n = get_or n.len r 0} {k = k} (omega (arith, q, x.len)), get_or-append row.terms row.folded no_term k q) (x.terms k q)
    go (inr q) =
        let j = k - length row.terms in
        let z : k ≡ length row.terms + j = omega (arith, q) in
        let y : get_or (row.terms ++ row.folded) k no_term ≡ get_or row.folded j no_term = ap (λ (i : ℕ). get_or (row.terms ++ row.folded) i no_term) z
        ∙ get_or-append-add row.terms row.folded j no_term in
        let u : k - get_or n.len r 0 ≡ j = omega (arith, x.len) in
        rw (← place_folded (get_or ss r 0) (get_or ss (r + 1) 0) {n = get_or n.len r 0} {k = k} (omega (arith, q, x.len)), y, u)
        (x.folded j (omega (arith, l, q, length-append row.terms row.folded)))

-- ---- row_coeff: the slices show a state whose row r has v
pub record ReadyTerm (P : Model → Type 0) (s : Context) (f : Floats) (n : Numbers) (r v : ℕ) : Type 0 where
  pub ready : Ready P s f n
  pub has : has_term v ((row_of ready.work r).terms ++ (row_of ready.work r).folded) ≡ true

-- the terms from k on still have v, and the coefficient is found among them
pub record Seeking (ss : List ℕ) (s : Context) (f : Floats) (n : Numbers) (r v k : ℕ) : Type 0 where
  pub ready : Ready (Spans ss) s f n
  pub ahead : has_term v (drop k ((row_of ready.work r).terms ++ (row_of ready.work r).folded)) ≡ true
  pub rest : (M : Model) (o : List ℕ) (j : ℕ) (w : Work) → Spans ss M → Call M s → Shows M f n o w → Inv M j w
      → or_else (coeff_in v (drop k ((row_of w r).terms ++ (row_of w r).folded))) 0f ≡ coeff_of (row_of w r) v

pub term_long : {ss : List ℕ} {s : Context} {f : Floats} {n : Numbers} {r v : ℕ} → ReadyTerm (Spans ss) s f n r v → r < s.rows → Alive n r → r + 1 < length ss
term_long R p a = (row_ready R.ready (λ M q. q) p a).long

module _ {ss : List ℕ} {s : Context} {f : Floats} {n : Numbers} {r v : ℕ} where
  pub seek_start : ReadyTerm (Spans ss) s f n r v → Seeking ss s f n r v 0
  seek_start R = record { ready = R.ready; ahead = R.has; rest = λ M o j w p c h i. coeff_of_lem (row_of w r) v }

  module _ {k : ℕ} (p : r < s.rows) (a : Alive n r) (S : Seeking ss s f n r v k) where
    pub seek_row : RowAt ss s f n r (row_of S.ready.work r)
    seek_row = row_ready S.ready (λ M q. q) p a

    pub seek_in : k < get_or n.len r 0 + get_or n.folded r 0
    seek_in =
        let x = row_of S.ready.work r in
        omega (arith, drop_in v (x.terms ++ x.folded) k S.ahead, length-append x.terms x.folded, seek_row.len, seek_row.folds)

    -- l is the number of live terms as it was read
    pub seek_fits : {l : ℕ} → l ≡ get_or n.len r 0 → (get_or ss r 0 + l ≤ get_or ss (r + 1) 0) × (k < get_or ss (r + 1) 0 - get_or ss r 0)
    seek_fits e = (omega (arith, e, seek_row.fits, seek_row.len), omega (arith, seek_in, seek_row.fits, seek_row.len, seek_row.folds))

    pub seek_place : {l i : ℕ} → l ≡ get_or n.len r 0 → i ≡ place_of (get_or ss r 0) (get_or ss (r + 1) 0) l k → i < s.terms
    seek_place {l} {i} el ei = rw (ei, el) (row_term_lem seek_row k (drop_in v _ k S.ahead)).place

    -- of any state that the slices show: term k is there
    term_now : {M : Model} {o : List ℕ} {j : ℕ} {w : Work} → Spans ss M → Call M s → Shows M f n o w → Inv M j w
        → (k < length ((row_of w r).terms ++ (row_of w r).folded)) × TermAt s f n (place_of (get_or ss r 0) (get_or ss (r + 1) 0) (get_or n.len r 0) k)
        (get_or ((row_of w r).terms ++ (row_of w r).folded) k no_term)
    term_now {w = w} e c h i =
        let x = row_at c h p a i e in
        let l : k < length ((row_of w r).terms ++ (row_of w r).folded) = omega (arith, seek_in, length-append (row_of w r).terms (row_of w r).folded, x.len, x.folds) in
        (l, row_term_lem x k l)

    pub seek_turn : {l i t : ℕ} → l ≡ get_or n.len r 0 → i ≡ place_of (get_or ss r 0) (get_or ss (r + 1) 0) l k → t ≡ get_or n.vars i 0 → (t ≡ v → ⊥) → Seeking ss s f n r v (k + 1)
    seek_turn {i = i} {t} el e₁ et ne =
        let ei = e₁ ∙ ap (λ (x : ℕ). place_of (get_or ss r 0) (get_or ss (r + 1) 0) x k) el in
        let y = row_of S.ready.work r in
        let l = drop_in v (y.terms ++ y.folded) k S.ahead in
        let e = et ∙ ap (λ (q : ℕ). get_or n.vars q 0) ei in
        record {
          ready = S.ready;
          ahead = drop_rest v (y.terms ++ y.folded) k l (λ z. ne (e ∙ (row_term_lem seek_row k l).var ∙ z)) S.ahead;
          rest = λ M o j w q c h u.
              let x = term_now q c h u in
              sym (drop_later v ((row_of w r).terms ++ (row_of w r).folded) k x.0 0f (λ z. ne (e ∙ x.1.var ∙ z))) ∙ S.rest M o j w q c h u;
        }

    pub seek_end : {l i t : ℕ} {z : Float} → l ≡ get_or n.len r 0 → i ≡ place_of (get_or ss r 0) (get_or ss (r + 1) 0) l k → t ≡ get_or n.vars i 0 → t ≡ v → z ≡ get_or f.coeffs i nan
        → Reads (Spans ss) s f n z (λ M w. coeff_of (row_of w r) v)
    seek_end {i = i} {t} {z} el e₁ et ev ez =
        let ei = e₁ ∙ ap (λ (x : ℕ). place_of (get_or ss r 0) (get_or ss (r + 1) 0) x k) el in
        let e = sym et ∙ ev in
        record {
          reads = λ M o j w q c h u.
              let x = term_now q c h u in
              let b : (get_or ((row_of w r).terms ++ (row_of w r).folded) k no_term).var ≡ v = sym x.1.var ∙ ap (λ (y : ℕ). get_or n.vars y 0) (sym ei) ∙ e in
              sym (S.rest M o j w q c h u) ∙ drop_here v ((row_of w r).terms ++ (row_of w r).folded) k x.0 0f b ∙ sym x.1.coeff ∙ ap (λ (y : ℕ). get_or f.coeffs y nan) (sym ei) ∙ sym ez;
        }
