-- An alive row as the slices have it: how many terms are live and folded, and where each stands. One record for both sides of a contract: `row_at` gives it for every state that
-- the slices show, `row_ready` for the one that `Ready` has.
use Prim.Native.Nat.{ℕ, zero, suc, ◌+◌, ◌-◌, ◌≤◌, ◌<◌}
use Rattle.std.proofs.Common.{arith, sym, ◌∙◌, inl, inr, ⊎_elim, length-append, get_or-append-add, eqb-true}
use Rattle.std.specs.Prelude.{◌≡◌, refl, ◌⊎◌, Bool, true, false, ◌||◌, eqb, take, Float}
use Rattle.std.proofs.Math.Path.{ap}
use mathlib.Core.List.{List, [], ◌∷◌}
use Rattle.std.proofs.Math.ListN.{length, get_or, drop, length-take, get_or-append}
use Rattle.std.proofs.Math.Seq.{get_or-take, get_or-drop}
use Rattle.tolerances.specs.Tol.{Term, at, zip_terms}
use Rattle.definition.specs.Model.{Model, from, upto, nnz, written, Row}
use Rattle.definition.specs.Work.{Work, no_term, has_term}
use Rattle.space.specs.declared.Context.{Context}
use Rattle.space.specs.Store.{Floats, Numbers}
use Rattle.view.specs.Call.{Call}
use Rattle.view.specs.Shows.{is_one, Shows, RowShown, parts_of}
use Rattle.view.specs.Inv.{Inv, RowInv, AllIn, all_in[], all_in∷}
use Rattle.view.specs.Lists.{one_is}
use Rattle.view.specs.Acts.{Ready}
use Rattle.view.specs.Known.{Spans}
use Rattle.readers.specs.Reading.{row_of, Alive}

-- place i has the term t, whose variable is one of the model's
pub record TermAt (s : Context) (f : Floats) (n : Numbers) (i : ℕ) (t : Term) : Type 0 where
  pub var : get_or n.vars i 0 ≡ t.var
  pub coeff : at f.coeffs i ≡ t.coeff
  pub below : t.var < s.vars
  pub place : i < s.terms

-- row r, whose span is where the list ss of all spans' starts says
pub record RowAt (ss : List ℕ) (s : Context) (f : Floats) (n : Numbers) (r : ℕ) (row : Row) : Type 0 where
  pub long : r + 1 < length ss
  pub len : get_or n.len r 0 ≡ length row.terms
  pub folds : get_or n.folded r 0 ≡ length row.folded
  pub fits : get_or ss r 0 + length row.terms + length row.folded ≤ get_or ss (r + 1) 0
  pub last : get_or ss (r + 1) 0 ≤ s.terms
  pub small : s.terms ≤ 65536
  pub terms : (k : ℕ) → k < length row.terms → TermAt s f n (get_or ss r 0 + k) (get_or row.terms k no_term)
  pub folded : (k : ℕ) → k < length row.folded → TermAt s f n (get_or ss (r + 1) 0 - 1 - k) (get_or row.folded k no_term)

-- ---- a term of a row as written has a variable of the model
pub or_true : (a b : Bool) → (a || b) ≡ true → (a ≡ true) ⊎ (b ≡ true)
or_true true b e = inl refl
or_true false b e = inr e

zip_below : (v m : ℕ) (is : List ℕ) (cs : List Float) → ((k : ℕ) → k < length is → get_or is k 0 < m) → has_term v (zip_terms is cs) ≡ true → v < m
unfolding zip_terms has_term
zip_below v m [] cs h e = absurd (let z : ◌≡◌ {A = ℕ} 0 1 = cc in omega arith)
zip_below v m (i ∷ is) [] h e = absurd (let z : ◌≡◌ {A = ℕ} 0 1 = cc in omega arith)
zip_below v m (i ∷ is) (c ∷ cs) h e =
    ⊎_elim (λ t. let z = h 0 (omega arith) in omega (arith, z, eqb-true i v t)) (λ t. zip_below v m is cs (λ k p. h (suc k) (omega arith)) t)
    (or_true (eqb i v) (has_term v (zip_terms is cs)) e)

pub all_in_lem : {all ts : List Term} → AllIn all ts → (k : ℕ) → k < length ts → has_term (get_or ts k no_term).var all ≡ true
all_in_lem all_in[] k p = absurd (omega arith)
all_in_lem (all_in∷ e a) zero p = e
all_in_lem (all_in∷ e a) (suc k) p = all_in_lem a k (omega arith)

module _ {M : Model} {s : Context} (c : Call M s) {r : ℕ} (p : r < s.rows) where
  pub in_rows : r < length M.rhs
  in_rows = omega (arith, p, c.rows)

  pub span_fits : from M r + nnz M r ≤ length M.index
  unfolding nnz
  span_fits = omega (arith, c.rise r in_rows, c.last r in_rows)

  pub written_below : (v : ℕ) → has_term v (written M r) ≡ true → v < s.vars
  unfolding written
  written_below v e =
      let a = from M r in
      let b = nnz M r in
      let d = drop a M.index in
      let z : v < length M.lower =
      zip_below v (length M.lower) (take b d) (take b (drop a M.coeff))
      (λ k q.
      let l : k < b = omega (arith, q, length-take b d) in
      let x : get_or (take b d) k 0 ≡ get_or M.index (a + k) 0 = get_or-take b d k 0 l ∙ get_or-drop a M.index k 0 in
      omega (arith, x, c.index (a + k) (omega (arith, l, span_fits)))) e in
      omega (arith, z, c.vars)

-- ---- whatever state the slices show
module _ {M : Model} {s : Context} {f : Floats} {n : Numbers} {o : List ℕ} {w : Work} {r : ℕ} (c : Call M s) (h : Shows M f n o w) (p : r < s.rows) (a : Alive n r) where
  pub row_alive : (row_of w r).alive ≡ true
  row_alive = sym (h.alive r (in_rows c p)) ∙ ap is_one a ∙ one_is

  pub row_shown : RowShown M (parts_of f n) r (row_of w r)
  row_shown = h.rows r (in_rows c p) row_alive

  module _ {k : ℕ} (i : Inv M k w) where
    pub row_inv : RowInv M r (row_of w r)
    row_inv = i.rows r (in_rows c p) row_alive

    live_below : (j : ℕ) → j < length (row_of w r).terms → (get_or (row_of w r).terms j no_term).var < s.vars
    live_below j q =
        let x = row_of w r in
        let e = all_in_lem row_inv.all_in j (omega (arith, q, length-append x.terms x.folded)) in
        written_below c p _ (rw (get_or-append x.terms x.folded no_term j q) at e)

    folded_below : (j : ℕ) → j < length (row_of w r).folded → (get_or (row_of w r).folded j no_term).var < s.vars
    folded_below j q =
        let x = row_of w r in
        let e = all_in_lem row_inv.all_in (length x.terms + j) (omega (arith, q, length-append x.terms x.folded)) in
        written_below c p _ (rw (get_or-append-add x.terms x.folded j no_term) at e)

    pub row_at : {ss : List ℕ} → Spans ss M → RowAt ss s f n r (row_of w r)
    unfolding nnz from upto
    row_at {ss} e =
        let x = row_shown in
        let a₁ : get_or M.starts r 0 ≡ get_or ss r 0 = ap (λ (l : List ℕ). get_or l r 0) e.starts in
        let a₂ : get_or M.starts (r + 1) 0 ≡ get_or ss (r + 1) 0 = ap (λ (l : List ℕ). get_or l (r + 1) 0) e.starts in
        let q = in_rows c p in
        record {
          long = omega (arith, c.starts, ap length e.starts, q);
          len = x.len;
          folds = x.folds;
          fits = omega (arith, x.fits, a₁, a₂, c.rise r q);
          last = omega (arith, a₂, c.last r q, c.terms);
          small = omega (arith, c.terms, c.max_terms);
          terms = λ j l.
              let t = x.terms j l in
              let z : get_or M.starts r 0 + j ≡ get_or ss r 0 + j = ap (λ (m : ℕ). m + j) a₁ in
              record {
                var = ap (λ (m : ℕ). get_or n.vars m 0) (sym z) ∙ t.var;
                coeff = ap (λ (m : ℕ). at f.coeffs m) (sym z) ∙ t.coeff;
                below = live_below j l;
                place = omega (arith, x.fits, a₁, l, c.rise r q, c.last r q, c.terms);
              };
          folded = λ j l.
              let t = x.folded j l in
              let z : get_or M.starts (r + 1) 0 - suc j ≡ get_or ss (r + 1) 0 - 1 - j = omega (arith, a₂) in
              record {
                var = ap (λ (m : ℕ). get_or n.vars m 0) (sym z) ∙ t.var;
                coeff = ap (λ (m : ℕ). at f.coeffs m) (sym z) ∙ t.coeff;
                below = folded_below j l;
                place = omega (arith, x.fits, a₂, l, c.rise r q, c.last r q, c.terms);
              };
        }

-- a row that the state has alive is alive in the slices
pub alive_of : {M : Model} {s : Context} {f : Floats} {n : Numbers} {o : List ℕ} {w : Work} {r : ℕ} → Call M s → Shows M f n o w → r < s.rows → (row_of w r).alive ≡ true → Alive n r
unfolding is_one
alive_of {n = n} {r = r} c h p e = eqb-true (get_or n.alive r 0) 1 (h.alive r (in_rows c p) ∙ e)

-- ---- the state that `Ready` has, of a P that knows where the spans are
module _ {P : Model → Type 0} {s : Context} {f : Floats} {n : Numbers} {ss : List ℕ} {r : ℕ} (R : Ready P s f n) (q : (M : Model) → P M → Spans ss M) (p : r < s.rows) (a : Alive n r) where
  pub row_ready : RowAt ss s f n r (row_of R.work r)
  row_ready = row_at R.call R.shows p a R.inv (q R.model R.known)

  -- the place of the j-th live and of the j-th folded term, and their variables
  pub live_place : {j : ℕ} → j < get_or n.len r 0 → get_or ss r 0 + j < s.terms
  live_place {j} l = (row_ready.terms j (omega (arith, l, row_ready.len))).place

  pub live_var : {j x : ℕ} → j < get_or n.len r 0 → x ≡ get_or n.vars (get_or ss r 0 + j) 0 → x < s.vars
  live_var {j} l e = let t = row_ready.terms j (omega (arith, l, row_ready.len)) in omega (arith, e, t.var, t.below)
