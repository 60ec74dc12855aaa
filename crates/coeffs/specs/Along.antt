-- A walk over a row's live terms, in their order: what is left of a definition from the k-th on gives the whole.
use Rattle.std.specs.Prelude.{ℕ, suc, ◌+◌, ◌≤◌, ◌<◌, ◌≡◌, List, [], ◌∷◌, length, get_or, drop, Float}
use Rattle.std.proofs.Common.{arith, add-one, ap, sym, ◌∙◌, drop_of_length-le, drop-cons}
use Rattle.std.specs.Float.{nan}
use Rattle.tolerances.specs.Tol.{Term, term}
use Rattle.definition.specs.Model.{Model}
use Rattle.definition.specs.Work.{Work, no_term}
use Rattle.space.specs.declared.Context.{Context}
use Rattle.space.specs.Store.{Floats, Numbers}
use Rattle.view.specs.Call.{Call}
use Rattle.view.specs.Shows.{Shows}
use Rattle.view.specs.Inv.{Inv}
use Rattle.view.specs.Acts.{Ready, Reads}
use Rattle.view.specs.Known.{Spans}
use Rattle.readers.specs.Reading.{row_of, Alive}
use Rattle.readers.specs.RowAt.{row_at, row_ready, live_place, live_var}

-- after k terms, with d gathered
pub record Along {A : Type 0} (P : Model → Type 0) (s : Context) (f : Floats) (n : Numbers) (r k : ℕ) (d : A) (G : Model → Work → A → List Term → A) (F : Model → Work → A) : Type 0 where
  pub upto : k ≤ get_or n.len r 0
  pub rest : (M : Model) (o : List ℕ) (j : ℕ) (w : Work) → P M → Call M s → Shows M f n o w → Inv M j w → G M w d (drop k (row_of w r).terms) ≡ F M w

module _ {A : Type 0} {P : Model → Type 0} {s : Context} {f : Floats} {n : Numbers} {r : ℕ} {G : Model → Work → A → List Term → A} {F : Model → Work → A} where
  pub along_start : {d : A} → ((M : Model) (w : Work) → G M w d (row_of w r).terms ≡ F M w) → Along P s f n r 0 d G F
  along_start e = record { upto = omega arith; rest = λ M o j w p c h i. e M w }

  module _ {ss : List ℕ} (q : (M : Model) → P M → Spans ss M) {k : ℕ} {d : A} (p : r < s.rows) (a : Alive n r) (W : Along P s f n r k d G F) {l : ℕ} (el : l ≡ get_or n.len r 0) where
    pub along_turn : {v : ℕ} {x : Float} {d' : A} (step : Model → Work → Term → A → A)
        → ((M : Model) (w : Work) (d : A) (t : Term) (ts : List Term) → G M w d (t ∷ ts) ≡ G M w (step M w t d) ts) → k < l
        → v ≡ get_or n.vars (get_or ss r 0 + k) 0
        → x ≡ get_or f.coeffs (get_or ss r 0 + k) nan → Reads P s f n d' (λ M w. step M w (term v x) d) → Along P s f n r (k + 1) d' G F
    along_turn {v} {x} {d'} step cons kl ev ex t =
        record {
          upto = omega (arith, kl, el);
          rest = λ M o j w y c h i.
              let ts = (row_of w r).terms in
              let row = row_at c h p a i (q M y) in
              let u : k < length ts = omega (arith, kl, el, row.len) in
              let b = row.terms k u in
              let bv : (get_or ts k no_term).var ≡ v = sym b.var ∙ sym ev in
              let bc : (get_or ts k no_term).coeff ≡ x = sym b.coeff ∙ sym ex in
              let bt : get_or ts k no_term ≡ term v x = λ m. term (bv m) (bc m) in
              ap (λ (m : ℕ). G M w d' (drop m ts)) (add-one k) ∙ ap (λ (m : A). G M w m (drop (suc k) ts)) (sym (t.reads M o j w y c h i)) ∙ sym (cons M w d (term v x) (drop (suc k) ts))
              ∙ ap (G M w d) (sym (drop-cons ts k no_term u ∙ ap (λ (m : Term). m ∷ drop (suc k) ts) bt)) ∙ W.rest M o j w y c h i;
        }

    pub along_end : ((M : Model) (w : Work) (d : A) → G M w d [] ≡ d) → l ≤ k → Reads P s f n d F
    along_end nil lk =
        record {
          reads = λ M o j w y c h i.
              let ts = (row_of w r).terms in
              let e : drop k ts ≡ [] = drop_of_length-le ts {i = k} (omega (arith, lk, el, (row_at c h p a i (q M y)).len)) in
              sym (W.rest M o j w y c h i) ∙ ap (G M w d) e ∙ nil M w d;
        }

-- what the walk's readers ask for
module _ {P : Model → Type 0} {s : Context} {f : Floats} {n : Numbers} {ss : List ℕ} {r k l : ℕ} (R : Ready P s f n) (q : (M : Model) → P M → Spans ss M)
    (p : r < s.rows) (a : Alive n r) (el : l ≡ get_or n.len r 0) (kl : k < l) where
  pub along_place : get_or ss r 0 + k < s.terms
  along_place = live_place R q p a (omega (arith, el, kl))

  pub along_small : get_or ss r 0 + k < 65536
  along_small = omega (arith, along_place, (row_ready R q p a).small)

  pub along_var : {v : ℕ} → v ≡ get_or n.vars (get_or ss r 0 + k) 0 → v < s.vars
  along_var e = live_var R q p a (omega (arith, el, kl)) e
