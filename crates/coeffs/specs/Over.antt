-- A walk over a row's rewritten binaries, in their order: what is left of a definition from the k-th on gives the whole.
use Rattle.std.specs.Prelude.{ℕ, suc, ◌+◌, ◌≤◌, ◌<◌, ◌≡◌, refl, List, [], ◌∷◌, length, get_or, drop}
use Rattle.std.proofs.Common.{arith, add-one, ap, sym, ◌∙◌, drop_of_length-le, drop-cons}
use Rattle.std.proofs.Math.Option.{Option}
use Rattle.definition.specs.Model.{Model, from, Binding}
use Rattle.definition.specs.Work.{Work}
use Rattle.space.specs.declared.Context.{Context}
use Rattle.space.specs.Store.{Floats, Numbers}
use Rattle.view.specs.Call.{Call}
use Rattle.view.specs.Shows.{Shows, Parts, BindingShown, unbound, is_bound}
use Rattle.view.specs.Inv.{Inv}
use Rattle.view.specs.Acts.{Ready, Reads}
use Rattle.view.specs.Known.{Spans}
use Rattle.readers.specs.Reading.{row_of, Alive}
use Rattle.readers.specs.RowAt.{row_shown, row_ready}
use Rattle.readers.specs.Coeffs.{ReadyTerm}
use Rattle.readers.specs.Binaries.{binary_place, binary_has}
use Rattle.folds.specs.Besides.{binaries_of}

-- the binaries as the slices have them
nth_of : {M : Model} {p : Parts} {r : ℕ} {b : Option Binding} (k v : ℕ) → BindingShown M p r b → k < get_or p.binaries r 0
    → v ≡ get_or p.binary (from M r + k) 0 → drop k (binaries_of b) ≡ v ∷ drop (suc k) (binaries_of b)
nth_of k v (unbound e) l g = absurd (omega (arith, e, l))
nth_of k v (is_bound {b} h) l g =
    let q : k < length b.binaries = omega (arith, l, h.count) in
    drop-cons b.binaries k 0 q ∙ ap (λ (x : ℕ). x ∷ drop (suc k) b.binaries) (sym (h.binary k q) ∙ sym g)

count_of : {M : Model} {p : Parts} {r : ℕ} {b : Option Binding} → BindingShown M p r b → get_or p.binaries r 0 ≡ length (binaries_of b)
count_of (unbound e) = e
count_of (is_bound h) = h.count

-- the span starts where the slice says
from_of : {ss : List ℕ} (M : Model) (r : ℕ) → M.starts ≡ ss → from M r ≡ get_or ss r 0
unfolding from
from_of M r e = ap (λ (l : List ℕ). get_or l r 0) e

-- after k binaries, with d gathered
pub record Over {A : Type 0} (P : Model → Type 0) (s : Context) (f : Floats) (n : Numbers) (r k : ℕ) (d : A) (G : Model → Work → A → List ℕ → A) (F : Model → Work → A) : Type 0 where
  pub upto : k ≤ get_or n.binaries r 0
  pub rest : (M : Model) (o : List ℕ) (j : ℕ) (w : Work) → P M → Call M s → Shows M f n o w → Inv M j w → G M w d (drop k (binaries_of (row_of w r).binding)) ≡ F M w

module _ {A : Type 0} {P : Model → Type 0} {s : Context} {f : Floats} {n : Numbers} {r : ℕ} {G : Model → Work → A → List ℕ → A} {F : Model → Work → A} where
  pub over_start : {d : A} → ((M : Model) (w : Work) → G M w d (binaries_of (row_of w r).binding) ≡ F M w) → Over P s f n r 0 d G F
  over_start e = record { upto = omega arith; rest = λ M o j w p c h i. e M w }

  module _ {k : ℕ} {d : A} (p : r < s.rows) (a : Alive n r) (W : Over P s f n r k d G F) {l : ℕ} (el : l ≡ get_or n.binaries r 0) where
    pub over_turn : {ss : List ℕ} {v : ℕ} {d' : A} (step : Model → Work → ℕ → A → A)
        → ((M : Model) (w : Work) (d : A) (v : ℕ) (vs : List ℕ) → G M w d (v ∷ vs) ≡ G M w (step M w v d) vs) → ((M : Model) → P M → Spans ss M)
        → k < l → v ≡ get_or n.binary (get_or ss r 0 + k) 0 → Reads P s f n d' (λ M w. step M w v d) → Over P s f n r (k + 1) d' G F
    over_turn {ss} {v} {d'} step cons q kl ev t =
        record {
          upto = omega (arith, kl, el);
          rest = λ M o j w x c h i.
              let b = (row_of w r).binding in
              let g : v ≡ get_or n.binary (from M r + k) 0 = ev ∙ ap (λ (y : ℕ). get_or n.binary (y + k) 0) (sym (from_of M r (q M x).starts)) in
              let e = nth_of k v (row_shown c h p a).binding (omega (arith, kl, el)) g in
              ap (λ (y : ℕ). G M w d' (drop y (binaries_of b))) (add-one k) ∙ ap (λ (y : A). G M w y (drop (suc k) (binaries_of b)))
              (sym (t.reads M o j w x c h i)) ∙ sym (cons M w d v (drop (suc k) (binaries_of b)))
              ∙ ap (G M w d) (sym e) ∙ W.rest M o j w x c h i;
        }

    pub over_end : ((M : Model) (w : Work) (d : A) → G M w d [] ≡ d) → l ≤ k → Reads P s f n d F
    over_end nil lk =
        record {
          reads = λ M o j w x c h i.
              let b = (row_of w r).binding in
              let e : drop k (binaries_of b) ≡ [] = drop_of_length-le (binaries_of b) {i = k} (omega (arith, lk, el, count_of (row_shown c h p a).binding)) in
              sym (W.rest M o j w x c h i) ∙ ap (G M w d) e ∙ nil M w d;
        }

-- what the walk's readers ask for
module _ {P : Model → Type 0} {s : Context} {f : Floats} {n : Numbers} {ss : List ℕ} {r k l : ℕ} (R : Ready P s f n) (q : (M : Model) → P M → Spans ss M)
    (p : r < s.rows) (a : Alive n r) (el : l ≡ get_or n.binaries r 0) (kl : k < l) where
  over_from : from R.model r ≡ get_or ss r 0
  over_from = from_of R.model r (q R.model R.known).starts

  pub over_place : get_or ss r 0 + k < s.terms
  over_place = omega (arith, over_from, binary_place R.call R.shows p a R.inv k _ (omega (arith, el, kl)) refl)

  pub over_small : get_or ss r 0 + k < 65536
  over_small = omega (arith, over_place, (row_ready R q p a).small)

  pub over_term : {v : ℕ} → v ≡ get_or n.binary (get_or ss r 0 + k) 0 → ReadyTerm (Spans ss) s f n r v
  over_term {v} e =
      record {
        ready =
            record {
              model = R.model;
              other = R.other;
              left = R.left;
              work = R.work;
              known = q R.model R.known;
              call = R.call;
              shows = R.shows;
              inv = R.inv;
            };
        has = binary_has R.call R.shows p a R.inv k v (omega (arith, el, kl)) (e ∙ ap (λ (y : ℕ). get_or n.binary (y + k) 0) (sym over_from));
      }
