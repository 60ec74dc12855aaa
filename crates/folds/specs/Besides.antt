-- A row's rewritten binaries, and the magnitude of its folded terms but theirs: `fixed_besides`.
use Rattle.std.specs.Prelude.{ℕ, zero, suc, ◌+◌, ◌-◌, ◌≤◌, ◌<◌, ◌≡◌, refl, Bool, true, false, ◌||◌, eqb, List, [], ◌∷◌, length, get_or, take, drop, Float}
use Rattle.std.specs.List.{list_any, range_with_len}
use Rattle.std.proofs.Common.{arith, add-one, ap, sym, ◌∙◌, length-append, drop-cons, ext_get_or, get_or-append-add}
use Rattle.std.proofs.Math.Option.{Option, none, some}
use Rattle.std.proofs.Math.Seq.{drop-length}
use Rattle.std.specs.Float.{nan}
use Rattle.floats.specs.Num.{choose, ◌⊕◌, ◌⊗◌, 0f, abs}
use Rattle.tolerances.specs.Tol.{Term, at}
use Rattle.definition.specs.Model.{Model, from, upto, nnz, Row, Binding}
use Rattle.definition.specs.Work.{Work, no_term, has}
use Rattle.definition.specs.Folds.{fixed_besides_from, fixed_besides}
use Rattle.space.specs.declared.Context.{Context}
use Rattle.space.specs.Store.{Floats, Numbers}
use Rattle.view.specs.Call.{Call}
use Rattle.view.specs.Shows.{Parts, BindingShown, unbound, is_bound}
use Rattle.view.specs.Known.{Spans}
use Rattle.view.specs.Lists.{yes, no}
use Rattle.folds.specs.Apart.{nnz_is}
use Rattle.folds.specs.Sized.{Sized}
use Rattle.folds.specs.Written.{eqb_same, eqb_differ, span_length, span_at}
use Rattle.folds.specs.Counting.{all_at}
use Rattle.folds.specs.Stands.{Stands, Standing, TellsRow, TellsN}
use Rattle.folds.specs.FoldStep.{in_model, in_rows, start_is, stop_is}

-- the k numbers from place a on
abbrev pub listed : ℕ → ℕ → List ℕ → List ℕ
listed a k l = take k (drop a l)

-- ---- has_among
has_yes : (u v : ℕ) (us : List ℕ) → u ≡ v → has v (u ∷ us) ≡ true
unfolding has
has_yes u v us e = rw (eqb_same u v e)

has_no : (u v : ℕ) (us : List ℕ) → (u ≡ v → ⊥) → has v (u ∷ us) ≡ has v us
unfolding has
has_no u v us e = rw (eqb_differ u v e)

has_none : (v : ℕ) → has v [] ≡ false
unfolding has
has_none v = refl

module _ (a k v : ℕ) (l : List ℕ) (long : a + k ≤ length l) where
  among_next : (i u : ℕ) → i < k → u ≡ get_or l (a + i) 0 → drop i (listed a k l) ≡ u ∷ drop (suc i) (listed a k l)
  among_next i u q e =
      drop-cons (listed a k l) i 0 (omega (arith, q, span_length l a k long)) ∙ ap (λ (y : ℕ). y ∷ drop (suc i) (listed a k l)) (span_at l a k i 0 q ∙ sym e)

  pub among_found : {i u : ℕ} → has v (drop i (listed a k l)) ≡ has v (listed a k l) → i < k → u ≡ get_or l (a + i) 0 → u ≡ v → true ≡ has v (listed a k l)
  among_found {i} {u} h q e g = sym (sym h ∙ ap (has v) (among_next i u q e) ∙ has_yes u v _ g)

  pub among_more : {i u : ℕ} → has v (drop i (listed a k l)) ≡ has v (listed a k l) → i < k → u ≡ get_or l (a + i) 0 → (u ≡ v → ⊥) → has v (drop (i + 1) (listed a k l)) ≡ has v (listed a k l)
  among_more {i} {u} h q e g = rw add-one (sym (has_no u v (drop (suc i) (listed a k l)) g) ∙ ap (has v) (sym (among_next i u q e)) ∙ h)

  pub among_end : {i : ℕ} → has v (drop i (listed a k l)) ≡ has v (listed a k l) → k ≤ i → i ≤ k → false ≡ has v (listed a k l)
  among_end {i} h p q =
      let e : i ≡ length (listed a k l) = omega (arith, p, q, span_length l a k long) in
      sym (has_none v) ∙ ap (has v) (sym (drop-length (listed a k l)) ∙ ap (λ (j : ℕ). drop j (listed a k l)) (sym e)) ∙ h

  among_first : (i : ℕ) → i < k → (eqb (get_or l (a + i) 0) v || has v (drop (i + 1) (listed a k l))) ≡ has v (drop i (listed a k l))
  unfolding has
  among_first i q = rw add-one (sym (ap (has v) (among_next i _ q refl)))

  among_from : (n i : ℕ) → i + n ≡ k → list_any (λ j. eqb (get_or l (a + j) 0) v) (range_with_len i n) ≡ has v (drop i (listed a k l))
  among_from zero i e =
      let g : i ≡ length (listed a k l) = omega (arith, e, span_length l a k long) in
      sym (ap (has v) (ap (λ (j : ℕ). drop j (listed a k l)) g ∙ drop-length (listed a k l)) ∙ has_none v)
  among_from (suc n) i e = ap (λ (b : Bool). eqb (get_or l (a + i) 0) v || b) (among_from n (i + 1) (omega (arith, e))) ∙ among_first i (omega (arith, e))

  pub among_any : list_any (λ j. eqb (get_or l (a + j) 0) v) (range_with_len 0 k) ≡ has v (listed a k l)
  among_any = among_from k 0 (omega arith)

-- ---- the block holds the binding's binaries
start_of : {starts : List ℕ} (M : Model) (r : ℕ) → M.starts ≡ starts → get_or starts r 0 ≡ from M r
unfolding from
start_of M r e = ap (λ (l : List ℕ). get_or l r 0) (sym e)

stop_of : {starts : List ℕ} (M : Model) (r : ℕ) → M.starts ≡ starts → get_or starts (r + 1) 0 ≡ upto M r
unfolding upto
stop_of M r e = ap (λ (l : List ℕ). get_or l (r + 1) 0) (sym e)

abbrev pub binaries_of : Option Binding → List ℕ
binaries_of none = []
binaries_of (some b) = b.binaries

listed_is : {M : Model} {s : Context} {q : Parts} {r : ℕ} {b : Option Binding} → Call M s → r < length M.rhs → length q.binary ≡ s.terms → BindingShown M q r b
    → listed (from M r) (get_or q.binaries r 0) q.binary ≡ binaries_of b
listed_is c p z (unbound e) = rw e
listed_is {M} {q = q} {r = r} c p z (is_bound {b} h) =
    let k = get_or q.binaries r 0 in
    let l = span_length q.binary (from M r) k (omega (arith, h.count, h.fits, nnz_is M r, c.rise r p, c.last r p, c.terms, z)) in
    ext_get_or 0 (listed (from M r) k q.binary) b.binaries (l ∙ h.count) (λ i y. span_at q.binary (from M r) k i 0 (omega (arith, y, l)) ∙ h.binary i (omega (arith, y, l, h.count)))

pub binaries_are : {M : Model} {s : Context} {r : ℕ} {f : Floats} {n : Numbers} {w : Work} {x : Row} → Call M s → r < length M.rhs → length n.binary ≡ s.terms → Stands M r f n w x
    → listed (from M r) (get_or n.binaries r 0) n.binary ≡ binaries_of x.binding
binaries_are c p z h = listed_is c p z h.shown.binding

binaries_fit : {M : Model} {q : Parts} {r : ℕ} {b : Option Binding} → BindingShown M q r b → get_or q.binaries r 0 ≤ nnz M r
binaries_fit (unbound e) = omega (arith, e)
binaries_fit (is_bound h) = omega (arith, h.count, h.fits)

-- ---- what has_binary and fixed_besides may touch
module _ {s : Context} {starts : List ℕ} {r : ℕ} {f : Floats} {n : Numbers} (p : r < s.rows) (G : Standing (Spans starts) s r f n) where
  pub binaries_in : get_or starts r 0 + get_or n.binaries r 0 ≤ s.terms
  binaries_in =
      let l = in_rows p G in
      omega (arith, start_is p G, binaries_fit G.stands.shown.binding, nnz_is G.model r, G.call.rise r l, G.call.last r l, G.call.terms)

  -- a folded term's variable
  pub folded_in : (j : ℕ) {v : ℕ} → j < get_or n.folded r 0 → v ≡ get_or n.vars (get_or starts (r + 1) 0 - (j + 1)) 0 → v < s.vars
  folded_in j {v} q e =
      let ts = G.row.terms in
      let fs = G.row.folded in
      let b : j < length fs = omega (arith, q, G.stands.shown.folds) in
      let t = get_or-append-add ts fs j no_term in
      let a = all_at G.inv.all_in (length ts + j) (omega (arith, b, length-append ts fs)) in
      let i : get_or starts (r + 1) 0 - (j + 1) ≡ upto G.model r - suc j = omega (arith, stop_is p G) in
      let g : v ≡ (get_or fs j no_term).var = e ∙ ap (λ (u : ℕ). get_or n.vars u 0) i ∙ (G.stands.shown.folded j b).var in
      omega (arith, in_model {v = v} G.call (in_rows p G) (rw (g, ← t) a), G.call.vars)

-- ---- has_binary
pub has_binary_end : {s : Context} {starts : List ℕ} {r : ℕ} (n : Numbers) (v : ℕ) {z : Bool} {a k : ℕ} → r < s.rows → length n.binary ≡ s.terms
    → a ≡ get_or starts r 0 → k ≡ get_or n.binaries r 0 → z ≡ has v (listed a k n.binary)
    → TellsN (Spans starts) s r n z (λ M w x. has v (binaries_of x.binding))
has_binary_end {r = r} n v {z} {a} {k} p zs ea ek ez =
    record {
      tells = λ f M w x g c h.
          let e : a ≡ from M r = ea ∙ start_of M r g.starts in
          ap (has v) (sym (binaries_are c (omega (arith, p, c.rows)) zs h) ∙ sym (ap (λ (u : ℕ). listed u k n.binary) e ∙ ap (λ (u : ℕ). listed (from M r) u n.binary) ek)) ∙ sym ez;
    }

-- ---- fixed_besides: one folded term more
abbrev pub besides : List ℕ → Float → ℕ → Float → Float → Float
besides bs sum v y t = choose (has v bs) sum (sum ⊕ abs (y ⊗ t))

module _ (bs : List ℕ) (f : Floats) (n : Numbers) (i : ℕ) (sum : Float) {v : ℕ} {b : Bool} (ev : v ≡ get_or n.vars i 0) (eb : b ≡ has v bs) where
  pub besides_kept : b ≡ true → sum ≡ besides bs sum (get_or n.vars i 0) (get_or f.coeffs i nan) (get_or f.elo (get_or n.vars i 0) nan)
  besides_kept g = rw (← ev) (sym (yes _ _ (sym eb ∙ g)))

  pub besides_added : {y t d : Float} → b ≡ false → y ≡ get_or f.coeffs i nan → t ≡ get_or f.elo v nan → d ≡ abs (y ⊗ t)
      → sum ⊕ d ≡ besides bs sum (get_or n.vars i 0) (get_or f.coeffs i nan) (get_or f.elo (get_or n.vars i 0) nan)
  besides_added g ey et ed = rw (← ev, ← ey, ← et, ed) (sym (no _ _ (sym eb ∙ g)))

from_more : (w : Work) (bs : List ℕ) (s : Float) (t : Term) (ts : List Term) → fixed_besides_from w bs s (t ∷ ts) ≡ fixed_besides_from w bs (besides bs s t.var t.coeff (at w.elo t.var)) ts
unfolding fixed_besides_from
from_more w bs s t ts = refl

from_none : (w : Work) (bs : List ℕ) (s : Float) → fixed_besides_from w bs s [] ≡ s
unfolding fixed_besides_from
from_none w bs s = refl

-- the sum over the first j folded terms, b the binaries
pub record Summed (starts : List ℕ) (s : Context) (r : ℕ) (bs : List ℕ) (f : Floats) (n : Numbers) (j : ℕ) (sum : Float) : Type 0 where
  pub rest : (M : Model) (w : Work) (x : Row) → Spans starts M → Call M s → Stands M r f n w x → fixed_besides_from w bs sum (drop j x.folded) ≡ fixed_besides_from w bs 0f x.folded

pub summed_none : {starts : List ℕ} {s : Context} {r : ℕ} (bs : List ℕ) {f : Floats} {n : Numbers} → Summed starts s r bs f n 0 0f
summed_none bs = record { rest = λ M w x g c h. refl }

module _ {starts : List ℕ} {s : Context} {r : ℕ} (bs : List ℕ) (f : Floats) (n : Numbers) {j : ℕ} {sum : Float} (h : Summed starts s r bs f n j sum) where
  pub summed_more : {e i : ℕ} {z : Float} → j < get_or n.folded r 0 → e ≡ get_or starts (r + 1) 0 → i ≡ e - (j + 1)
      → z ≡ besides bs sum (get_or n.vars i 0) (get_or f.coeffs i nan) (get_or f.elo (get_or n.vars i 0) nan)
      → Summed starts s r bs f n (j + 1) z
  summed_more {e} {i} {z} q ee ei ez =
      record {
        rest = λ M w x g c k.
            let l : j < length x.folded = omega (arith, q, k.shown.folds) in
            let t = get_or x.folded j no_term in
            let ii : i ≡ upto M r - suc j = omega (arith, ei, ee, stop_of M r g.starts) in
            let ev : get_or n.vars i 0 ≡ t.var = ap (λ (u : ℕ). get_or n.vars u 0) ii ∙ (k.shown.folded j l).var in
            let ec : get_or f.coeffs i nan ≡ t.coeff = ap (λ (u : ℕ). get_or f.coeffs u nan) ii ∙ (k.shown.folded j l).coeff in
            let zz : z ≡ besides bs sum t.var t.coeff (at w.elo t.var) = rw (← k.elo, ← ev, ← ec) ez in
            ap (λ (u : Float). fixed_besides_from w bs u (drop (j + 1) x.folded)) zz ∙ ap
            (λ (u : ℕ). fixed_besides_from w bs (besides bs sum t.var t.coeff (at w.elo t.var)) (drop u x.folded)) (add-one j)
            ∙ sym (from_more w bs sum t (drop (suc j) x.folded)) ∙ ap (fixed_besides_from w bs sum) (sym (drop-cons x.folded j no_term l)) ∙ h.rest M w x g c k;
      }

pub besides_end : {s : Context} {starts : List ℕ} {r : ℕ} (f : Floats) (n : Numbers) {j a k m : ℕ} {sum : Float} → r < s.rows → Sized s f n → a ≡ get_or starts r 0
    → k ≡ get_or n.binaries r 0 → m ≡ get_or n.folded r 0
    → Summed starts s r (listed a k n.binary) f n j sum → m ≤ j → j ≤ m → TellsRow (Spans starts) s r f n sum (λ M w x. fixed_besides w x (binaries_of x.binding))
unfolding fixed_besides
besides_end {r = r} f n {j} {a} {k} {m} {sum} p z ea ek em h q t =
    record {
      tells = λ M w x g c l.
          let bs = listed a k n.binary in
          let e : a ≡ from M r = ea ∙ start_of M r g.starts in
          let b : binaries_of x.binding ≡ bs = sym (binaries_are c (omega (arith, p, c.rows)) z.binary l)
          ∙ sym (ap (λ (u : ℕ). listed u k n.binary) e ∙ ap (λ (u : ℕ). listed (from M r) u n.binary) ek) in
          let y : j ≡ length x.folded = omega (arith, q, t, em, l.shown.folds) in
          let d : drop j x.folded ≡ [] = ap (λ (u : ℕ). drop u x.folded) y ∙ drop-length x.folded in
          ap (λ (u : List ℕ). fixed_besides_from w u 0f x.folded) b ∙ sym (h.rest M w x g c l) ∙ ap (fixed_besides_from w bs sum) d ∙ from_none w bs sum;
    }
