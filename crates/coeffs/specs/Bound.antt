-- The bound that a rewritten row is emitted with, and the sum of its binaries' coefficients, on the slices.
use Rattle.std.specs.Prelude.{ℕ, ◌+◌, ◌≤◌, ◌<◌, ◌≡◌, refl, Bool, true, false, List, [], ◌∷◌, eqb, get_or, Float}
use Rattle.std.proofs.Common.{ap, sym, ◌∙◌}
use Rattle.std.proofs.Math.Option.{Option, none, some}
use Rattle.std.specs.Float.{nan}
use Rattle.std.specs.Float.Ieee.{neg}
use Rattle.floats.specs.Num.{choose, ◌⊕◌, 0f, abs}
use Rattle.tolerances.specs.Tol.{at}
use Rattle.tolerances.specs.declared.Comparison.{Comparison}
use Rattle.tolerances.specs.declared.Comparison.TheVariants.{Equal, AtMost, AtLeast}
use Rattle.tolerances.specs.Answers.{comparison_of}
use Rattle.cdouble.specs.declared.CDouble.{CDouble}
use Rattle.cdouble.specs.Double as double
use Rattle.definition.specs.declared.Rows.{Rows}
use Rattle.definition.specs.Model.{Model, from, written, op_of, rhs_of, Binding, coeff_in, or_else, coeff_of}
use Rattle.definition.specs.Work.{Work}
use Rattle.definition.specs.Bindings.{sum_coeffs, binding_sum, bound_with, rewritten_bound}
use Rattle.space.specs.declared.Context.{Context}
use Rattle.space.specs.Store.{Floats, Numbers}
use Rattle.view.specs.Shows.{is_one}
use Rattle.view.specs.Lists.{yes, no, one_is, one_not}
use Rattle.view.specs.Acts.{Reads}
use Rattle.view.specs.Known.{Spans, Written, written_spans}
use Rattle.readers.specs.Reading.{row_of, Alive}
use Rattle.readers.specs.RowAt.{row_shown}
use Rattle.readers.specs.WrittenCoeffs.{ReadsWritten}
use Rattle.readers.specs.Binaries.{binary_written}
use Rattle.folds.specs.Besides.{binaries_of}
use Rattle.folds.specs.Relaxing.{bound_of, unbound_is}
use Rattle.coeffs.specs.Over.{Over, over_start, over_turn, over_end}

-- ---- sum_coeffs
abbrev pub sum_from : ℕ → Model → Work → Float → List ℕ → Float
sum_from r M w d vs = sum_coeffs (row_of w r) d vs

abbrev pub sum_all : ℕ → Model → Work → Float
sum_all r M w = sum_coeffs (row_of w r) 0f (binaries_of (row_of w r).binding)

abbrev sum_step : ℕ → Model → Work → ℕ → Float → Float
sum_step r M w v d = d ⊕ abs (coeff_of (row_of w r) v)

sum_cons : (r : ℕ) (M : Model) (w : Work) (d : Float) (v : ℕ) (vs : List ℕ) → sum_from r M w d (v ∷ vs) ≡ sum_from r M w (sum_step r M w v d) vs
unfolding sum_coeffs
sum_cons r M w d v vs = refl

sum_nil : (r : ℕ) (M : Model) (w : Work) (d : Float) → sum_from r M w d [] ≡ d
unfolding sum_coeffs
sum_nil r M w d = refl

module _ {ss : List ℕ} {s : Context} {f : Floats} {n : Numbers} (r : ℕ) where
  pub sum_start : Over (Spans ss) s f n r 0 0f (sum_from r) (sum_all r)
  sum_start = over_start (λ M w. refl)

  module _ {k : ℕ} {d : Float} (p : r < s.rows) (a : Alive n r) (W : Over (Spans ss) s f n r k d (sum_from r) (sum_all r)) {l : ℕ} (el : l ≡ get_or n.binaries r 0) where
    pub sum_turn : {v : ℕ} {x y : Float} → k < l → v ≡ get_or n.binary (get_or ss r 0 + k) 0 → Reads (Spans ss) s f n x (λ M w. coeff_of (row_of w r) v)
        → y ≡ abs x → Over (Spans ss) s f n r (k + 1) (d ⊕ y) (sum_from r) (sum_all r)
    sum_turn {v} kl ev t ey =
        over_turn p a W el (sum_step r) (sum_cons r) (λ M q. q) kl ev
        (record { reads = λ M o j w q c h i. ap (λ (z : Float). d ⊕ abs z) (t.reads M o j w q c h i) ∙ ap (λ (z : Float). d ⊕ z) (sym ey) })

    pub sum_end : l ≤ k → Reads (Spans ss) s f n d (sum_all r)
    sum_end lk = over_end p a W el (sum_nil r) lk

-- ---- binding_term, binding_sum
abbrev pub bind_from : ℕ → Model → Work → CDouble → List ℕ → CDouble
bind_from r M w d vs = binding_sum M (row_of w r) r d vs

abbrev pub bind_all : ℕ → Float → Model → Work → CDouble
bind_all r b M w = binding_sum M (row_of w r) r (double.from b) (binaries_of (row_of w r).binding)

abbrev pub bind_step : ℕ → Model → Work → ℕ → CDouble → CDouble
bind_step r M w v d = double.plus (double.plus d (neg (or_else (coeff_in v (written M r)) 0f))) (coeff_of (row_of w r) v)

bind_cons : (r : ℕ) (M : Model) (w : Work) (d : CDouble) (v : ℕ) (vs : List ℕ) → bind_from r M w d (v ∷ vs) ≡ bind_from r M w (bind_step r M w v d) vs
unfolding binding_sum
bind_cons r M w d v vs = refl

bind_nil : (r : ℕ) (M : Model) (w : Work) (d : CDouble) → bind_from r M w d [] ≡ d
unfolding binding_sum
bind_nil r M w d = refl

from_is : {ss : List ℕ} (M : Model) (r : ℕ) → M.starts ≡ ss → from M r ≡ get_or ss r 0
unfolding from
from_is M r e = ap (λ (l : List ℕ). get_or l r 0) e

module _ {rows : Rows} {s : Context} {f : Floats} {n : Numbers} (r : ℕ) (p : r < s.rows) (a : Alive n r) where
  pub bind_term : (d : CDouble) {k v : ℕ} {e z : CDouble} {x y : Float} → k < get_or n.binaries r 0 → v ≡ get_or n.binary (get_or rows.starts.now r 0 + k) 0
      → ReadsWritten rows.index.now rows.coeff.now (get_or rows.starts.now r 0) v x → e ≡ double.plus d (neg x) → Reads (Spans rows.starts.now) s f n y (λ M w. coeff_of (row_of w r) v)
      → z ≡ double.plus e y → Reads (Written rows) s f n z (λ M w. bind_step r M w (get_or n.binary (get_or rows.starts.now r 0 + k) 0) d)
  bind_term d {k} {v} {e} {z} {x} {y} l ev t ee u ez =
      record {
        reads = λ M o j w q c h i.
            let g = from_is M r q.starts in
            let hv = binary_written c h p a i k v l (ev ∙ ap (λ (m : ℕ). get_or n.binary (m + k) 0) (sym g)) in
            let tx = t.reads M r q.index q.coeff g hv in
            let uy = u.reads M o j w (written_spans M q) c h i in
            ap (λ (m : ℕ). bind_step r M w m d) (sym ev) ∙ ap (λ (m : Float). double.plus (double.plus d (neg m)) (coeff_of (row_of w r) v)) tx ∙ ap
            (λ (m : Float). double.plus (double.plus d (neg x)) m) uy ∙ ap (λ (m : CDouble). double.plus m y) (sym ee) ∙ sym ez;
      }

module _ {rows : Rows} {s : Context} {f : Floats} {n : Numbers} (r : ℕ) (b : Float) where
  pub bind_start : {d : CDouble} → d ≡ double.from b → Over (Written rows) s f n r 0 d (bind_from r) (bind_all r b)
  bind_start e = over_start (λ M w. ap (λ (x : CDouble). bind_from r M w x (binaries_of (row_of w r).binding)) e)

  module _ {k : ℕ} {d : CDouble} (p : r < s.rows) (a : Alive n r) (W : Over (Written rows) s f n r k d (bind_from r) (bind_all r b)) {l : ℕ} (el : l ≡ get_or n.binaries r 0) where
    pub bind_turn : {z : CDouble} → k < l → Reads (Written rows) s f n z (λ M w. bind_step r M w (get_or n.binary (get_or rows.starts.now r 0 + k) 0) d)
        → Over (Written rows) s f n r (k + 1) z (bind_from r) (bind_all r b)
    bind_turn kl t = over_turn p a W el (bind_step r) (bind_cons r) written_spans kl refl t

    pub bind_end : l ≤ k → Reads (Written rows) s f n d (bind_all r b)
    bind_end lk = over_end p a W el (bind_nil r) lk

-- ---- rewritten_bound
bound_plain : (M : Model) (w : Work) (r : ℕ) {b : Float} → (row_of w r).binding ≡ none → at M.rhs r ≡ b → rewritten_bound M (row_of w r) r ≡ b
unfolding rewritten_bound bound_with rhs_of
bound_plain M w r e g = ap (bound_with M (row_of w r) r) e ∙ g

bound_some : (M : Model) (w : Work) (r : ℕ) (b : Binding) (up : Bool) → (row_of w r).binding ≡ some b → eqb (get_or M.cmp r 0) 1 ≡ up
    → rewritten_bound M (row_of w r) r ≡ double.rounded (double.plus (binding_sum M (row_of w r) r (double.from (at M.rhs r)) b.binaries) (choose up b.kept (neg b.kept))) up
unfolding rewritten_bound bound_with rhs_of op_of
bound_some M w r b up e g = ap (bound_with M (row_of w r) r) e ∙ ap
    (λ (u : Bool). double.rounded (double.plus (binding_sum M (row_of w r) r (double.from (at M.rhs r)) b.binaries) (choose u b.kept (neg b.kept))) u)
    g

code_is : (x : ℕ) → x ≡ 1 → eqb x 1 ≡ true
unfolding is_one
code_is x e = ap is_one e ∙ one_is

code_not : (x : ℕ) → (x ≡ 1 → ⊥) → eqb x 1 ≡ false
unfolding is_one
code_not x e = one_not x e

-- the arms of the match
abbrev pub at_most : Comparison → Bool
at_most Equal = false
at_most AtMost = true
at_most AtLeast = false

pub not_most : (c : Comparison) → (c ≡ AtMost → ⊥) → at_most c ≡ false
not_most Equal h = refl
not_most AtMost h = absurd (h refl)
not_most AtLeast h = refl

at_most_byte : (op : ℕ) → at_most (comparison_of op) ≡ eqb op 1
unfolding comparison_of choose
at_most_byte op = go (eqb op 1) (eqb op 2)
  where
    go : (u v : Bool) → at_most (choose u AtMost (choose v AtLeast Equal)) ≡ u
    go true v = refl
    go false true = refl
    go false false = refl

module _ {rows : Rows} {s : Context} {f : Floats} {n : Numbers} (r : ℕ) (p : r < s.rows) (a : Alive n r)
    {l : ℕ} (el : l ≡ get_or n.binaries r 0) where
  pub bound_none : l ≡ 0 → Reads (Written rows) s f n (get_or rows.rhs.now r nan) (λ M w. rewritten_bound M (row_of w r) r)
  bound_none z = record { reads = λ M o j w q c h i. bound_plain M w r (unbound_is (row_shown c h p a).binding (sym el ∙ z)) (ap (λ (y : List Float). get_or y r nan) q.rhs) }

  -- by the side that the row's bound is on
  module _ (ne : l ≡ 0 → ⊥) {d : CDouble} {kept z : Float} (t : Reads (Written rows) s f n d (bind_all r (get_or rows.rhs.now r nan))) (ek : kept ≡ get_or f.kept r nan) where
    bound_by : (up : Bool) → eqb (get_or rows.cmp.now r 0) 1 ≡ up → z ≡ double.rounded (double.plus d (choose up kept (neg kept))) up
        → Reads (Written rows) s f n z (λ M w. rewritten_bound M (row_of w r) r)
    bound_by up eu ez =
        record {
          reads = λ M o j w q c h i.
              let y = bound_of (row_shown c h p a).binding (λ g. ne (el ∙ g)) in
              let b = y.binding in
              let bk : b.kept ≡ kept = sym y.shown.kept ∙ sym ek in
              let bb : binding_sum M (row_of w r) r (double.from (at M.rhs r)) b.binaries ≡ d =
              ap (λ (m : Option Binding). binding_sum M (row_of w r) r (double.from (at M.rhs r)) (binaries_of m)) (sym y.is) ∙ ap
              (λ (m : List Float). binding_sum M (row_of w r) r (double.from (get_or m r nan)) (binaries_of (row_of w r).binding)) q.rhs
              ∙ t.reads M o j w q c h i in
              bound_some M w r b up y.is (ap (λ (m : List ℕ). eqb (get_or m r 0) 1) q.cmp ∙ eu) ∙ cc (bb, bk) ∙ sym ez;
        }

    pub bound_up : {e : CDouble} {m : Comparison} → m ≡ comparison_of (get_or rows.cmp.now r 0) → at_most m ≡ true → e ≡ double.plus d kept → z ≡ double.rounded e true
        → Reads (Written rows) s f n z (λ M w. rewritten_bound M (row_of w r) r)
    bound_up em c ee ez = bound_by true (sym (at_most_byte _) ∙ ap at_most (sym em) ∙ c) (ez ∙ ap (λ (m : CDouble). double.rounded m true) (ee ∙ ap (double.plus d) (sym (yes kept (neg kept) refl))))

    pub bound_down : {e : CDouble} {m : Comparison} → m ≡ comparison_of (get_or rows.cmp.now r 0) → at_most m ≡ false → e ≡ double.plus d (neg kept) → z ≡ double.rounded e false
        → Reads (Written rows) s f n z (λ M w. rewritten_bound M (row_of w r) r)
    bound_down em c ee ez = bound_by false (sym (at_most_byte _) ∙ ap at_most (sym em) ∙ c)
        (ez ∙ ap (λ (m : CDouble). double.rounded m false) (ee ∙ ap (double.plus d) (sym (no kept (neg kept) refl))))
