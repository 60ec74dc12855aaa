-- `fold_fixed`'s loop: what a turn leaves, by its three ways, and what the turns leave together.
use Rattle.std.specs.Prelude.{ℕ, suc, ◌+◌, ◌≤◌, ◌<◌, ◌≡◌, Bool, true, false, ◌&&◌, ◌||◌, eqb, length, Float}
use Rattle.std.proofs.Common.{arith, add-one, sym, ◌∙◌, subst, length-append}
use Rattle.std.proofs.Math.Path.{refl, ap}
use mathlib.Core.List.{List, [], ◌∷◌, ◌++◌}
use Rattle.std.proofs.Math.ListN.{get_or, get_or-append}
use Rattle.std.specs.Float.{nan}
use Rattle.std.specs.Float.Ieee.{eq}
use Rattle.floats.specs.Num.{◌⊗◌, 0f, is_finite}
use Rattle.tolerances.specs.Tol.{Term, term, at, zip_terms}
use Rattle.definition.specs.Model.{Model, from, upto, nnz, written, Row, with_terms}
use Rattle.definition.specs.Work.{Work, no_term, fixed, has_term}
use Rattle.definition.specs.Folds.{swap_remove, fold_term, fold_step}
use Rattle.formulas.specs.Fixing.{fixed_at}
use Rattle.space.specs.declared.Context.{Context}
use Rattle.space.specs.Store.{Floats, Numbers}
use Rattle.view.specs.Call.{Call}
use Rattle.view.specs.Known.{Spans}
use Rattle.view.specs.Lists.{yes, no}
use Rattle.view.specs.Rows.{OneRow}
use Rattle.folds.specs.Apart.{nnz_is}
use Rattle.folds.specs.Sized.{Sized}
use Rattle.folds.specs.Written.{span_at, indices}
use Rattle.folds.specs.Counting.{true_false, eqb_true, all_at}
use Rattle.folds.specs.Stands.{Stands, Standing, Turns, TellsRow, one_then, one_none, stands_after}
use Rattle.folds.specs.Folding.{swap_f, swap_n, push_f, push_n, shift_f, with_folded, shifted, swap_length, swap_one, push_one, shift_one}

-- `fixed`, of the blocks
unfoldable pub fixed_in : Floats → ℕ → Bool
fixed_in f v = eq (get_or f.elo v nan) (get_or f.ehi v nan) && is_finite (get_or f.elo v nan)

pub fixed_yes : (f : Floats) (v : ℕ) {lo hi : Float} {z : Bool} → lo ≡ get_or f.elo v nan → hi ≡ get_or f.ehi v nan → eq lo hi ≡ true → z ≡ is_finite lo → z ≡ fixed_in f v
unfolding fixed_in
fixed_yes f v e₁ e₂ t ez = rw (← e₁, ← e₂, t, ez)

pub fixed_no : (f : Floats) (v : ℕ) {lo hi : Float} → lo ≡ get_or f.elo v nan → hi ≡ get_or f.ehi v nan → eq lo hi ≡ false → false ≡ fixed_in f v
unfolding fixed_in
fixed_no f v e₁ e₂ t = rw (← e₁, ← e₂, t)

pub fixed_both : (f : Floats) (v : ℕ) {lo hi : Float} {z : Bool} → lo ≡ get_or f.elo v nan → hi ≡ get_or f.ehi v nan → z ≡ fixed_at lo hi → z ≡ fixed_in f v
unfolding fixed_in fixed_at
fixed_both f v e₁ e₂ ez = rw (← e₁, ← e₂) ez

-- of a state whose emitted bounds stand there
pub fixed_is : (f : Floats) (w : Work) (v : ℕ) → f.elo ≡ w.elo → f.ehi ≡ w.ehi → fixed w v ≡ fixed_in f v
unfolding fixed fixed_in
fixed_is f w v e₁ e₂ = rw (← e₁, ← e₂)

-- ---- a variable of a row is a variable of the model
or_cases : {A : Type 0} (b o : Bool) → (b ≡ true → A) → (o ≡ true → A) → b || o ≡ true → A
or_cases true o h k e = h refl
or_cases false o h k e = k e

in_zip : (m v : ℕ) (vs : List ℕ) (cs : List Float) → ((k : ℕ) → k < length vs → get_or vs k 0 < m) → has_term v (zip_terms vs cs) ≡ true → v < m
unfolding has_term zip_terms
in_zip m v [] cs h e = true_false (sym e)
in_zip m v (u ∷ vs) [] h e = true_false (sym e)
in_zip m v (u ∷ vs) (a ∷ cs) h e =
    or_cases (eqb u v) (has_term v (zip_terms vs cs)) (λ y. let x = eqb_true u v y in let q = h 0 (omega arith) in omega (arith, x, q))
    (λ z. in_zip m v vs cs (λ k l. h (suc k) (omega (arith, l))) z) e

pub in_model : {M : Model} {s : Context} {r v : ℕ} → Call M s → r < length M.rhs → has_term v (written M r) ≡ true → v < length M.lower
unfolding written
in_model {M} {s} {r} {v} c p e =
    in_zip (length M.lower) v _ _ (λ k l. let q : k < nnz M r = omega (arith, l, indices c p) in
    rw (span_at M.index (from M r) (nnz M r) k 0 q) (c.index (from M r + k) (omega (arith, q, nnz_is M r, c.last r p)))) e

-- ---- fold_step, by its tests
module _ (w : Work) (i : ℕ) (x : Row) where
  abbrev looked : Term
  looked = get_or x.terms i no_term

  step_zero : eq looked.coeff 0f ≡ true → fold_step w (i, x) ≡ (i, with_terms (swap_remove x.terms i) x)
  unfolding fold_step
  step_zero e = yes _ _ e

  step_fold : eq looked.coeff 0f ≡ false → fixed w looked.var ≡ true → fold_step w (i, x) ≡ (i, fold_term w i looked x)
  unfolding fold_step
  step_fold e g = no _ _ e ∙ yes _ _ g

  step_stay : eq looked.coeff 0f ≡ false → fixed w looked.var ≡ false → fold_step w (i, x) ≡ (suc i, x)
  unfolding fold_step
  step_stay e g = no _ _ e ∙ no _ _ g

  fold_is : (t : Term) → fold_term w i t x ≡ shifted (t.coeff ⊗ at w.elo t.var) (with_folded (x.folded ++ (t ∷ [])) (with_terms (swap_remove x.terms i) x))
  unfolding fold_term
  fold_is t = refl

-- what fold_step promises
pub record FoldSteps (P : Model → Type 0) (s : Context) (r i : ℕ) (f : Floats) (n : Numbers) (f' : Floats) (n' : Numbers) (z : ℕ) : Type 0 where
  pub row : Turns P s r f n f' n' (λ M w x. (fold_step w (i, x)).1)
  pub place : TellsRow P s r f n z (λ M w x. (fold_step w (i, x)).0)

-- ---- the span of a row that stands there
module _ {s : Context} {starts : List ℕ} {r : ℕ} {f : Floats} {n : Numbers} (p : r < s.rows) (G : Standing (Spans starts) s r f n) where
  abbrev M₀ : Model
  M₀ = G.model

  pub in_rows : r < length M₀.rhs
  in_rows = omega (arith, p, G.call.rows)

  pub start_is : get_or starts r 0 ≡ from M₀ r
  unfolding from
  start_is = ap (λ (l : List ℕ). get_or l r 0) (sym G.known.starts)

  pub stop_is : get_or starts (r + 1) 0 ≡ upto M₀ r
  unfolding upto
  stop_is = ap (λ (l : List ℕ). get_or l (r + 1) 0) (sym G.known.starts)

  pub spans_long : s.rows + 1 ≤ length starts
  spans_long = omega (arith, ap length G.known.starts, G.call.starts, G.call.rows)

  pub live_in : get_or starts r 0 + get_or n.len r 0 ≤ s.terms
  live_in = omega (arith, start_is, G.stands.shown.len, G.stands.shown.fits, nnz_is M₀ r, G.call.rise r in_rows, G.call.last r in_rows, G.call.terms)

  pub stop_in : get_or starts (r + 1) 0 ≤ s.terms
  stop_in = omega (arith, stop_is, G.call.last r in_rows, G.call.terms)

  pub folds_in : get_or starts r 0 + get_or n.len r 0 + get_or n.folded r 0 ≤ get_or starts (r + 1) 0
  folds_in = omega (arith, start_is, stop_is, G.stands.shown.len, G.stands.shown.folds, G.stands.shown.fits, nnz_is M₀ r, G.call.rise r in_rows)

  -- a live term's variable
  pub var_in : (i : ℕ) {v : ℕ} → i < get_or n.len r 0 → v ≡ get_or n.vars (get_or starts r 0 + i) 0 → v < s.vars
  var_in i {v} q e =
      let b : i < length G.row.terms = omega (arith, q, G.stands.shown.len) in
      let t : get_or (G.row.terms ++ G.row.folded) i no_term ≡ get_or G.row.terms i no_term = get_or-append G.row.terms G.row.folded no_term i b in
      let a = all_at G.inv.all_in i (omega (arith, b, length-append G.row.terms G.row.folded)) in
      let g : v ≡ (get_or G.row.terms i no_term).var = e ∙ ap (λ (j : ℕ). get_or n.vars (j + i) 0) start_is ∙ (G.stands.shown.terms i b).var in
      omega (arith, in_model {v = v} G.call in_rows (rw (g, ← t) a), G.call.vars)

  -- one has been taken out
  pub push_in : (a i m : ℕ) {n₁ : Numbers} → 0 < get_or n.len r 0 → n₁ ≡ swap_n r a i m n → get_or n₁.folded r 0 < get_or starts (r + 1) 0
  push_in a i m {n₁} q e = let z : get_or n₁.folded r 0 ≡ get_or n.folded r 0 = ap (λ (k : Numbers). get_or k.folded r 0) e in omega (arith, q, z, folds_in)

-- ---- fold_step, by its ways
module _ {s : Context} {starts : List ℕ} (r i : ℕ) {a : ℕ} (f : Floats) (n : Numbers) {v : ℕ} {y : Float} (p : r < s.rows) (z : Sized s f n) (ea : a ≡ get_or starts r 0) (q : i < get_or n.len r 0)
    (ev : v ≡ get_or n.vars (a + i) 0) (ey : y ≡ get_or f.coeffs (a + i) nan) where
  module _ (M : Model) (w : Work) (x : Row) (k : Spans starts M) (c : Call M s) (h : Stands M r f n w x) where
    l : r < length M.rhs
    l = omega (arith, p, c.rows)

    a_is : a ≡ from M r
    unfolding from
    a_is = ea ∙ ap (λ (u : List ℕ). get_or u r 0) (sym k.starts)

    live : i < length x.terms
    live = omega (arith, q, h.shown.len)

    var_is : v ≡ (get_or x.terms i no_term).var
    var_is = ev ∙ ap (λ (j : ℕ). get_or n.vars (j + i) 0) a_is ∙ (h.shown.terms i live).var

    coeff_is : y ≡ (get_or x.terms i no_term).coeff
    coeff_is = ey ∙ ap (λ (j : ℕ). get_or f.coeffs (j + i) nan) a_is ∙ (h.shown.terms i live).coeff

    test_is : {b : Bool} → eq y 0f ≡ b → eq (get_or x.terms i no_term).coeff 0f ≡ b
    test_is e = rw (← coeff_is) e

    fixed_too : {b d : Bool} → b ≡ fixed_in f v → b ≡ d → fixed w (get_or x.terms i no_term).var ≡ d
    fixed_too e g = rw (← var_is) (fixed_is f w v h.elo h.ehi ∙ sym e ∙ g)

    -- the term as it was
    term_is : term v y ≡ get_or x.terms i no_term
    term_is = rw (var_is, coeff_is)

    module _ {f₁ : Floats} {n₁ : Numbers} (e₁ : f₁ ≡ swap_f a i (get_or n.len r 0) f) (g₁ : n₁ ≡ swap_n r a i (get_or n.len r 0) n) where
      swapped : OneRow M r (with_terms (swap_remove x.terms i) x) f n f₁ n₁
      swapped = swap_one c l z h a_is h.shown.len q e₁ g₁

      module _ {f₂ f₃ : Floats} {n₂ : Numbers} {e : ℕ} {t : Float} (z₁ : Sized s f₁ n₁) (z₂ : Sized s f₂ n₂) (ee : e ≡ get_or starts (r + 1) 0) (et : t ≡ get_or f.elo v nan)
          (e₂ : f₂ ≡ push_f e (get_or n₁.folded r 0) y f₁) (g₂ : n₂ ≡ push_n r e (get_or n₁.folded r 0) v n₁) (e₃ : f₃ ≡ shift_f r (y ⊗ t) f₂) where
        e_is : e ≡ upto M r
        unfolding upto
        e_is = ee ∙ ap (λ (u : List ℕ). get_or u (r + 1) 0) (sym k.starts)

        h₁ : Stands M r f₁ n₁ w (with_terms (swap_remove x.terms i) x)
        h₁ = stands_after h swapped h.alive

        pushed : OneRow M r (with_folded (x.folded ++ (term v y ∷ [])) (with_terms (swap_remove x.terms i) x)) f₁ n₁ f₂ n₂
        pushed = push_one c l z₁ h₁ v y e_is h₁.shown.folds (omega (arith, live, h.shown.fits, swap_length x.terms i)) e₂ g₂

        shift_now : OneRow M r (shifted (y ⊗ t) (with_folded (x.folded ++ (term v y ∷ [])) (with_terms (swap_remove x.terms i) x))) f₂ n₂ f₃ n₂
        shift_now = shift_one c l z₂ (stands_after h₁ pushed h.alive) (y ⊗ t) e₃

        value_is : t ≡ at w.elo v
        value_is = et ∙ ap (λ (u : List Float). get_or u v nan) h.elo

        all_folded : OneRow M r (fold_term w i (get_or x.terms i no_term) x) f n f₃ n₂
        all_folded =
            subst (λ (u : Row). OneRow M r u f n f₃ n₂)
            (ap (λ (u : Float). shifted (y ⊗ u) (with_folded (x.folded ++ (term v y ∷ [])) (with_terms (swap_remove x.terms i) x))) value_is
            ∙ sym (fold_is w i x (term v y)) ∙ ap (λ (u : Term). fold_term w i u x) term_is)
            (one_then swapped (one_then pushed shift_now))

  pub fold_zero : {f₁ : Floats} {n₁ : Numbers} → eq y 0f ≡ true → f₁ ≡ swap_f a i (get_or n.len r 0) f → n₁ ≡ swap_n r a i (get_or n.len r 0) n → FoldSteps (Spans starts) s r i f n f₁ n₁ i
  fold_zero {f₁} {n₁} e e₁ g₁ =
      record {
        row = record { does = λ M w x k c h. subst (λ (u : ℕ × Row). OneRow M r u.1 f n f₁ n₁) (sym (step_zero w i x (test_is M w x k c h e))) (swapped M w x k c h e₁ g₁) };
        place = record { tells = λ M w x k c h. ap (λ (u : ℕ × Row). u.0) (step_zero w i x (test_is M w x k c h e)) };
      }

  pub fold_fixed_term : {f₁ f₂ f₃ : Floats} {n₁ n₂ : Numbers} {e : ℕ} {t : Float} {b : Bool} → eq y 0f ≡ false → b ≡ fixed_in f v → b ≡ true
      → t ≡ get_or f.elo v nan → f₁ ≡ swap_f a i (get_or n.len r 0) f
      → n₁ ≡ swap_n r a i (get_or n.len r 0) n → Sized s f₁ n₁ → e ≡ get_or starts (r + 1) 0 → f₂ ≡ push_f e (get_or n₁.folded r 0) y f₁ → n₂ ≡ push_n r e (get_or n₁.folded r 0) v n₁ → Sized s f₂ n₂
      → f₃ ≡ shift_f r (y ⊗ t) f₂ → FoldSteps (Spans starts) s r i f n f₃ n₂ i
  fold_fixed_term {f₁} {f₂} {f₃} {n₁} {n₂} nz eb bt et e₁ g₁ z₁ ee e₂ g₂ z₂ e₃ =
      record {
        row = record {
          does = λ M w x k c h.
              subst (λ (u : ℕ × Row). OneRow M r u.1 f n f₃ n₂) (sym (step_fold w i x (test_is M w x k c h nz) (fixed_too M w x k c h eb bt)))
              (all_folded M w x k c h e₁ g₁ z₁ z₂ ee et e₂ g₂ e₃);
        };
        place = record { tells = λ M w x k c h. ap (λ (u : ℕ × Row). u.0) (step_fold w i x (test_is M w x k c h nz) (fixed_too M w x k c h eb bt)) };
      }

  pub fold_stay : {b : Bool} → eq y 0f ≡ false → b ≡ fixed_in f v → b ≡ false → FoldSteps (Spans starts) s r i f n f n (i + 1)
  fold_stay nz eb bf =
      record {
        row = record { does = λ M w x k c h. subst (λ (u : ℕ × Row). OneRow M r u.1 f n f n) (sym (step_stay w i x (test_is M w x k c h nz) (fixed_too M w x k c h eb bf))) (one_none h) };
        place = record { tells = λ M w x k c h. rw add-one (ap (λ (u : ℕ × Row). u.0) (step_stay w i x (test_is M w x k c h nz) (fixed_too M w x k c h eb bf))) };
      }
