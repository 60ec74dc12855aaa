-- One term leaves a row, in the slices: the last live term moves into its place, and a folded one goes to the back of the span.
use Rattle.std.specs.Prelude.{ℕ, suc, ◌+◌, ◌-◌, ◌≤◌, ◌<◌, ◌≡◌, refl, ◌≢◌, ◌⊎◌, List, [], ◌∷◌, ◌++◌, length, get_or, set, Float}
use Rattle.std.proofs.Common.{arith, ap, sym, ◌∙◌, inl, inr, length-set, length-take, length-append, get_or-set_same, get_or-set_other, get_or-take}
use Rattle.std.proofs.Math.Option.{Option}
use Rattle.std.proofs.Math.ListN.{get_or-append}
use Rattle.std.proofs.lemmas.List.{get_or_at}
use Rattle.std.specs.Float.{nan}
use Rattle.floats.specs.Num.{◌⊕◌, ◌⊖◌, abs}
use Rattle.tolerances.specs.Tol.{Term, term}
use Rattle.definition.specs.Model.{Model, from, upto, nnz, Row, Binding, with_terms}
use Rattle.definition.specs.Work.{Work, no_term}
use Rattle.definition.specs.Folds.{swap_remove}
use Rattle.space.specs.declared.Context.{Context}
use Rattle.space.specs.Store.{Floats, Numbers, put_lo, put_hi, put_fold_scale, put_shift, put_coeffs, put_len, put_folded, put_vars}
use Rattle.view.specs.Call.{Call}
use Rattle.view.specs.Shows.{Parts, parts_of, TermShown, BindingShown, unbound, is_bound, RowShown}
use Rattle.view.specs.Rows.{same?, OneRow}
use Rattle.folds.specs.Apart.{Apart, elsewhere, untouched, within, outside, nnz_is, other_shown}
use Rattle.folds.specs.Sized.{Sized}
use Rattle.folds.specs.Stands.{Stands}

-- ---- swapRemove's elements
pub swap_length : (ts : List Term) (i : ℕ) → length (swap_remove ts i) ≡ length ts - 1
unfolding swap_remove
swap_length ts i = simp (length-take, length-set) (omega arith)

pub swap_at : (ts : List Term) (i k : ℕ) → k < length ts - 1 → get_or (swap_remove ts i) k no_term ≡ get_or (set ts i (get_or ts (length ts - 1) no_term)) k no_term
unfolding swap_remove
swap_at ts i k h = get_or-take (length ts - 1) _ k no_term h

-- ---- what the stores leave
-- the last of the m live terms of the row's span, which starts at a, is at place i now
abbrev pub swap_f : ℕ → ℕ → ℕ → Floats → Floats
swap_f a i m f = put_coeffs (a + i) (get_or f.coeffs (a + (m - 1)) nan) f

abbrev pub swap_n : ℕ → ℕ → ℕ → ℕ → Numbers → Numbers
swap_n r a i m n = put_len r (m - 1) (put_vars (a + i) (get_or n.vars (a + (m - 1)) 0) n)

-- the folded term number k of the span that ends at e
abbrev pub push_f : ℕ → ℕ → Float → Floats → Floats
push_f e k x f = put_coeffs (e - (k + 1)) x f

abbrev pub push_n : ℕ → ℕ → ℕ → ℕ → Numbers → Numbers
push_n r e k v n = put_folded r (k + 1) (put_vars (e - (k + 1)) v n)

-- the four floats, shifted by y
abbrev pub shift_f : ℕ → Float → Floats → Floats
shift_f r y f =
    put_shift r (get_or f.shift r nan ⊕ y)
    (put_fold_scale r (get_or f.fold_scale r nan ⊕ abs y) (put_hi r (get_or f.hi r nan ⊖ y) (put_lo r (get_or f.lo r nan ⊖ y) f)))

-- ---- and of the row
abbrev pub with_folded : List Term → Row → Row
with_folded ts w = record { terms = w.terms; lo = w.lo; hi = w.hi; fold_scale = w.fold_scale; shift = w.shift; folded = ts; alive = w.alive; touched = w.touched; binding = w.binding }

abbrev pub shifted : Float → Row → Row
shifted y w = record {
  terms = w.terms;
  lo = w.lo ⊖ y;
  hi = w.hi ⊖ y;
  fold_scale = w.fold_scale ⊕ abs y;
  shift = w.shift ⊕ y;
  folded = w.folded;
  alive = w.alive;
  touched = w.touched;
  binding = w.binding;
}

-- an element of a block after a store, by its place
module _ {A : Type 0} (l : List A) (d : A) {j : ℕ} {z : A} (y : A) where
  stored : (i : ℕ) → j ≡ i → i < length l → y ≡ z → get_or (set l i y) j d ≡ z
  stored i e p g = rw e (get_or-set_same l i y d p ∙ g)

  left_alone : (i : ℕ) → j ≢ i → get_or l j d ≡ z → get_or (set l i y) j d ≡ z
  left_alone i ne g = get_or-set_other l i j y d ne ∙ g

-- a binding reads none of the blocks that folding stores to
pub binding_same : {M : Model} {p p' : Parts} {r : ℕ} {b : Option Binding} → p'.binaries ≡ p.binaries → p'.binary ≡ p.binary → p'.written ≡ p.written
    → p'.rewritten ≡ p.rewritten → p'.kept ≡ p.kept → BindingShown M p r b → BindingShown M p' r b
binding_same {r = r} e₁ e₂ e₃ e₄ e₅ (unbound g) = unbound (ap (λ (l : List ℕ). get_or l r 0) e₁ ∙ g)
binding_same {M} {r = r} e₁ e₂ e₃ e₄ e₅ (is_bound {b} h) =
    is_bound
    {b = b}
    (record {
      count = ap (λ (l : List ℕ). get_or l r 0) e₁ ∙ h.count;
      some = h.some;
      fits = h.fits;
      binary = λ k l. ap (λ (m : List ℕ). get_or m (from M r + k) 0) e₂ ∙ h.binary k l;
      written = ap (λ (l : List Float). get_or l r nan) e₃ ∙ h.written;
      rewritten = ap (λ (l : List Float). get_or l r nan) e₄ ∙ h.rewritten;
      kept = ap (λ (l : List Float). get_or l r nan) e₅ ∙ h.kept;
    })

module _ {M : Model} {s : Context} {r : ℕ} {f : Floats} {n : Numbers} {w : Work} {x : Row} (c : Call M s) (p : r < length M.rhs) (z : Sized s f n) (h : Stands M r f n w x) where
  r_in : r < s.rows
  r_in = omega (arith, p, c.rows)

  -- ---- swap
  module _ {a i m : ℕ} (ea : a ≡ from M r) (em : m ≡ length x.terms) (q : i < m) where
    place : a + i < upto M r
    place = omega (arith, q, em, ea, h.shown.fits, nnz_is M r)

    in_vars : a + i < length n.vars
    in_vars = omega (arith, place, c.last r p, c.terms, z.vars)

    in_coeffs : a + i < length f.coeffs
    in_coeffs = omega (arith, place, c.last r p, c.terms, z.coeffs)

    abbrev swapped : Parts
    swapped = parts_of (swap_f a i m f) (swap_n r a i m n)

    last_shown : TermShown (parts_of f n) (a + (m - 1)) (get_or x.terms (length x.terms - 1) no_term)
    last_shown =
        let e : a + (m - 1) ≡ from M r + (length x.terms - 1) = omega (arith, ea, em) in
        rw e (h.shown.terms (length x.terms - 1) (omega (arith, q, em)))

    swap_term : (k : ℕ) → k < length x.terms - 1 → (k ≡ i) ⊎ (k ≢ i) → TermShown swapped (from M r + k) (get_or (swap_remove x.terms i) k no_term)
    swap_term k l (inl e) =
        let t : get_or (swap_remove x.terms i) k no_term ≡ get_or x.terms (length x.terms - 1) no_term =
        swap_at x.terms i k l ∙ stored x.terms no_term _ i e (omega (arith, q, em)) refl in
        let j : from M r + k ≡ a + i = omega (arith, e, ea) in
        rw t (record { var = stored n.vars 0 _ (a + i) j in_vars last_shown.var; coeff = stored f.coeffs nan _ (a + i) j in_coeffs last_shown.coeff })
    swap_term k l (inr ne) =
        let t : get_or (swap_remove x.terms i) k no_term ≡ get_or x.terms k no_term = swap_at x.terms i k l ∙ get_or-set_other x.terms i k _ no_term ne in
        let g = h.shown.terms k (omega (arith, l)) in
        rw t (record { var = left_alone n.vars 0 _ (a + i) (λ u. ne (omega (arith, u, ea))) g.var; coeff = left_alone f.coeffs nan _ (a + i) (λ u. ne (omega (arith, u, ea))) g.coeff })

    swap_folded : (k : ℕ) → k < length x.folded → TermShown swapped (upto M r - suc k) (get_or x.folded k no_term)
    swap_folded k l =
        let g = h.shown.folded k l in
        let ne : upto M r - suc k ≢ a + i = λ u. omega (arith, u, l, q, em, ea, h.shown.fits, nnz_is M r) in
        record { var = left_alone n.vars 0 _ (a + i) ne g.var; coeff = left_alone f.coeffs nan _ (a + i) ne g.coeff }

    swap_shown : RowShown M swapped r (with_terms (swap_remove x.terms i) x)
    swap_shown =
        record {
          len = get_or-set_same n.len r (m - 1) 0 (omega (arith, r_in, z.len)) ∙ ap (λ (k : ℕ). k - 1) em ∙ sym (swap_length x.terms i);
          folds = h.shown.folds;
          fits = omega (arith, h.shown.fits, swap_length x.terms i);
          terms = λ k l. swap_term k (omega (arith, l, swap_length x.terms i)) (same? k i);
          folded = swap_folded;
          lo = h.shown.lo;
          hi = h.shown.hi;
          fold_scale = h.shown.fold_scale;
          shift = h.shown.shift;
          touched = h.shown.touched;
          binding = binding_same refl refl refl refl refl h.shown.binding;
        }

    swap_apart : Apart r (from M r) (upto M r) (parts_of f n) swapped
    swap_apart =
        record {
          lo = untouched f.lo nan;
          hi = untouched f.hi nan;
          fold_scale = untouched f.fold_scale nan;
          shift = untouched f.shift nan;
          written = untouched f.written nan;
          rewritten = untouched f.rewritten nan;
          kept = untouched f.kept nan;
          len = elsewhere n.len 0 r (m - 1);
          folded = untouched n.folded 0;
          touched = untouched n.touched 0;
          binaries = untouched n.binaries 0;
          coeffs = within f.coeffs nan (a + i) _ (omega (arith, ea)) place;
          vars = within n.vars 0 (a + i) _ (omega (arith, ea)) place;
          binary = outside n.binary 0;
        }

    pub swap_one : {f₁ : Floats} {n₁ : Numbers} → f₁ ≡ swap_f a i m f → n₁ ≡ swap_n r a i m n → OneRow M r (with_terms (swap_remove x.terms i) x) f n f₁ n₁
    swap_one ef en =
        rw (ef, en)
        (record {
          alive = h.flag ∙ sym h.alive;
          now = λ _. swap_shown;
          alive_other = λ k ne. refl;
          other = λ k y l ne g. other_shown c l p ne swap_apart g;
          wlo = refl;
          whi = refl;
          elo = refl;
          ehi = refl;
          dirty = refl;
          coeff_dirty = refl;
          queued = refl;
          queue = refl;
          tally = refl;
          wave = refl;
        })

  -- ---- push
  module _ {e k : ℕ} (v : ℕ) (y : Float) (ee : e ≡ upto M r) (ek : k ≡ length x.folded) (q : length x.terms + length x.folded < nnz M r) where
    abbrev pushed : Parts
    pushed = parts_of (push_f e k y f) (push_n r e k v n)

    spot_from : from M r ≤ e - (k + 1)
    spot_from = omega (arith, ee, ek, q, nnz_is M r)

    spot_upto : e - (k + 1) < upto M r
    spot_upto = omega (arith, ee, ek, q, nnz_is M r)

    push_term : (j : ℕ) → j < length x.terms → TermShown pushed (from M r + j) (get_or x.terms j no_term)
    push_term j l =
        let g = h.shown.terms j l in
        let ne : from M r + j ≢ e - (k + 1) = λ u. omega (arith, u, l, ee, ek, q, nnz_is M r) in
        record { var = left_alone n.vars 0 _ (e - (k + 1)) ne g.var; coeff = left_alone f.coeffs nan _ (e - (k + 1)) ne g.coeff }

    push_folded : (j : ℕ) → j < suc (length x.folded) → (j ≡ length x.folded) ⊎ (j ≢ length x.folded) → TermShown pushed (upto M r - suc j) (get_or (x.folded ++ (term v y ∷ [])) j no_term)
    push_folded j l (inl u) =
        let t : get_or (x.folded ++ (term v y ∷ [])) j no_term ≡ term v y = get_or_at x.folded (term v y) [] no_term j (sym u) in
        let i : upto M r - suc j ≡ e - (k + 1) = omega (arith, u, ee, ek) in
        rw t
        (record {
          var = stored n.vars 0 v (e - (k + 1)) i (omega (arith, spot_upto, c.last r p, c.terms, z.vars)) refl;
          coeff = stored f.coeffs nan y (e - (k + 1)) i (omega (arith, spot_upto, c.last r p, c.terms, z.coeffs)) refl;
        })
    push_folded j l (inr u) =
        let b : j < length x.folded = omega (arith, l, u) in
        let t : get_or (x.folded ++ (term v y ∷ [])) j no_term ≡ get_or x.folded j no_term = get_or-append x.folded (term v y ∷ []) no_term j b in
        let g = h.shown.folded j b in
        let ne : upto M r - suc j ≢ e - (k + 1) = λ a. omega (arith, a, b, ee, ek, q, nnz_is M r) in
        rw t (record { var = left_alone n.vars 0 _ (e - (k + 1)) ne g.var; coeff = left_alone f.coeffs nan _ (e - (k + 1)) ne g.coeff })

    push_shown : RowShown M pushed r (with_folded (x.folded ++ (term v y ∷ [])) x)
    push_shown =
        let lf = length-append x.folded (term v y ∷ []) in
        record {
          len = h.shown.len;
          folds = get_or-set_same n.folded r (k + 1) 0 (omega (arith, r_in, z.folded)) ∙ omega (arith, ek, lf);
          fits = omega (arith, q, lf);
          terms = push_term;
          folded = λ j l. push_folded j (omega (arith, l, lf)) (same? j (length x.folded));
          lo = h.shown.lo;
          hi = h.shown.hi;
          fold_scale = h.shown.fold_scale;
          shift = h.shown.shift;
          touched = h.shown.touched;
          binding = binding_same refl refl refl refl refl h.shown.binding;
        }

    push_apart : Apart r (from M r) (upto M r) (parts_of f n) pushed
    push_apart =
        record {
          lo = untouched f.lo nan;
          hi = untouched f.hi nan;
          fold_scale = untouched f.fold_scale nan;
          shift = untouched f.shift nan;
          written = untouched f.written nan;
          rewritten = untouched f.rewritten nan;
          kept = untouched f.kept nan;
          len = untouched n.len 0;
          folded = elsewhere n.folded 0 r (k + 1);
          touched = untouched n.touched 0;
          binaries = untouched n.binaries 0;
          coeffs = within f.coeffs nan (e - (k + 1)) y spot_from spot_upto;
          vars = within n.vars 0 (e - (k + 1)) v spot_from spot_upto;
          binary = outside n.binary 0;
        }

    pub push_one : {f₁ : Floats} {n₁ : Numbers} → f₁ ≡ push_f e k y f → n₁ ≡ push_n r e k v n → OneRow M r (with_folded (x.folded ++ (term v y ∷ [])) x) f n f₁ n₁
    push_one ef en =
        rw (ef, en)
        (record {
          alive = h.flag ∙ sym h.alive;
          now = λ _. push_shown;
          alive_other = λ j ne. refl;
          other = λ j b l ne g. other_shown c l p ne push_apart g;
          wlo = refl;
          whi = refl;
          elo = refl;
          ehi = refl;
          dirty = refl;
          coeff_dirty = refl;
          queued = refl;
          queue = refl;
          tally = refl;
          wave = refl;
        })

  -- ---- shift
  module _ (y : Float) where
    shift_shown : RowShown M (parts_of (shift_f r y f) n) r (shifted y x)
    shift_shown =
        record {
          len = h.shown.len;
          folds = h.shown.folds;
          fits = h.shown.fits;
          terms = λ j l. let g = h.shown.terms j l in record { var = g.var; coeff = g.coeff };
          folded = λ j l. let g = h.shown.folded j l in record { var = g.var; coeff = g.coeff };
          lo = get_or-set_same f.lo r _ nan (omega (arith, r_in, z.lo)) ∙ ap (λ (u : Float). u ⊖ y) h.shown.lo;
          hi = get_or-set_same f.hi r _ nan (omega (arith, r_in, z.hi)) ∙ ap (λ (u : Float). u ⊖ y) h.shown.hi;
          fold_scale = get_or-set_same f.fold_scale r _ nan (omega (arith, r_in, z.fold_scale)) ∙ ap (λ (u : Float). u ⊕ abs y) h.shown.fold_scale;
          shift = get_or-set_same f.shift r _ nan (omega (arith, r_in, z.shift)) ∙ ap (λ (u : Float). u ⊕ y) h.shown.shift;
          touched = h.shown.touched;
          binding = binding_same refl refl refl refl refl h.shown.binding;
        }

    shift_apart : Apart r (from M r) (upto M r) (parts_of f n) (parts_of (shift_f r y f) n)
    shift_apart =
        record {
          lo = elsewhere f.lo nan r _;
          hi = elsewhere f.hi nan r _;
          fold_scale = elsewhere f.fold_scale nan r _;
          shift = elsewhere f.shift nan r _;
          written = untouched f.written nan;
          rewritten = untouched f.rewritten nan;
          kept = untouched f.kept nan;
          len = untouched n.len 0;
          folded = untouched n.folded 0;
          touched = untouched n.touched 0;
          binaries = untouched n.binaries 0;
          coeffs = outside f.coeffs nan;
          vars = outside n.vars 0;
          binary = outside n.binary 0;
        }

    pub shift_one : {f₁ : Floats} → f₁ ≡ shift_f r y f → OneRow M r (shifted y x) f n f₁ n
    shift_one ef =
        rw ef
        (record {
          alive = h.flag ∙ sym h.alive;
          now = λ _. shift_shown;
          alive_other = λ j ne. refl;
          other = λ j b l ne g. other_shown c l p ne shift_apart g;
          wlo = refl;
          whi = refl;
          elo = refl;
          ehi = refl;
          dirty = refl;
          coeff_dirty = refl;
          queued = refl;
          queue = refl;
          tally = refl;
          wave = refl;
        })

-- ---- the stores of the code, one by one
module _ (r : ℕ) (f : Floats) where
  pub shift_put : (y : Float) {lo hi scale size shift : Float} {f₁ f₂ f₃ f₄ : Floats} → lo ≡ get_or f.lo r nan → f₁ ≡ put_lo r (lo ⊖ y) f → hi ≡ get_or f₁.hi r nan → f₂ ≡ put_hi r (hi ⊖ y) f₁
      → scale ≡ get_or f₂.fold_scale r nan → size ≡ abs y → f₃ ≡ put_fold_scale r (scale ⊕ size) f₂ → shift ≡ get_or f₃.shift r nan → f₄ ≡ put_shift r (shift ⊕ y) f₃ → f₄ ≡ shift_f r y f
  shift_put y a₁ e₁ a₂ e₂ a₃ b e₃ a₄ e₄ = rw (e₄, a₄, e₃, a₃, b, e₂, a₂, e₁, a₁)

  pub swap_floats : (a i : ℕ) (n : Numbers) {m : ℕ} {x : Float} {f₁ : Floats} → m ≡ get_or n.len r 0 → x ≡ get_or f.coeffs (a + (m - 1)) nan
      → f₁ ≡ put_coeffs (a + i) x f → f₁ ≡ swap_f a i (get_or n.len r 0) f
  swap_floats a i n em ex e = rw (e, ex, em)

module _ (r : ℕ) (n : Numbers) where
  pub swap_numbers : (a i : ℕ) {m v : ℕ} {n₁ n₂ : Numbers} → m ≡ get_or n.len r 0 → v ≡ get_or n.vars (a + (m - 1)) 0 → n₁ ≡ put_vars (a + i) v n
      → n₂ ≡ put_len r (m - 1) n₁ → n₂ ≡ swap_n r a i (get_or n.len r 0) n
  swap_numbers a i em ev e₁ e₂ = rw (e₂, e₁, ev, em)

  pub push_floats : (e : ℕ) (y : Float) (f : Floats) {k : ℕ} {f₁ : Floats} → k ≡ get_or n.folded r 0 → f₁ ≡ put_coeffs (e - (k + 1)) y f → f₁ ≡ push_f e (get_or n.folded r 0) y f
  push_floats e y f ek e₁ = rw (e₁, ek)

  pub push_numbers : (e v : ℕ) {k : ℕ} {n₁ n₂ : Numbers} → k ≡ get_or n.folded r 0 → n₁ ≡ put_vars (e - (k + 1)) v n → n₂ ≡ put_folded r (k + 1) n₁ → n₂ ≡ push_n r e (get_or n.folded r 0) v n
  push_numbers e v ek e₁ e₂ = rw (e₂, e₁, ek)
