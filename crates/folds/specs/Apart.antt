-- A row's stores: blocks that change at row r alone, and inside its span alone, show the other rows as before, since spans do not overlap.
use Rattle.std.specs.Prelude.{ℕ, zero, suc, ◌+◌, ◌-◌, ◌≤◌, ◌<◌, ◌≡◌, refl, ◌≢◌, ◌⊎◌, List, length, get_or, set}
use Rattle.std.proofs.Common.{arith, add-one, ap, ◌∙◌, inl, inr, get_or-set_other}
use Rattle.std.proofs.Math.Option.{Option}
use Rattle.tolerances.specs.Tol.{Term, at}
use Rattle.definition.specs.Model.{Model, from, upto, nnz, Row, Binding}
use Rattle.space.specs.declared.Context.{Context}
use Rattle.view.specs.Call.{Call}
use Rattle.view.specs.Shows.{is_one, Parts, TermShown, BindingShown, unbound, is_bound, RowShown}
use Rattle.view.specs.Rows.{same?}

-- p' is p but for row r, whose span is a .. e
pub record Apart (r a e : ℕ) (p p' : Parts) : Type 0 where
  pub lo : (q : ℕ) → q ≢ r → at p'.lo q ≡ at p.lo q
  pub hi : (q : ℕ) → q ≢ r → at p'.hi q ≡ at p.hi q
  pub fold_scale : (q : ℕ) → q ≢ r → at p'.fold_scale q ≡ at p.fold_scale q
  pub shift : (q : ℕ) → q ≢ r → at p'.shift q ≡ at p.shift q
  pub written : (q : ℕ) → q ≢ r → at p'.written q ≡ at p.written q
  pub rewritten : (q : ℕ) → q ≢ r → at p'.rewritten q ≡ at p.rewritten q
  pub kept : (q : ℕ) → q ≢ r → at p'.kept q ≡ at p.kept q
  pub len : (q : ℕ) → q ≢ r → get_or p'.len q 0 ≡ get_or p.len q 0
  pub folded : (q : ℕ) → q ≢ r → get_or p'.folded q 0 ≡ get_or p.folded q 0
  pub touched : (q : ℕ) → q ≢ r → get_or p'.touched q 0 ≡ get_or p.touched q 0
  pub binaries : (q : ℕ) → q ≢ r → get_or p'.binaries q 0 ≡ get_or p.binaries q 0
  pub coeffs : (i : ℕ) → (i < a) ⊎ (e ≤ i) → at p'.coeffs i ≡ at p.coeffs i
  pub vars : (i : ℕ) → (i < a) ⊎ (e ≤ i) → get_or p'.vars i 0 ≡ get_or p.vars i 0
  pub binary : (i : ℕ) → (i < a) ⊎ (e ≤ i) → get_or p'.binary i 0 ≡ get_or p.binary i 0

-- a block after a store to it
module _ {A : Type 0} (l : List A) (d : A) where
  pub elsewhere : (r : ℕ) (x : A) (q : ℕ) → q ≢ r → get_or (set l r x) q d ≡ get_or l q d
  elsewhere r x q ne = get_or-set_other l r q x d ne

  pub untouched : {r : ℕ} (q : ℕ) → q ≢ r → get_or l q d ≡ get_or l q d
  untouched q ne = refl

  pub within : {a e : ℕ} (i : ℕ) (x : A) → a ≤ i → i < e → (j : ℕ) → (j < a) ⊎ (e ≤ j) → get_or (set l i x) j d ≡ get_or l j d
  within i x p q j (inl h) = get_or-set_other l i j x d (λ z. omega arith)
  within i x p q j (inr h) = get_or-set_other l i j x d (λ z. omega arith)

  pub outside : {a e : ℕ} (j : ℕ) → (j < a) ⊎ (e ≤ j) → get_or l j d ≡ get_or l j d
  outside j h = refl

-- ---- spans
pub below? : (a b : ℕ) → (a ≤ b) ⊎ (b < a)
below? zero b = inl (omega arith)
below? (suc a) zero = inr (omega arith)
below? (suc a) (suc b) = again (below? a b)
  where
    again : (a ≤ b) ⊎ (b < a) → (suc a ≤ suc b) ⊎ (suc b < suc a)
    again (inl x) = inl (omega arith)
    again (inr x) = inr (omega arith)

pub nnz_is : (M : Model) (r : ℕ) → nnz M r ≡ upto M r - from M r
unfolding nnz
nnz_is M r = refl

next_from : (M : Model) (r : ℕ) → from M (suc r) ≡ upto M r
unfolding from upto
next_from M r = rw add-one

module _ {M : Model} {s : Context} (c : Call M s) where
  spans : (q r : ℕ) → q < r → r < length M.rhs → upto M q ≤ from M r
  spans q zero h l = absurd (omega arith)
  spans q (suc r) h l = go (same? q r) (λ y. spans q r y (omega arith))
    where
      go : (q ≡ r) ⊎ (q ≢ r) → (q < r → upto M q ≤ from M r) → upto M q ≤ from M (suc r)
      go (inl e) g = let z = next_from M r in let y : upto M q ≡ upto M r = ap (upto M) e in omega arith
      go (inr n) g = let z = next_from M r in let y = g (omega arith) in let x = c.rise r (omega arith) in omega arith

  -- a place of q's span is outside r's
  module _ {q r : ℕ} (lq : q < length M.rhs) (lr : r < length M.rhs) (ne : q ≢ r) where
    out_of : (i : ℕ) → from M q ≤ i → i < upto M q → (i < from M r) ⊎ (upto M r ≤ i)
    out_of i p h = go (below? q r)
      where
        go : (q ≤ r) ⊎ (r < q) → (i < from M r) ⊎ (upto M r ≤ i)
        go (inl x) = inl (let z = spans q r (omega arith) lr in omega arith)
        go (inr x) = inr (let z = spans r q x lq in omega arith)

    module _ {p p' : Parts} (d : Apart r (from M r) (upto M r) p p') where
      term_too : {t : Term} (i : ℕ) → from M q ≤ i → i < upto M q → TermShown p i t → TermShown p' i t
      term_too i x y h = let o = out_of i x y in record { var = d.vars i o ∙ h.var; coeff = d.coeffs i o ∙ h.coeff }

      bound_too : {b : Option Binding} → BindingShown M p q b → BindingShown M p' q b
      bound_too (unbound e) = unbound (d.binaries q ne ∙ e)
      bound_too (is_bound {b} h) =
          is_bound
          {b = b}
          (record {
            count = d.binaries q ne ∙ h.count;
            some = h.some;
            fits = h.fits;
            binary = λ k l. d.binary (from M q + k) (out_of (from M q + k) (omega arith) (omega (arith, l, h.fits, nnz_is M q))) ∙ h.binary k l;
            written = d.written q ne ∙ h.written;
            rewritten = d.rewritten q ne ∙ h.rewritten;
            kept = d.kept q ne ∙ h.kept;
          })

      pub other_shown : {y : Row} → RowShown M p q y → RowShown M p' q y
      other_shown h =
          record {
            len = d.len q ne ∙ h.len;
            folds = d.folded q ne ∙ h.folds;
            fits = h.fits;
            terms = λ k l. term_too (from M q + k) (omega arith) (omega (arith, h.fits, nnz_is M q)) (h.terms k l);
            folded = λ k l. term_too (upto M q - suc k) (omega (arith, h.fits, nnz_is M q)) (omega (arith, h.fits, nnz_is M q)) (h.folded k l);
            lo = d.lo q ne ∙ h.lo;
            hi = d.hi q ne ∙ h.hi;
            fold_scale = d.fold_scale q ne ∙ h.fold_scale;
            shift = d.shift q ne ∙ h.shift;
            touched = ap is_one (d.touched q ne) ∙ h.touched;
            binding = bound_too h.binding;
          }
