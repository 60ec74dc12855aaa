-- A rewrite keeps a row's invariant: the variables stay, and no coefficient becomes zero.
use Prim.Native.Nat.{ℕ, zero, suc, ◌<◌}
use Rattle.std.proofs.Common.{arith, sym, ◌∙◌}
use Rattle.std.specs.Prelude.{◌≡◌, refl, Bool, true, false, ◌&&◌, ◌||◌, length, get_or, set, Float}
use Rattle.std.proofs.Math.Path.{ap}
use Rattle.std.proofs.Math.Logic.{⊎_elim}
use Rattle.std.proofs.Math.Bool.{not}
use mathlib.Core.List.{List, [], ◌∷◌, ◌++◌}
use Rattle.std.proofs.Math.Option.{Option, some}
use Rattle.std.proofs.Math.Dec.{eqb}
use Rattle.std.specs.Float.Ieee.{eq}
use Rattle.floats.specs.Num.{0f}
use Rattle.tolerances.specs.Tol.{Term, term}
use Rattle.definition.specs.Model.{Model, Row, Binding, with_range, with_binding, rhs_mag}
use Rattle.definition.specs.Work.{Work, no_term, has, has_term}
use Rattle.definition.specs.Rewrites.{Form, le_form, ge_form, no_form, Rewrite, keeps, coeff_only, coeff_bound}
use Rattle.definition.specs.Bindings.{taken, rewrite_binding}
use Rattle.definition.specs.Tighten.{set_coeff, rebound_row, row_after}
use Rattle.definition.specs.Choices.{or_true_right, and_left}
use Rattle.view.specs.Inv.{Distinct, distinct∷, AllIn, all_in∷, has_nonzero, BinariesIn, binaries_in[], binaries_in∷, BindingIn, none_in, some_in, RowInv}
use Rattle.view.specs.Lists.{either}
use Rattle.readers.specs.RowAt.{or_true}
use Rattle.folds.specs.Written.{eqb_same, eqb_differ}
use Rattle.folds.specs.Counting.{true_false}

-- ---- the term at place i has another coefficient
module _ (us : List Term) (t : Term) where
  set_has : (v : ℕ) (ts : List Term) (i : ℕ) → i < length ts → t.var ≡ (get_or ts i no_term).var → has_term v (set ts i t ++ us) ≡ has_term v (ts ++ us)
  unfolding has_term
  set_has v [] i p e = absurd (omega arith)
  set_has v (x ∷ ts) zero p e = ap (λ (m : ℕ). eqb m v || has_term v (ts ++ us)) e
  set_has v (x ∷ ts) (suc i) p e = ap (λ (b : Bool). eqb x.var v || b) (set_has v ts i (omega arith) e)

  set_distinct : (ts : List Term) (i : ℕ) → i < length ts → t.var ≡ (get_or ts i no_term).var → Distinct (ts ++ us) → Distinct (set ts i t ++ us)
  set_distinct [] i p e d = absurd (omega arith)
  set_distinct (x ∷ ts) zero p e (distinct∷ h d) = distinct∷ (ap (λ (m : ℕ). has_term m (ts ++ us)) e ∙ h) d
  set_distinct (x ∷ ts) (suc i) p e (distinct∷ h d) = distinct∷ (set_has x.var ts i (omega arith) e ∙ h) (set_distinct ts i (omega arith) e d)

  set_all : {all : List Term} (ts : List Term) (i : ℕ) → i < length ts → t.var ≡ (get_or ts i no_term).var → AllIn all (ts ++ us) → AllIn all (set ts i t ++ us)
  set_all [] i p e d = absurd (omega arith)
  set_all {all} (x ∷ ts) zero p e (all_in∷ h d) = all_in∷ (ap (λ (m : ℕ). has_term m all) e ∙ h) d
  set_all (x ∷ ts) (suc i) p e (all_in∷ h d) = all_in∷ h (set_all ts i (omega arith) e d)

  set_nonzero : eq t.coeff 0f ≡ false → (v : ℕ) (ts : List Term) (i : ℕ) → i < length ts → t.var ≡ (get_or ts i no_term).var → has_nonzero v (ts ++ us) ≡ true → has_nonzero v (set ts i t ++ us) ≡ true
  unfolding has_nonzero
  set_nonzero z v [] i p e h = absurd (omega arith)
  set_nonzero z v (x ∷ ts) zero p e h =
      ⊎_elim
      (λ y. rw (z, ap (λ (m : ℕ). eqb m v) e ∙ and_left (eqb x.var v) (not (eq x.coeff 0f)) y) refl)
      (λ y. or_true_right (eqb t.var v && not (eq t.coeff 0f)) _ y)
      (or_true (eqb x.var v && not (eq x.coeff 0f)) (has_nonzero v (ts ++ us)) h)
  set_nonzero z v (x ∷ ts) (suc i) p e h =
      ⊎_elim
      (λ y. rw y refl)
      (λ y. or_true_right (eqb x.var v && not (eq x.coeff 0f)) _ (set_nonzero z v ts i (omega arith) e y))
      (or_true (eqb x.var v && not (eq x.coeff 0f)) (has_nonzero v (ts ++ us)) h)

-- ---- the binaries of a row whose terms lose no variable that is not zero
pub binaries_by : {M : Model} {r : ℕ} {x y : Row} → ((v : ℕ) → has_nonzero v (x.terms ++ x.folded) ≡ true → has_nonzero v (y.terms ++ y.folded) ≡ true)
    → {vs : List ℕ} → BinariesIn M r x vs → BinariesIn M r y vs
binaries_by k binaries_in[] = binaries_in[]
binaries_by k (binaries_in∷ {v} h e b) = binaries_in∷ h (k v e) (binaries_by k b)

pub binding_by : {M : Model} {r : ℕ} {x y : Row} → ((v : ℕ) → has_nonzero v (x.terms ++ x.folded) ≡ true → has_nonzero v (y.terms ++ y.folded) ≡ true)
    → {b : Option Binding} → BindingIn M r x b → BindingIn M r y b
binding_by k none_in = none_in
binding_by k (some_in b) = some_in (binaries_by k b)

-- set_coeff: v is the variable at place i, a its new coefficient
pub set_inv : {M : Model} {r : ℕ} (row : Row) (i v : ℕ) (a : Float) → i < length row.terms → v ≡ (get_or row.terms i no_term).var → eq a 0f ≡ false → RowInv M r row → RowInv M r (set_coeff i v a row)
unfolding set_coeff
set_inv row i v a p e z n =
    record {
      distinct = set_distinct row.folded (term v a) row.terms i p e n.distinct;
      all_in = set_all row.folded (term v a) row.terms i p e n.all_in;
      binaries = binding_by (λ u h. set_nonzero row.folded (term v a) z u row.terms i p e h) n.binaries;
    }

-- a binary more: it is none of the others, and its coefficient is not zero
has_snoc : (v u : ℕ) (vs : List ℕ) → has v vs ≡ false → eqb u v ≡ false → has v (vs ++ (u ∷ [])) ≡ false
unfolding has
has_snoc v u [] h e = rw e refl
has_snoc v u (x ∷ vs) h e = both (eqb x v) (has v vs) (has v (vs ++ (u ∷ []))) h (λ y. has_snoc v u vs y e)
  where
    both : (a b c : Bool) → (a || b) ≡ false → (b ≡ false → c ≡ false) → (a || c) ≡ false
    both true b c h k = h
    both false b c h k = k h

has_first : (v x : ℕ) (vs : List ℕ) → has v (x ∷ vs) ≡ false → eqb x v ≡ false
unfolding has
has_first v x vs h = go (eqb x v) (has v vs) h
  where
    go : (a b : Bool) → (a || b) ≡ false → a ≡ false
    go true b h = h
    go false b h = refl

has_later : (v x : ℕ) (vs : List ℕ) → has v (x ∷ vs) ≡ false → has v vs ≡ false
unfolding has
has_later v x vs h = go (eqb x v) (has v vs) h
  where
    go : (a b : Bool) → (a || b) ≡ false → b ≡ false
    go true b h = true_false h
    go false b h = h

pub differ_sym : (u v : ℕ) → eqb v u ≡ false → eqb u v ≡ false
differ_sym u v e = eqb_differ u v (λ g. true_false (sym (eqb_same v u (sym g)) ∙ e))

pub binaries_snoc : {M : Model} {r : ℕ} {row : Row} {vs : List ℕ} (u : ℕ) → BinariesIn M r row vs → has u vs ≡ false → has_nonzero u (row.terms ++ row.folded)
    ≡ true → BinariesIn M r row (vs ++ (u ∷ []))
binaries_snoc u binaries_in[] h e = binaries_in∷ h e binaries_in[]
binaries_snoc u (binaries_in∷ {v} {vs} g d b) h e =
    binaries_in∷ (has_snoc v u vs g (differ_sym u v (has_first u v vs h))) d (binaries_snoc u b (has_later u v vs h) e)

-- ---- row_after: what a rewrite puts in is not zero
pub data Nonzero : Rewrite → Type 0 where
  nonzero_keeps : Nonzero keeps
  nonzero_coeff : {a : Float} → eq a 0f ≡ false → Nonzero (coeff_only a)
  nonzero_bound : {a b d : Float} → eq a 0f ≡ false → Nonzero (coeff_bound a b d)

set_new : (us : List Term) (v : ℕ) (a : Float) → eq a 0f ≡ false → (ts : List Term) (i : ℕ) → i < length ts → has_nonzero v (set ts i (term v a) ++ us) ≡ true
unfolding has_nonzero
set_new us v a z [] i p = absurd (omega arith)
set_new us v a z (x ∷ ts) zero p = rw (z, eqb_same v v refl) refl
set_new us v a z (x ∷ ts) (suc i) p = or_true_right (eqb x.var v && not (eq x.coeff 0f)) _ (set_new us v a z ts i (omega arith))

pub taken_in : {M : Model} {r : ℕ} {row : Row} (mag : Float) {o : Option Binding} → BindingIn M r row o → BinariesIn M r row (taken mag o).binaries
unfolding taken
taken_in mag none_in = binaries_in[]
taken_in mag (some_in b) = b

-- the binding that rewrite_binding makes, of a row that holds v's new coefficient
bound_in : {M : Model} {r : ℕ} (w : Work) (row : Row) (v : ℕ) (a b bp : Float) → has_nonzero v (row.terms ++ row.folded) ≡ true
    → BindingIn M r row row.binding → BinariesIn M r row (rewrite_binding M w row v a b bp).binaries
unfolding rewrite_binding
bound_in {M} {r} w row v a b bp h k =
    let old = taken_in (rhs_mag row b) k in
    either (BinariesIn M r row) (has v (taken (rhs_mag row b) row.binding).binaries) (λ e. old) (λ e. binaries_snoc v old e h)

module _ {M : Model} {r : ℕ} (w : Work) (row : Row) (i v : ℕ) (a na bp : Float) (p : i < length row.terms) (e : v ≡ (get_or row.terms i no_term).var)
    (z : eq na 0f ≡ false) (n : RowInv M r row) where
  pub rebind_inv : (b lo hi : Float) → RowInv M r (with_binding (some (rewrite_binding M w (set_coeff i v na row) v a b bp)) (with_range lo hi (set_coeff i v na row)))
  unfolding set_coeff
  rebind_inv b lo hi =
      let k = set_inv row i v na p e z n in
      let x = set_coeff i v na row in
      record {
        distinct = k.distinct;
        all_in = k.all_in;
        binaries = some_in (binaries_by {x = x} (λ u h. h) (bound_in w x v a b bp (set_new row.folded v na z row.terms i p) k.binaries));
      }

  rebound_inv : (f : Form) → RowInv M r (rebound_row M f w row i v a na bp)
  unfolding rebound_row
  rebound_inv le_form = rebind_inv row.hi row.lo _
  rebound_inv ge_form = rebind_inv row.lo _ row.hi
  rebound_inv no_form = n

pub after_inv : {M : Model} {r : ℕ} (f : Form) (w : Work) (row : Row) (i : ℕ) (x : Rewrite) → i < length row.terms → Nonzero x → RowInv M r row
    → RowInv M r (row_after M f w row i (get_or row.terms i no_term) x)
unfolding row_after
after_inv f w row i keeps p nonzero_keeps n = n
after_inv f w row i (coeff_only na) p (nonzero_coeff z) n = set_inv row i (get_or row.terms i no_term).var na p refl z n
after_inv f w row i (coeff_bound na bp d) p (nonzero_bound z) n = rebound_inv w row i (get_or row.terms i no_term).var (get_or row.terms i no_term).coeff na bp p refl z n f
