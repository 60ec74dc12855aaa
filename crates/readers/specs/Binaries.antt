-- The rewritten binaries of an alive row: each is a term of the row or folded out of it, so its coefficient can be asked for, of the row at work and of the row as written.
use Rattle.std.specs.Prelude.{ℕ, zero, suc, ◌+◌, ◌<◌, ◌≡◌, true, not, ◌&&◌, eqb, length}
use Rattle.std.proofs.Common.{arith, sym, ◌∙◌, subst, ⊎_elim, eqb-true}
use Rattle.std.proofs.Math.Path.{ap}
use mathlib.Core.List.{List, [], ◌∷◌, ◌++◌}
use Rattle.std.proofs.Math.Option.{Option}
use Rattle.std.proofs.Math.ListN.{get_or}
use Rattle.std.specs.Float.Ieee.{eq}
use Rattle.floats.specs.Num.{0f}
use Rattle.tolerances.specs.Tol.{Term}
use Rattle.definition.specs.declared.Rows.{Rows}
use Rattle.definition.specs.Model.{Model, from, nnz, written, Row, Binding}
use Rattle.definition.specs.Work.{Work, has_term}
use Rattle.definition.specs.Choices.{and_left, or_true_right}
use Rattle.space.specs.declared.Context.{Context}
use Rattle.space.specs.Store.{Floats, Numbers}
use Rattle.view.specs.Call.{Call}
use Rattle.view.specs.Shows.{Shows, Parts, BindingShown, unbound, is_bound}
use Rattle.view.specs.Inv.{Inv, AllIn, all_in[], all_in∷, BinariesIn, binaries_in[], binaries_in∷, has_nonzero, BindingIn, some_in}
use Rattle.view.specs.Acts.{Ready}
use Rattle.view.specs.Known.{Written}
use Rattle.readers.specs.Reading.{row_of, Alive}
use Rattle.readers.specs.RowAt.{or_true, span_fits, row_shown, row_inv}
use Rattle.readers.specs.WrittenCoeffs.{ReadyWritten}

-- ---- a variable of a row at work is one of the row as written
has_all : (v : ℕ) {all ts : List Term} → AllIn all ts → has_term v ts ≡ true → has_term v all ≡ true
unfolding has_term
has_all v all_in[] e = absurd (let z : ◌≡◌ {A = ℕ} 0 1 = cc in omega arith)
has_all v (all_in∷ {t} {ts} h a) e =
    ⊎_elim (λ x. rw (eqb-true t.var v x) at h) (λ x. has_all v a x) (or_true (eqb t.var v) (has_term v ts) e)

pub nonzero_has : (v : ℕ) (ts : List Term) → has_nonzero v ts ≡ true → has_term v ts ≡ true
unfolding has_nonzero has_term
nonzero_has v [] e = e
nonzero_has v (t ∷ ts) e =
    ⊎_elim (λ x. rw (and_left (eqb t.var v) (not (eq t.coeff 0f)) x)) (λ x. or_true_right (eqb t.var v) _ (nonzero_has v ts x))
    (or_true (eqb t.var v && not (eq t.coeff 0f)) (has_nonzero v ts) e)

nth_binary : {M : Model} {r : ℕ} {row : Row} {vs : List ℕ} → BinariesIn M r row vs → (k : ℕ) → k < length vs → has_term (get_or vs k 0) (row.terms ++ row.folded) ≡ true
nth_binary binaries_in[] k l = absurd (omega arith)
nth_binary {row = row} (binaries_in∷ {v} d e b) zero l = nonzero_has v (row.terms ++ row.folded) e
nth_binary (binaries_in∷ d e b) (suc k) l = nth_binary b k (omega arith)

bound_binary : {M : Model} {p : Parts} {r : ℕ} {row : Row} {b : Option Binding} → BindingShown M p r b → BindingIn M r row b → (k : ℕ) → k < get_or p.binaries r 0
    → (k < nnz M r) × (has_term (get_or p.binary (from M r + k) 0) (row.terms ++ row.folded) ≡ true)
bound_binary (unbound e) i k l = absurd (omega (arith, e, l))
bound_binary {row = row} (is_bound {b} s) (some_in i) k l =
    let q : k < length b.binaries = omega (arith, l, s.count) in
    (omega (arith, q, s.fits), subst (λ (v : ℕ). has_term v (row.terms ++ row.folded) ≡ true) (sym (s.binary k q)) (nth_binary i k q))

-- v is the k-th binary of row r, which stands at place i
module _ {M : Model} {s : Context} {f : Floats} {n : Numbers} {o : List ℕ} {w : Work} {r j : ℕ} (c : Call M s) (h : Shows M f n o w) (p : r < s.rows)
    (a : Alive n r) (u : Inv M j w) (k v : ℕ) (l : k < get_or n.binaries r 0) (e : v ≡ get_or n.binary (from M r + k) 0) where
  both : (k < nnz M r) × (has_term (get_or n.binary (from M r + k) 0) ((row_of w r).terms ++ (row_of w r).folded) ≡ true)
  both = bound_binary (row_shown c h p a).binding (row_inv c h p a u).binaries k l

  pub binary_place : from M r + k < s.terms
  binary_place = omega (arith, both.0, span_fits c p, c.terms)

  pub binary_has : has_term v ((row_of w r).terms ++ (row_of w r).folded) ≡ true
  binary_has = subst (λ (x : ℕ). has_term x ((row_of w r).terms ++ (row_of w r).folded) ≡ true) (sym e) both.1

  pub binary_written : has_term v (written M r) ≡ true
  binary_written = has_all v (row_inv c h p a u).all_in binary_has

-- ---- the state that `Ready` has
module _ {s : Context} {f : Floats} {n : Numbers} {rows : Rows} {r k : ℕ}
    (R : Ready (Written rows) s f n) (p : r < s.rows) (a : Alive n r) (l : k < get_or n.binaries r 0) where
  from_is : from R.model r ≡ get_or rows.starts.now r 0
  unfolding from
  from_is = ap (λ (x : List ℕ). get_or x r 0) R.known.starts

  here : {v : ℕ} → v ≡ get_or n.binary (get_or rows.starts.now r 0 + k) 0 → v ≡ get_or n.binary (from R.model r + k) 0
  here e = e ∙ ap (λ (x : ℕ). get_or n.binary (x + k) 0) (sym from_is)

  pub ready_written : {v : ℕ} → v ≡ get_or n.binary (get_or rows.starts.now r 0 + k) 0 → ReadyWritten rows.index.now rows.coeff.now (get_or rows.starts.now r 0) v
  ready_written {v} e =
      record {
        model = R.model;
        row = r;
        index = R.known.index;
        coeff = R.known.coeff;
        coeffs = ap length (sym R.known.coeff) ∙ R.call.coeffs ∙ ap length R.known.index;
        from = from_is;
        has = binary_written R.call R.shows p a R.inv k v l (here e);
      }
