-- Folding keeps a row's invariant: terms leave or move to the folded ones, and none comes in.
use Rattle.std.specs.Prelude.{ℕ, zero, suc, ◌+◌, ◌≤◌, ◌<◌, ◌≡◌, refl, Bool, true, false, not, ◌&&◌, List, [], ◌∷◌, ◌++◌, eqb, length}
use Rattle.std.proofs.Common.{arith, sym, ◌∙◌}
use Rattle.std.proofs.Math.Option.{Option}
use Rattle.std.proofs.Math.ListN.{get_or, length-append}
use Rattle.std.specs.Float.Ieee.{eq}
use Rattle.floats.specs.Num.{0f}
use Rattle.tolerances.specs.Tol.{Term}
use Rattle.definition.specs.Model.{Model, Row, Binding, with_terms}
use Rattle.definition.specs.Work.{Work, no_term, fixed}
use Rattle.definition.specs.Folds.{swap_remove, fold_term, fold_step, fold_loop}
use Rattle.view.specs.Inv.{BinariesIn, binaries_in[], binaries_in∷, BindingIn, none_in, some_in, RowInv}
use Rattle.view.specs.Lists.{either}
use Rattle.folds.specs.Counting.{true_false, bit, count_by, count_append, count_swap, or_count, count_or, is_var, is_nonzero, nonzero_or, distinct_count, count_distinct, all_in_count, count_all_in}
use Rattle.folds.specs.Folding.{swap_length}

abbrev pub terms_of : Row → List Term
terms_of x = x.terms ++ x.folded

-- y is x with terms folded or left out
pub record FoldsTo (x y : Row) : Type 0 where
  pub alive : y.alive ≡ x.alive
  pub binding : y.binding ≡ x.binding
  pub fewer : (v : ℕ) → count_by (is_var v) (terms_of y) ≤ count_by (is_var v) (terms_of x)
  pub nonzero : (v : ℕ) → count_by (is_nonzero v) (terms_of x) ≤ count_by (is_nonzero v) (terms_of y)
  pub room : length y.terms + length y.folded ≤ length x.terms + length x.folded
  pub more : length x.folded ≤ length y.folded

pub folds_same : {x : Row} → FoldsTo x x
folds_same = record { alive = refl; binding = refl; fewer = λ v. omega arith; nonzero = λ v. omega arith; room = omega arith; more = omega arith }

pub folds_then : {x y z : Row} → FoldsTo x y → FoldsTo y z → FoldsTo x z
folds_then a b =
    record {
      alive = b.alive ∙ a.alive;
      binding = b.binding ∙ a.binding;
      fewer = λ v. omega (arith, a.fewer v, b.fewer v);
      nonzero = λ v. omega (arith, a.nonzero v, b.nonzero v);
      room = omega (arith, a.room, b.room);
      more = omega (arith, a.more, b.more);
    }

-- ---- the invariant is kept
pub binaries_too : {M : Model} {r : ℕ} {x y : Row} {vs : List ℕ} → ((v : ℕ) → count_by (is_nonzero v) (terms_of x) ≤ count_by (is_nonzero v) (terms_of y)) → BinariesIn M r x vs → BinariesIn M r y vs
binaries_too h binaries_in[] = binaries_in[]
binaries_too {x = x} {y} h (binaries_in∷ {v} e n b) =
    let z = or_count (is_nonzero v) (terms_of x) (sym (nonzero_or v (terms_of x)) ∙ n) in
    binaries_in∷ e (nonzero_or v (terms_of y) ∙ count_or (is_nonzero v) (terms_of y) (omega (arith, z, h v))) (binaries_too h b)

binding_too : {M : Model} {r : ℕ} {x y : Row} {b : Option Binding} → ((v : ℕ) → count_by (is_nonzero v) (terms_of x) ≤ count_by (is_nonzero v) (terms_of y)) → BindingIn M r x b → BindingIn M r y b
binding_too h none_in = none_in
binding_too h (some_in {b} i) = some_in {b = b} (binaries_too h i)

pub folds_inv : {M : Model} {r : ℕ} {x y : Row} → FoldsTo x y → RowInv M r x → RowInv M r y
folds_inv {M} {r} {x} {y} d i =
    record {
      distinct = count_distinct (terms_of y) (λ v. omega (arith, d.fewer v, distinct_count i.distinct v));
      all_in = count_all_in (terms_of y) (λ v p. all_in_count i.all_in v (omega (arith, p, d.fewer v)));
      binaries = rw d.binding (binding_too d.nonzero i.binaries);
    }

-- ---- a term leaves, and a term is folded
zero_bit : (b c : Bool) → c ≡ true → bit (b && not c) ≡ 0
unfolding bit
zero_bit true true e = refl
zero_bit true false e = true_false (sym e)
zero_bit false c e = refl

fold_terms : (w : Work) (i : ℕ) (x : Row) (t : Term) (n : ℕ) → i + suc n ≡ length x.terms → i + n ≡ length (fold_term w i t x).terms
unfolding fold_term
fold_terms w i x t n e = omega (arith, e, swap_length x.terms i)

module _ (w : Work) (i : ℕ) (x : Row) (h : i < length x.terms) where
  module _ (g : Term → Bool) where
    left_out : count_by g (swap_remove x.terms i ++ x.folded) + bit (g (get_or x.terms i no_term)) ≡ count_by g (terms_of x)
    left_out =
        let a = count_append g (swap_remove x.terms i) x.folded in
        let b = count_append g x.terms x.folded in
        let c = count_swap g x.terms i h in
        omega (arith, a, b, c)

    folded_out : count_by g (swap_remove x.terms i ++ (x.folded ++ (get_or x.terms i no_term ∷ []))) ≡ count_by g (terms_of x)
    unfolding count_by
    folded_out =
        let t = get_or x.terms i no_term in
        let a = count_append g (swap_remove x.terms i) (x.folded ++ (t ∷ [])) in
        let b = count_append g x.terms x.folded in
        let c = count_swap g x.terms i h in
        let d = count_append g x.folded (t ∷ []) in
        omega (arith, a, b, c, d)

  zero_out : eq (get_or x.terms i no_term).coeff 0f ≡ true → FoldsTo x (with_terms (swap_remove x.terms i) x)
  zero_out e =
      record {
        alive = refl;
        binding = refl;
        fewer = λ v. omega (arith, left_out (is_var v));
        nonzero = λ v. omega (arith, left_out (is_nonzero v), zero_bit (eqb (get_or x.terms i no_term).var v) _ e);
        room = omega (arith, swap_length x.terms i);
        more = omega arith;
      }

  fold_out : FoldsTo x (fold_term w i (get_or x.terms i no_term) x)
  unfolding fold_term
  fold_out =
      record {
        alive = refl;
        binding = refl;
        fewer = λ v. omega (arith, folded_out (is_var v));
        nonzero = λ v. omega (arith, folded_out (is_nonzero v));
        room = omega (arith, h, swap_length x.terms i, length-append x.folded (get_or x.terms i no_term ∷ []));
        more = omega (arith, length-append x.folded (get_or x.terms i no_term ∷ []));
      }

-- the place looked at and the row, with n terms still to look at
pub record Looked (n : ℕ) (x : Row) (s : ℕ × Row) : Type 0 where
  pub folds : FoldsTo x s.1
  pub left : s.0 + n ≡ length s.1.terms

pub step_looked : (w : Work) (n i : ℕ) (x : Row) → i + suc n ≡ length x.terms → Looked n x (fold_step w (i, x))
unfolding fold_step
step_looked w n i x e =
    either (Looked n x) (eq (get_or x.terms i no_term).coeff 0f)
    (λ z. record { folds = zero_out w i x (omega (arith, e)) z; left = omega (arith, e, swap_length x.terms i) })
    (λ _. either (Looked n x) (fixed w (get_or x.terms i no_term).var)
    (λ _. record { folds = fold_out w i x (omega (arith, e)); left = fold_left })
    (λ _. record { folds = folds_same; left = omega (arith, e) }))
  where
    fold_left : i + n ≡ length (fold_term w i (get_or x.terms i no_term) x).terms
    fold_left = fold_terms w i x (get_or x.terms i no_term) n e

loop_looked : (m : ℕ) (w : Work) (n : ℕ) (s : ℕ × Row) → s.0 + (m + n) ≡ length s.1.terms → Looked n s.1 (fold_loop m w s)
unfolding fold_loop
loop_looked zero w n s e = record { folds = folds_same; left = omega (arith, e) }
loop_looked (suc m) w n s e =
    let a = step_looked w (m + n) s.0 s.1 (omega (arith, e)) in
    let b = loop_looked m w n (fold_step w s) a.left in
    record { folds = folds_then a.folds b.folds; left = b.left }

-- a whole loop
pub loop_folds : (w : Work) (x : Row) → FoldsTo x (fold_loop (length x.terms) w (0, x)).1
loop_folds w x = (loop_looked (length x.terms) w 0 (0, x) (omega arith)).folds

-- m turns of it
pub turns_looked : (m n : ℕ) (w : Work) (x : Row) → m + n ≡ length x.terms → Looked n x (fold_loop m w (0, x))
turns_looked m n w x e = loop_looked m w n (0, x) (omega (arith, e))

-- one turn more
pub loop_snoc : (m : ℕ) (w : Work) (s : ℕ × Row) → fold_loop (suc m) w s ≡ fold_step w (fold_loop m w s)
unfolding fold_loop
loop_snoc zero w s = refl
loop_snoc (suc m) w s = loop_snoc m w (fold_step w s)
