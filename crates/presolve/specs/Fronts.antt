-- The used fronts of the result slices, read back as a reduced model: they are the definition's.
use Rattle.std.specs.Prelude.{ℕ, zero, suc, ◌+◌, ◌<◌, ◌≡◌, refl, Bool, false, length, get_or, take, drop}
use Rattle.std.proofs.Common.{arith, ap, sym, ◌∙◌, drop_of_length-le, drop-cons}
use mathlib.Core.List.{List, [], ◌∷◌, map, Memᴰ}
use Rattle.std.proofs.Math.ListN.{get_or-append, get_or-map}
use Rattle.std.proofs.Math.Seq.{take-append_seam}
use Rattle.std.specs.Float.{nan}
use Rattle.tolerances.specs.Tol.{Term, term, at}
use Rattle.definition.specs.declared.Counts.{Counts}
use Rattle.definition.specs.Model.{Model, Emit, Reduced}
use Rattle.view.specs.Lists.{length_map}
use Rattle.row_terms.specs.RowMark.{mark, marked, marked_mark}
use Rattle.emit.specs.Filling.{over}
use Rattle.output.specs.Results.{Results, written}

-- ---- the n entries from place i on: the number, the mark, the right side and the span stand in five slices
unfoldable pub entry_at : Results → ℕ → Emit
entry_at b i = record { row = get_or b.emit_row i 0; rewritten = marked (get_or b.emit_rewritten i 0); rhs = at b.emit_rhs i; from = get_or b.emit_from i 0; upto = get_or b.emit_upto i 0 }

unfoldable pub entries_from : Results → ℕ → ℕ → List Emit
entries_from b zero i = []
entries_from b (suc n) i = entry_at b i ∷ entries_from b n (suc i)

pub entries_length : (b : Results) (n i : ℕ) → length (entries_from b n i) ≡ n
unfolding entries_from
entries_length b zero i = refl
entries_length b (suc n) i = ap suc (entries_length b n (suc i))

pub entry_member : (b : Results) (n i j d : ℕ) → j ≡ i + d → d < n → Memᴰ (entry_at b j) (entries_from b n i)
unfolding entries_from
entry_member b zero i j d e l = absurd (omega (arith, l))
entry_member b (suc n) i j zero e l = let q : j ≡ i = omega (arith, e) in Memᴰ.head (ap (entry_at b) q)
entry_member b (suc n) i j (suc d) e l = Memᴰ.tail (entry_member b n (suc i) j d (omega (arith, e)) (omega (arith, l)))

-- the terms of the rewritten rows stand in two
unfoldable pub terms_from : Results → ℕ → ℕ → List Term
terms_from b zero i = []
terms_from b (suc n) i = term (get_or b.term_index i 0) (at b.term_coeff i) ∷ terms_from b n (suc i)

-- THE REDUCED MODEL that a call with this answer has put into the result slices: the counts, how many rows are emitted, terms written and rows kept, and the flag
unfoldable pub reduced_in : Model → Results → Counts → ℕ → ℕ → ℕ → Bool → Reduced
reduced_in M b k emitted terms kept flag =
    record {
      counts = k;
      lower = take (length M.lower) b.lower;
      upper = take (length M.lower) b.upper;
      emitted = entries_from b emitted 0;
      terms = terms_from b terms 0;
      kept = take kept b.kept;
      flag = flag;
    }

-- ---- what is written is read
abbrev no_entry : Emit
no_entry = record { row = 0; rewritten = false; rhs = nan; from = 0; upto = 0 }

abbrev no_term : Term
no_term = term 0 nan

front_at : {A B : Type 0} (g : A → B) (l : List A) (old : List B) (i : ℕ) (d : A) → i < length l → get_or (over (map g l) old) i (g d) ≡ g (get_or l i d)
front_at g l old i d p = get_or-append (map g l) _ (g d) i (omega (arith, p, length_map g l)) ∙ get_or-map g l i d

entry_is : (a : Reduced) (b : Results) (i : ℕ) → i < length a.emitted → entry_at (written a b) i ≡ get_or a.emitted i no_entry
unfolding entry_at written mark
entry_is a b i p =
    rw (
      front_at (λ (e : Emit). e.row) a.emitted b.emit_row i no_entry p,
      front_at (λ (e : Emit). mark e.rewritten) a.emitted b.emit_rewritten i no_entry p,
      marked_mark (get_or a.emitted i no_entry).rewritten,
      front_at (λ (e : Emit). e.rhs) a.emitted b.emit_rhs i no_entry p,
      front_at (λ (e : Emit). e.from) a.emitted b.emit_from i no_entry p,
      front_at (λ (e : Emit). e.upto) a.emitted b.emit_upto i no_entry p,
    ) refl

entries_are : (a : Reduced) (b : Results) (n i : ℕ) → i + n ≡ length a.emitted → entries_from (written a b) n i ≡ drop i a.emitted
unfolding entries_from
entries_are a b zero i e = sym (drop_of_length-le a.emitted {i = i} (omega (arith, e)))
entries_are a b (suc n) i e =
    ap (λ (x : Emit). x ∷ entries_from (written a b) n (suc i)) (entry_is a b i (omega (arith, e)))
    ∙ ap (λ (l : List Emit). get_or a.emitted i no_entry ∷ l) (entries_are a b n (suc i) (omega (arith, e)))
    ∙ sym (drop-cons a.emitted i no_entry (omega (arith, e)))

term_is : (a : Reduced) (b : Results) (i : ℕ) → i < length a.terms → term (get_or (written a b).term_index i 0) (at (written a b).term_coeff i) ≡ get_or a.terms i no_term
unfolding written
term_is a b i p = rw (front_at (λ (t : Term). t.var) a.terms b.term_index i no_term p, front_at (λ (t : Term). t.coeff) a.terms b.term_coeff i no_term p) refl

terms_are : (a : Reduced) (b : Results) (n i : ℕ) → i + n ≡ length a.terms → terms_from (written a b) n i ≡ drop i a.terms
unfolding terms_from
terms_are a b zero i e = sym (drop_of_length-le a.terms {i = i} (omega (arith, e)))
terms_are a b (suc n) i e =
    ap (λ (x : Term). x ∷ terms_from (written a b) n (suc i)) (term_is a b i (omega (arith, e)))
    ∙ ap (λ (l : List Term). get_or a.terms i no_term ∷ l) (terms_are a b n (suc i) (omega (arith, e)))
    ∙ sym (drop-cons a.terms i no_term (omega (arith, e)))

take_front : {A : Type 0} (n : ℕ) (l old : List A) → length l ≡ n → take n (over l old) ≡ l
take_front n l old e = ap (λ (k : ℕ). take k (over l old)) (sym e) ∙ take-append_seam l _

module _ (a : Reduced) (b : Results) (n : ℕ) where
  lower_front : length a.lower ≡ n → take n (written a b).lower ≡ a.lower
  unfolding written
  lower_front e = take_front n a.lower b.lower e

  upper_front : length a.upper ≡ n → take n (written a b).upper ≡ a.upper
  unfolding written
  upper_front e = take_front n a.upper b.upper e

  kept_front : length a.kept ≡ n → take n (written a b).kept ≡ a.kept
  unfolding written
  kept_front e = take_front n a.kept b.kept e

-- WHAT STANDS IN THE RESULT SLICES is the definition's answer
pub reduced_in_lem : (M : Model) (a : Reduced) (b : Results) → length a.lower ≡ length M.lower → length a.upper ≡ length M.lower
    → reduced_in M (written a b) a.counts (length a.emitted) (length a.terms) (length a.kept) a.flag ≡ a
unfolding reduced_in
reduced_in_lem M a b l u =
    rw (
      lower_front a b (length M.lower) l,
      upper_front a b (length M.lower) u,
      entries_are a b (length a.emitted) 0 (omega arith),
      terms_are a b (length a.terms) 0 (omega arith),
      kept_front a b (length a.kept) refl,
    )
    refl
