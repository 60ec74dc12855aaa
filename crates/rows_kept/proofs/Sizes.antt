-- A row never has more terms, live and folded, than as written; so the rewritten terms fit where the model's do, and their spans follow one another.
use Rattle.std.specs.Prelude.{ℕ, zero, suc, ◌+◌, ◌-◌, ◌≤◌, ◌≡◌, true, false, List, [], ◌∷◌, ◌++◌, length, take, Float}
use Rattle.std.proofs.Common.{arith, add-one, sym, ◌∙◌, subst, length-append, length-set}
use Rattle.std.proofs.Math.Path.{refl, ap}
use Rattle.std.proofs.Math.ListN.{get_or}
use Rattle.tolerances.specs.Tol.{Term, term, zip_terms}
use Rattle.definition.specs.Model.{Model, from, upto, nnz, written, Row, as_written, Emit}
use Rattle.definition.specs.Work.{Work, no_term}
use Rattle.definition.specs.Folds.{fold_term}
use Rattle.definition.specs.Tighten.{set_coeff}
use Rattle.definition.specs.Emit.{insert_term, sort_terms, Out, final}
use Rattle.rows_kept.specs.Statements.{Consecutive, no_span, skips, spans}
use Rattle.definition.specs.Choices.{both}
use Rattle.rows_kept.specs.Kept.{folded}
use Rattle.rows_kept.specs.RowSteps.{RowKept}
use Rattle.rows_kept.proofs.RowSteps.{length_swap, changed_kept}
use Rattle.rows_kept.specs.Outs.{last_fold, Goes, skipped, before, emptied, given, rewrites}
use Rattle.rows_kept.specs.Whole.{Emitted}
use Rattle.rows_kept.specs.AllRows.{EachRow, AllRows}
use Rattle.rows_kept.proofs.AllRows.{rows_held}
use Rattle.rows_kept.specs.Sizes.{Fits, TermsRoom}

pub zip_short : (n : ℕ) (vs : List ℕ) (cs : List Float) → length (zip_terms (take n vs) cs) ≤ n
unfolding zip_terms
zip_short zero vs cs = omega arith
zip_short (suc n) [] cs = omega arith
zip_short (suc n) (v ∷ vs) [] = omega arith
zip_short (suc n) (v ∷ vs) (c ∷ cs) = omega (arith, zip_short n vs cs)

pub written_short : (M : Model) (r : ℕ) → length (written M r) ≤ nnz M r
unfolding written
written_short M r = zip_short (nnz M r) _ _

pub steps : (M : Model) (r : ℕ) → RowKept M r (Unit {0}) (Fits M r)
unfolding as_written fold_term set_coeff
steps M r =
    record {
      folding =
          record {
            as_written_lem = λ S. omega (arith, written_short M r);
            removes = λ row i h q S. omega (arith, q S, length_swap row.terms i);
            folds = λ row i w h q S. omega (arith, q S, h S, length_swap row.terms i, length-append row.folded (get_or row.terms i no_term ∷ []));
            relaxes = λ row b c l h e q S. q S;
          };
      rewriting = record { coeffs = λ g row i v a c q S. omega (arith, q S, length-set row.terms i (term v a)); rebinds = λ g row b l h q S. q S; touches = λ g row q S. q S };
      guards = λ row f e s q. tt;
    }

pub size_rows : (M : Model) → EachRow M (λ r. Unit {0}) (Fits M)
size_rows M = record { steps = steps M; leaves = λ r row q S. q S; past = λ r S. omega arith }

-- ---- sorting keeps the number of terms
pub insert_length : (t : Term) (ts : List Term) → length (insert_term t ts) ≡ suc (length ts)
unfolding insert_term
insert_length t [] = refl
insert_length t (u ∷ us) = both (λ (l : List Term). length l ≡ suc (suc (length us))) _ refl (ap suc (insert_length t us))

pub sort_length : (ts : List Term) → length (sort_terms ts) ≡ length ts
unfolding sort_terms
sort_length [] = refl
sort_length (t ∷ ts) = insert_length t (sort_terms ts) ∙ ap suc (sort_length ts)

-- ---- spans, one entry more
pub skip_last : {m n : ℕ} {es : List Emit} (e : Emit) → e.rewritten ≡ false → Consecutive m n es → Consecutive m n (es ++ (e ∷ []))
skip_last e f no_span = skips f no_span
skip_last e f (skips g h) = skips g (skip_last e f h)
skip_last e f (spans a b c h) = spans a b c (skip_last e f h)

pub span_last : {m n : ℕ} {es : List Emit} (e : Emit) → e.rewritten ≡ true → e.from ≡ m → m ≤ e.upto → Consecutive m n es → Consecutive e.upto n (es ++ (e ∷ []))
span_last e a b c no_span = spans a b c no_span
span_last e a b c (skips g h) = skips g (span_last e a b c h)
span_last e a b c (spans x y z h) = spans x y z (span_last e a b c h)

module _ (M : Model) where
  pub upto_from : (r : ℕ) → upto M r ≡ from M (suc r)
  unfolding from upto
  upto_from r = ap (λ (n : ℕ). get_or M.starts n 0) (add-one r)

  pub nnz_is : (r : ℕ) → nnz M r ≡ upto M r - from M r
  unfolding nnz
  nnz_is r = refl

  pub more_room : {r : ℕ} {w v : Work} {o x : Out} → x.terms ≡ o.terms → Consecutive (length o.terms) 0 x.emitted → TermsRoom M r w o → TermsRoom M (suc r) v x
  more_room {r} {o = o} {x} e c h =
      record {
        room = λ S k. omega (arith, ap length e, h.room S (omega arith), S.rise r (omega arith), upto_from r);
        spans_follow = subst (λ (ts : List Term). Consecutive (length ts) 0 x.emitted) (sym e) c;
      }

  pub goes_room : {r : ℕ} {w v : Work} {o x : Out} → Goes M r w o (final v x) → AllRows (Fits M) w.rows → TermsRoom M r w o → TermsRoom M (suc r) v x
  goes_room (skipped t) p h = more_room refl h.spans_follow h
  goes_room (before t a) p h = more_room refl h.spans_follow h
  goes_room (emptied t a) p h = more_room refl h.spans_follow h
  goes_room (given t a) p h = more_room refl (skip_last _ refl h.spans_follow) h
  goes_room {r} {w} {o = o} {x} (rewrites t a c f) p h =
      let row : Row = last_fold M r w in
      let ts : List Term = sort_terms (row.terms ++ row.folded) in
      let l : length ts ≡ length row.terms + length row.folded = sort_length (row.terms ++ row.folded) ∙ length-append row.terms row.folded in
      let s : length (o.terms ++ ts) ≡ length o.terms + length ts = length-append o.terms ts in
      let k : length o.terms ≤ length o.terms + length ts = omega arith in
      record {
        room =
            λ S k. (let b : length row.terms + length row.folded ≤ nnz M r = changed_kept M (steps M r) (folded w) (p r) S in
            let n : nnz M r ≡ upto M r - from M r = nnz_is r in
            omega (arith, l, s, b, n, h.room S (omega arith), S.rise r (omega arith), upto_from r));
        spans_follow = subst (λ (n : ℕ). Consecutive n 0 x.emitted) (sym s) (span_last _ refl refl k h.spans_follow);
      }

pub room_kept : (M : Model) → Emitted M (λ w. AllRows (Fits M) w.rows) (TermsRoom M)
room_kept M =
    record { held = rows_held M (size_rows M); none = λ w p. record { room = λ S k. omega arith; spans_follow = no_span }; goes = λ r w v o x p q g h. goes_room M g p h }
