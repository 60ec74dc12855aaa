-- No coefficient that goes out is a NaN, if none of the model's is: a row's terms are the model's or were put there by a rewrite.
use Rattle.std.specs.Prelude.{ℕ, zero, suc, ◌-◌, ◌<◌, List, [], ◌∷◌, ◌++◌, length, get_or, take, drop, set, Float}
use Rattle.std.proofs.Common.{arith}
use Rattle.tolerances.specs.Tol.{Term, term, zip_terms}
use Rattle.definition.specs.Model.{Model, nnz, from, written, as_written}
use Rattle.definition.specs.Work.{Work, no_term}
use Rattle.definition.specs.Folds.{swap_remove, fold_term}
use Rattle.definition.specs.Tighten.{set_coeff}
use Rattle.definition.specs.Emit.{insert_term, sort_terms, Out, final}
use Rattle.rows_kept.specs.Statements.{All, no_one, each}
use Rattle.definition.specs.Choices.{both}
use Rattle.rows_kept.specs.Kept.{folded}
use Rattle.rows_kept.specs.RowSteps.{RowKept}
use Rattle.rows_kept.proofs.RowSteps.{changed_kept}
use Rattle.rows_kept.specs.Outs.{last_fold, Goes, skipped, before, emptied, given, rewrites}
use Rattle.rows_kept.specs.Whole.{Emitted}
use Rattle.rows_kept.specs.AllRows.{EachRow, AllRows}
use Rattle.rows_kept.proofs.AllRows.{rows_held}
use Rattle.rows_kept.specs.Coefficients.{IfNumbers, IsNumber, NumberTerm, OutNumbers, TermNumbers}

-- ---- lists of which each has a property
module _ {A : Type 0} {P : A → Type 0} where
  pub all_append : {xs ys : List A} → All P xs → All P ys → All P (xs ++ ys)
  all_append no_one k = k
  all_append (each p h) k = each p (all_append h k)

  pub all_get : {xs : List A} (i : ℕ) (d : A) → i < length xs → All P xs → P (get_or xs i d)
  all_get i d h no_one = absurd (omega arith)
  all_get zero d h (each p k) = p
  all_get (suc i) d h (each p k) = all_get i d (omega arith) k

  pub all_set : {xs : List A} (i : ℕ) (x : A) → P x → All P xs → All P (set xs i x)
  all_set i x q no_one = no_one
  all_set zero x q (each p k) = each q k
  all_set (suc i) x q (each p k) = each p (all_set i x q k)

  pub all_take : (n : ℕ) {xs : List A} → All P xs → All P (take n xs)
  all_take zero h = no_one
  all_take (suc n) no_one = no_one
  all_take (suc n) (each p h) = each p (all_take n h)

  pub all_drop : (n : ℕ) {xs : List A} → All P xs → All P (drop n xs)
  all_drop zero h = h
  all_drop (suc n) no_one = no_one
  all_drop (suc n) (each p h) = all_drop n h

pub zip_all : (vs : List ℕ) {cs : List Float} → All IsNumber cs → All NumberTerm (zip_terms vs cs)
unfolding zip_terms
zip_all [] h = no_one
zip_all (v ∷ vs) no_one = no_one
zip_all (v ∷ vs) (each p h) = each p (zip_all vs h)

pub swap_all : (ts : List Term) (i : ℕ) → i < length ts → All NumberTerm ts → All NumberTerm (swap_remove ts i)
unfolding swap_remove
swap_all ts i h k = all_take (length ts - 1) (all_set i _ (all_get (length ts - 1) no_term (omega arith) k) k)

pub written_numbers : (M : Model) (r : ℕ) → All IsNumber M.coeff → All NumberTerm (written M r)
unfolding written
written_numbers M r h = zip_all _ (all_take (nnz M r) (all_drop (from M r) h))

pub steps : (M : Model) (r : ℕ) → RowKept M r (Unit {0}) (IfNumbers M r)
unfolding as_written fold_term set_coeff
steps M r =
    record {
      folding =
          record {
            as_written_lem = λ S N. record { live = written_numbers M r N; gone = no_one };
            removes = λ row i h q S N. record { live = swap_all row.terms i (h S) (q S N).live; gone = (q S N).gone };
            folds = λ row i w h q S N. record { live = swap_all row.terms i (h S) (q S N).live; gone = all_append (q S N).gone (each (all_get i no_term (h S) (q S N).live) no_one) };
            relaxes = λ row b c l h e q S N. record { live = (q S N).live; gone = (q S N).gone };
          };
      rewriting =
          record {
            coeffs = λ g row i v a c q S N. record { live = all_set i (term v a) c.number (q S N).live; gone = (q S N).gone };
            rebinds = λ g row b l h q S N. record { live = (q S N).live; gone = (q S N).gone };
            touches = λ g row q S N. record { live = (q S N).live; gone = (q S N).gone };
          };
      guards = λ row f e s q. tt;
    }

pub number_rows : (M : Model) → EachRow M (λ r. Unit {0}) (IfNumbers M)
number_rows M =
    record { steps = steps M; leaves = λ r row q S N. record { live = (q S N).live; gone = (q S N).gone }; past = λ r S N. record { live = no_one; gone = no_one } }

-- ---- what is out
pub insert_all : (t : Term) {ts : List Term} → NumberTerm t → All NumberTerm ts → All NumberTerm (insert_term t ts)
unfolding insert_term
insert_all t p no_one = each p no_one
insert_all t p (each q h) = both (All NumberTerm) _ (each p (each q h)) (each q (insert_all t p h))

pub sort_all : {ts : List Term} → All NumberTerm ts → All NumberTerm (sort_terms ts)
unfolding sort_terms
sort_all no_one = no_one
sort_all (each {x} p h) = insert_all x p (sort_all h)

pub goes_numbers : (M : Model) {r : ℕ} {w v : Work} {o x : Out} → Goes M r w o (final v x) → AllRows (IfNumbers M) w.rows → OutNumbers M r w o → OutNumbers M (suc r) v x
goes_numbers M (skipped t) p h = h
goes_numbers M (before t a) p h = h
goes_numbers M (emptied t a) p h = h
goes_numbers M (given t a) p h = h
goes_numbers M {r} {w} (rewrites t a c f) p h =
    λ S N. (let k : TermNumbers (last_fold M r w) = changed_kept M (steps M r) (folded w) (p r) S N in all_append (h S N) (sort_all (all_append k.live k.gone)))

pub out_numbers : (M : Model) → Emitted M (λ w. AllRows (IfNumbers M) w.rows) (OutNumbers M)
out_numbers M = record { held = rows_held M (number_rows M); none = λ w p S N. no_one; goes = λ r w v o x p q g h. goes_numbers M g p h }
