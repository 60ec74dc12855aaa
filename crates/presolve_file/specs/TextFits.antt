-- EVERY TEXT FITS THE PROGRAM'S BUFFER: what is printed for a file, whatever its bytes, has at most the 32,768 bytes of TEXT_BYTES. A file that is decoded has at most
-- 128 variables, 128 rows and 512 terms; no more rows and terms are printed than it has, and the numbers of variables and rows have at most three digits.
use Rattle.std.specs.Prelude.{ℕ, zero, suc, ◌+◌, ◌-◌, ◌*◌, ◌≤◌, ◌<◌, ◌≡◌, List, ◌∷◌, map, Float}
use Rattle.std.proofs.Common.{arith, sym, subst, le-leb}
use Rattle.std.proofs.Math.Path.{refl}
use Rattle.std.proofs.Math.Option.{Option, none, some}
use Rattle.std.proofs.Math.ListN.{length, length-append}
use Rattle.floats.specs.Num.{choose}
use Rattle.tolerances.specs.Tol.{Term}
use Rattle.definition.specs.declared.Counts.{Counts}
use Rattle.definition.specs.Params.{Params, params, max_waves}
use Rattle.definition.specs.Model.{Model, Emit, Reduced, Answer, infeasible, done, is_mip}
use Rattle.definition.specs.Presolve.{presolve}
use Rattle.definition.specs.Refusal as call
use Rattle.rows_kept.specs.Statements.{All, no_one, each, Rising, ends, rises, rows_of, Consecutive, no_span, skips, spans}
use Rattle.rows_kept.proofs.Theorems.{waves_bounded, waves_bounded_infeasible, emitted_rising, kept_rising, conserved, bounds_lengths, terms_fit, spans_follow_lem}
use Rattle.space.specs.declared.Context.{Context}
use Rattle.view.specs.Call.{Call}
use Rattle.refuse.specs.Accepted.{call_of}
use Rattle.row_terms.specs.RowMark.{mark}
use Rattle.emit.specs.Terms.{vars_of, coeffs_of}
use Rattle.tally.specs.Theorem.{CountsFit, Fits, counts_fit, fits_infeasible, fits_done}
use Rattle.model_file.specs.Format.{Lists, Decoded, refusal, file, decode}
use Rattle.print_result.specs.declared.Kind.{Kind}
use Rattle.print_result.specs.Text.{row_text, row_texts}
use Rattle.print_result.specs.Lengths.{CountsBelow, answer_line_length, counts_line_length, refused_line_length, Short, written_length, rewritten_length, rows_none, rows_cons, answer_length}
use Rattle.presolve_file.specs.Whole.{kind_of, reduced_text, infeasible_text, outcome_text, space, model_text, model_in, decoded_text, file_text}
use Rattle.presolve_file.specs.Small.{Small, small}
use Rattle.presolve_file.specs.Numbers.{all_at, spans_of_lem}
use Rattle.presolve_file.specs.Refusals.{reader_numbers, table_numbers}
use Rattle.presolve_file.specs.Variables.{terms_below}
use Rattle.presolve_file.specs.Fitting.{fitting}

-- ---- numbers of rows and variables
rising_end : {m n : ℕ} {ks : List ℕ} → Rising m n ks → n + length ks ≤ m
rising_end (ends h) = omega arith
rising_end (rises h r) = omega (arith, rising_end r)

short_rows : {m n : ℕ} {ks : List ℕ} → m ≤ 1000 → Rising m n ks → Short ks
short_rows l (ends h) i = omega arith
short_rows l (rises h r) zero = omega (arith, rising_end r)
short_rows l (rises h r) (suc i) = short_rows l r i

short_vars : {ts : List Term} → All (λ (t : Term). t.var < 1000) ts → Short (vars_of ts)
short_vars no_one i = omega arith
short_vars (each p h) zero = p
short_vars (each p h) (suc i) = short_vars h i

-- ---- the emitted rows: the terms of those that are rewritten follow one another
module _ (index : List ℕ) (coeff : List Float) where
  abbrev entries_text : List Emit → List ℕ
  entries_text es =
      row_texts (length es) (map (λ (e : Emit). e.row) es) (map (λ (e : Emit). mark e.rewritten) es) (map (λ (e : Emit). e.rhs) es)
      (map (λ (e : Emit). e.from) es) (map (λ (e : Emit). e.upto) es)
      index coeff

  abbrev entry_text : Emit → List ℕ
  entry_text e = row_text e.row (mark e.rewritten) e.rhs e.from e.upto index coeff

  entries_cons : (e : Emit) (es : List Emit) → length (entries_text (e ∷ es)) ≡ length (entry_text e) + length (entries_text es)
  entries_cons e es =
      rw (rows_cons index coeff (length es) e.row (map (λ (x : Emit). x.row) es) (mark e.rewritten) (map (λ (x : Emit). mark x.rewritten) es) e.rhs
      (map (λ (x : Emit). x.rhs) es) e.from (map (λ (x : Emit). x.from) es) e.upto (map (λ (x : Emit). x.upto) es))
      (length-append (entry_text e) (entries_text es))

  -- their terms stand from n to m
  entries_length : {m n : ℕ} {es : List Emit} → Short index → Consecutive m n es → Short (rows_of es) → length (entries_text es) + n * 26 ≤ length es * 36 + m * 26
  unfolding rows_of mark
  entries_length v no_span h = rw (rows_none index coeff) (omega arith)
  entries_length v (skips {e = e} {es} f c) h =
      let w : length (entry_text e) ≤ 36 = rw f (written_length e.row e.rhs e.from e.upto index coeff (h 0)) in
      omega (arith, entries_cons e es, w, entries_length v c (λ i. h (suc i)))
  entries_length v (spans {e = e} {es} t b l c) h =
      let w : length (entry_text e) ≤ 36 + (e.upto - e.from) * 26 = rw t (rewritten_length e.row e.rhs e.from e.upto index coeff (h 0) v) in
      omega (arith, entries_cons e es, w, b, entries_length v c (λ i. h (suc i)))

-- ---- an answer, by its sizes
pub answer_text_length : (R : Reduced) → CountsBelow R.counts → length R.lower ≤ 1000 → Short (rows_of R.emitted) → Short (vars_of R.terms)
    → Consecutive (length R.terms) 0 R.emitted → Short R.kept
    → length (reduced_text R) ≤ 130 + length R.lower * 44 + (length R.emitted * 36 + length R.terms * 26) + length R.kept * 13
unfolding reduced_text
answer_text_length R c v r t s k =
    let l : length (entries_text (vars_of R.terms) (coeffs_of R.terms) R.emitted) ≤ length R.emitted * 36 + length R.terms * 26 =
    omega (arith, entries_length (vars_of R.terms) (coeffs_of R.terms) t s r) in
    answer_length (kind_of R.flag) R.counts (length R.lower) R.lower R.upper (length R.emitted) _ _ _ _ _ (vars_of R.terms)
    (coeffs_of R.terms) (length R.kept) R.kept _ c v k l

-- ---- a model of the file's sizes that the table passes
record Sized (M : Model) : Type 0 where
  vars : length M.lower ≤ 128
  rows : length M.rhs ≤ 128
  terms : length M.index ≤ 512
  pars : M.params ≡ params

module _ (M : Model) (S : Sized M) (e : call.refusal M space ≡ none) where
  shape : Context
  shape = record { vars = length M.lower; rows = length M.rhs; terms = length M.index; mip = is_mip M; feas = M.feas }

  accepted_call : Call M shape
  unfolding shape
  accepted_call = call_of M space shape e S.pars (record { vars = refl; rows = refl; terms = refl; mip = refl; feas = refl })

  waves_30 : max_waves M.params ≤ 30
  waves_30 = subst (λ (p : Params). max_waves p ≤ 30) (sym S.pars) (omega arith)

  counts_below : {k : Counts} → CountsFit k → k.passes ≤ max_waves M.params → CountsBelow k
  counts_below f p = record { dropped = f.dropped; tightened = f.tightened; fixed = f.fixed; rewritten = f.rewrote; passes = omega (arith, p, waves_30) }

  infeasible_length : (k : Counts) → presolve M ≡ infeasible k → length (infeasible_text k) ≤ 130
  unfolding infeasible_text
  infeasible_length k p =
      let c : CountsBelow k = counts_below (fits_infeasible (subst Fits p (counts_fit M shape accepted_call))) (waves_bounded_infeasible M k p) in
      simp length-append (omega (arith, answer_line_length Kind.Infeasible, counts_line_length k c))

  reduced_length : (R : Reduced) → presolve M ≡ done R → length (reduced_text R) ≤ 32768
  reduced_length R p =
      let c : CountsBelow R.counts = counts_below (fits_done (subst Fits p (counts_fit M shape accepted_call))) (waves_bounded M R p) in
      let below : All (λ (v : ℕ). v < 1000) M.index = all_at 0 M.index (λ k h. omega (arith, accepted_call.index k h, S.vars)) in
      let l =
      answer_text_length R c (omega (arith, (bounds_lengths M R p).0, S.vars)) (short_rows (omega (arith, S.rows)) (emitted_rising M R p))
      (short_vars (terms_below M 1000 (omega arith) below p)) (spans_follow_lem M R p) (short_rows (omega (arith, S.rows)) (kept_rising M R p)) in
      omega (arith, l, (bounds_lengths M R p).0, S.vars, S.rows, S.terms, conserved M R p, terms_fit M R p (spans_of_lem M space e), rising_end (kept_rising M R p))

outcome_length : (M : Model) → Sized M → (o : Option ℕ) (a : Answer) → call.refusal M space ≡ o → presolve M ≡ a → length (outcome_text o a) ≤ 32768
unfolding outcome_text
outcome_length M S (some n) a e p = omega (arith, refused_line_length n (omega (arith, table_numbers M space e)))
outcome_length M S none (infeasible k) e p = omega (arith, infeasible_length M S e k p)
outcome_length M S none (done R) e p = reduced_length M S e R p

-- ---- a file
sized : (f : Lists) → Small f → Sized (model_in f)
sized f s = record { vars = omega (arith, s.lower, s.vars); rows = omega (arith, s.rhs, s.rows); terms = s.terms; pars = refl }

decoded_length : (s : List ℕ) (d : Decoded) → decode s ≡ d → length (decoded_text d) ≤ 32768
unfolding decoded_text model_text
decoded_length s (refusal n) e = omega (arith, refused_line_length n (omega (arith, reader_numbers s e)))
decoded_length s (file f) e = outcome_length (model_in f) (sized f (small s f e)) _ _ refl refl

pub text_fits : (s : List ℕ) → length (file_text s) ≤ 32768
unfolding file_text
text_fits s = decoded_length s (decode s) refl

-- so a buffer of TEXT_BYTES bytes holds the whole text
pub whole_text : (n : ℕ) (s : List ℕ) → 32768 ≤ n → fitting n (file_text s) ≡ file_text s
unfolding fitting choose
whole_text n s h = rw (le-leb (length (file_text s)) n (omega (arith, text_fits s)))
