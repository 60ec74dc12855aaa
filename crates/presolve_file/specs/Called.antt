-- A call's promise, as the text of its answer: the fronts that the answer uses are there, and what is printed of them is the text of the definition's answer.
use Rattle.std.specs.Prelude.{ℕ, ◌≤◌, ◌≡◌, List, map, length, take, drop, Result, Ok, Err}
use Rattle.std.proofs.Common.{arith, ◌∙◌, subst, length-append}
use Rattle.std.proofs.Math.Path.{refl, ap, sym}
use Rattle.std.proofs.Math.Option.{Option, none, some}
use Rattle.std.proofs.lemmas.List.{length-map}
use Rattle.std.proofs.Math.Seq.{take-append_seam}
use Rattle.tolerances.specs.Tol.{Term}
use Rattle.definition.specs.Model as definition
use Rattle.definition.specs.Model.{Model, Emit, done}
use Rattle.definition.specs.Presolve.{presolve}
use Rattle.definition.specs.Refusal.{Lent, refusal}
use Rattle.rows_kept.proofs.Theorems.{bounds_lengths}
use Rattle.row_terms.specs.RowMark.{mark}
use Rattle.emit.specs.Filling.{over}
use Rattle.output.specs.declared.Reduced.{Reduced}
use Rattle.output.specs.Results.{Results, written}
use Rattle.refuse.specs.declared.Refusal.{Refusal}
use Rattle.presolve.specs.declared.Presolved.{Presolved}
use Rattle.presolve.specs.declared.Presolved.TheVariants as code
use Rattle.presolve.specs.Promise.{Working, lengths, answer_is, outcome, results_after, Promise}
use Rattle.print_result.specs.Text.{refused_line}
use Rattle.presolve_file.specs.Whole.{space, reduced_text, infeasible_text, outcome_text, model_text}
use Rattle.presolve_file.specs.Fronts.{Fronts, fronts_text, CallFronts, call_text}

-- ---- a list at the front of a slice
front : {A : Type 0} (n : ℕ) (l old : List A) → n ≡ length l → take n (over l old) ≡ l
front n l old e = ap (λ (k : ℕ). take k (over l old)) e ∙ take-append_seam l _

there : {A : Type 0} (n : ℕ) (l old : List A) → n ≡ length l → n ≤ length (over l old)
there n l old e = omega (arith, e, length-append l (drop (length l) old))

-- ---- a model that was presolved: the answer's numbers are the lengths of the definition's lists
pub record Sizes (x : Reduced) (lowers uppers : ℕ) (a : definition.Reduced) : Type 0 where
  pub counts : x.counts ≡ a.counts
  pub flag : x.flag ≡ a.flag
  pub lower : lowers ≡ length a.lower
  pub upper : uppers ≡ length a.upper
  pub emitted : x.emitted ≡ length a.emitted
  pub terms : x.terms ≡ length a.terms
  pub kept : x.kept ≡ length a.kept

module _ (x : Reduced) (lowers uppers : ℕ) (a : definition.Reduced) (b : Results) (s : Sizes x lowers uppers a) where
  -- the entries' columns and the terms' columns are as long as the lists
  entries : {A : Type 0} (g : Emit → A) → x.emitted ≡ length (map g a.emitted)
  entries g = s.emitted ∙ sym (length-map a.emitted g)

  terms : {A : Type 0} (g : Term → A) → x.terms ≡ length (map g a.terms)
  terms g = s.terms ∙ sym (length-map a.terms g)

  entries_there : {A : Type 0} (g : Emit → A) (old : List A) → x.emitted ≤ length (over (map g a.emitted) old)
  entries_there g old = there _ (map g a.emitted) old (entries g)

  entries_are : {A : Type 0} (g : Emit → A) (old : List A) → take x.emitted (over (map g a.emitted) old) ≡ map g a.emitted
  entries_are g old = front _ (map g a.emitted) old (entries g)

  terms_there : {A : Type 0} (g : Term → A) (old : List A) → x.terms ≤ length (over (map g a.terms) old)
  terms_there g old = there _ (map g a.terms) old (terms g)

  terms_are : {A : Type 0} (g : Term → A) (old : List A) → take x.terms (over (map g a.terms) old) ≡ map g a.terms
  terms_are g old = front _ (map g a.terms) old (terms g)

  fronts_there : Fronts x lowers uppers (written a b)
  unfolding written
  fronts_there =
      record {
        lower = there _ a.lower b.lower s.lower;
        upper = there _ a.upper b.upper s.upper;
        row = entries_there (λ (e : Emit). e.row) b.emit_row;
        rewritten = entries_there (λ (e : Emit). mark e.rewritten) b.emit_rewritten;
        rhs = entries_there (λ (e : Emit). e.rhs) b.emit_rhs;
        from = entries_there (λ (e : Emit). e.from) b.emit_from;
        upto = entries_there (λ (e : Emit). e.upto) b.emit_upto;
        kept = there _ a.kept b.kept s.kept;
        index = terms_there (λ (t : Term). t.var) b.term_index;
        coeff = terms_there (λ (t : Term). t.coeff) b.term_coeff;
      }

  fronts_are : fronts_text x lowers uppers (written a b) ≡ reduced_text a
  unfolding written fronts_text reduced_text
  fronts_are =
      rw (
        front _ a.lower b.lower s.lower,
        front _ a.upper b.upper s.upper,
        entries_are (λ (e : Emit). e.row) b.emit_row,
        entries_are (λ (e : Emit). mark e.rewritten) b.emit_rewritten,
        entries_are (λ (e : Emit). e.rhs) b.emit_rhs,
        entries_are (λ (e : Emit). e.from) b.emit_from,
        entries_are (λ (e : Emit). e.upto) b.emit_upto,
        front _ a.kept b.kept s.kept,
        terms_are (λ (t : Term). t.var) b.term_index,
        terms_are (λ (t : Term). t.coeff) b.term_coeff,
        s.counts,
        s.flag,
        s.lower,
        s.emitted,
        s.kept,
      )

-- ---- the promise
module _ (M : Model) (b : Results) where
  sizes_of_lem : (a : definition.Reduced) (x : Reduced) → presolve M ≡ done a → answer_is (Ok (code.Model x)) ≡ outcome none (done a) → Sizes x (length M.lower) (length M.upper) a
  unfolding outcome
  sizes_of_lem a x p e =
      let l = bounds_lengths M a p in
      record { counts = cc; flag = cc; lower = sym l.0; upper = sym l.1; emitted = cc; terms = cc; kept = cc }

  impossible : {A : Type 0} → ◌≡◌ {A = ℕ} 0 1 → A
  impossible e = absurd (omega (arith, e))

  fronts_by : (r : Option ℕ) (a : definition.Answer) (z : Result Presolved Refusal) → presolve M ≡ a → answer_is z ≡ outcome r a → CallFronts z (length M.lower) (length M.upper) (results_after r a b)
  unfolding outcome results_after
  fronts_by r a (Err x) p e = tt
  fronts_by r a (Ok (code.Infeasible k)) p e = tt
  fronts_by (some n) a (Ok (code.Model x)) p e = impossible cc
  fronts_by none (definition.infeasible k) (Ok (code.Model x)) p e = impossible cc
  fronts_by none (done a) (Ok (code.Model x)) p e = fronts_there x _ _ a b (sizes_of_lem a x p e)

  text_by : (r : Option ℕ) (a : definition.Answer) (z : Result Presolved Refusal) → presolve M ≡ a → answer_is z ≡ outcome r a
      → call_text z (length M.lower) (length M.upper) (results_after r a b) ≡ outcome_text r a
  unfolding outcome results_after call_text outcome_text
  text_by (some m) a (Err x) p e = ap refused_line cc
  text_by (some m) a (Ok (code.Infeasible k)) p e = impossible cc
  text_by (some m) a (Ok (code.Model x)) p e = impossible cc
  text_by none (definition.infeasible k) (Err x) p e = impossible cc
  text_by none (definition.infeasible k) (Ok (code.Infeasible m)) p e = ap infeasible_text cc
  text_by none (definition.infeasible k) (Ok (code.Model x)) p e = impossible cc
  text_by none (done a) (Err x) p e = impossible cc
  text_by none (done a) (Ok (code.Infeasible m)) p e = impossible cc
  text_by none (done a) (Ok (code.Model x)) p e = fronts_are x _ _ a b (sizes_of_lem a x p e)

module _ {M : Model} {b : Results} {x : Working} {z : Result Presolved Refusal} {b' : Results} {x' : Working} (q : Promise M b x z b' x') where
  pub called_fronts : CallFronts z (length M.lower) (length M.upper) b'
  called_fronts = subst (λ (y : Results). CallFronts z (length M.lower) (length M.upper) y) (sym q.results) (fronts_by M b (refusal M (lengths b x)) (presolve M) z refl q.answer)

  pub called_text : lengths b x ≡ space → call_text z (length M.lower) (length M.upper) b' ≡ model_text M
  unfolding model_text
  called_text e =
      ap (call_text z (length M.lower) (length M.upper)) q.results
      ∙ text_by M b (refusal M (lengths b x)) (presolve M) z refl q.answer
      ∙ ap (λ (l : Lent). outcome_text (refusal M l) (presolve M)) e
