-- The printed text of a call's answer, read from the fronts of the result slices: it is the text of the definition's answer.
use Rattle.std.specs.Prelude.{ℕ, ◌≤◌, ◌≡◌, refl, List, length, take, Float, Result, Ok, Err}
use Rattle.std.proofs.Common.{sym, length-take-le}
use Rattle.definition.specs.declared.Counts.{Counts}
use Rattle.output.specs.declared.Reduced.{Reduced}
use Rattle.output.specs.Results.{Results}
use Rattle.refuse.specs.declared.Refusal.{Refusal}
use Rattle.refuse.specs.Number.{number_of}
use Rattle.presolve.specs.declared.Presolved.{Presolved}
use Rattle.presolve.specs.declared.Presolved.TheVariants.{Infeasible, Model}
use Rattle.print_result.specs.declared.Kind.{Kind}
use Rattle.print_result.specs.Text.{answer_text, refused_line, followed}
use Rattle.print_result.specs.TextLaws.{only_counts}
use Rattle.presolve_file.specs.Whole.{kind_of, infeasible_text}

-- the fronts that an answer uses are there
pub record Fronts (x : Reduced) (lowers uppers : ℕ) (b : Results) : Type 0 where
  pub lower : lowers ≤ length b.lower
  pub upper : uppers ≤ length b.upper
  pub row : x.emitted ≤ length b.emit_row
  pub rewritten : x.emitted ≤ length b.emit_rewritten
  pub rhs : x.emitted ≤ length b.emit_rhs
  pub from : x.emitted ≤ length b.emit_from
  pub upto : x.emitted ≤ length b.emit_upto
  pub kept : x.kept ≤ length b.kept
  pub index : x.terms ≤ length b.term_index
  pub coeff : x.terms ≤ length b.term_coeff

unfoldable pub fronts_text : Reduced → ℕ → ℕ → Results → List ℕ
fronts_text x lowers uppers b =
    answer_text
    (kind_of x.flag)
    x.counts
    lowers
    (take lowers b.lower)
    (take uppers b.upper)
    x.emitted
    (take x.emitted b.emit_row)
    (take x.emitted b.emit_rewritten)
    (take x.emitted b.emit_rhs)
    (take x.emitted b.emit_from)
    (take x.emitted b.emit_upto)
    (take x.terms b.term_index)
    (take x.terms b.term_coeff)
    x.kept
    (take x.kept b.kept)

-- ---- any answer
abbrev pub CallFronts : Result Presolved Refusal → ℕ → ℕ → Results → Type 0
CallFronts (Err e) lowers uppers b = Unit {0}
CallFronts (Ok (Infeasible k)) lowers uppers b = Unit {0}
CallFronts (Ok (Model x)) lowers uppers b = Fronts x lowers uppers b

unfoldable pub call_text : Result Presolved Refusal → ℕ → ℕ → Results → List ℕ
call_text (Err e) lowers uppers b = refused_line (number_of e)
call_text (Ok (Infeasible k)) lowers uppers b = infeasible_text k
call_text (Ok (Model x)) lowers uppers b = fronts_text x lowers uppers b

-- ---- what the functions print
module _ (x : Reduced) (lowers uppers : ℕ) (b : Results) where
  pub fronts_text_lem : {kind : Kind} {k : Counts} → kind ≡ kind_of x.flag → k ≡ x.counts
      → answer_text kind k lowers (take lowers b.lower) (take uppers b.upper) x.emitted (take x.emitted b.emit_row)
      (take x.emitted b.emit_rewritten) (take x.emitted b.emit_rhs) (take x.emitted b.emit_from) (take x.emitted b.emit_upto)
      (take x.terms b.term_index) (take x.terms b.term_coeff) x.kept (take x.kept b.kept)
      ≡ fronts_text x lowers uppers b
  unfolding fronts_text
  fronts_text_lem p q = rw (p, q)

  pub fronts_text_lengths : {kind : Kind} → kind ≡ kind_of x.flag → Fronts x lowers uppers b
      → answer_text kind x.counts (length (take lowers b.lower)) (take lowers b.lower) (take uppers b.upper) (length (take x.emitted b.emit_row))
      (take x.emitted b.emit_row) (take x.emitted b.emit_rewritten) (take x.emitted b.emit_rhs) (take x.emitted b.emit_from) (take x.emitted b.emit_upto)
      (take x.terms b.term_index) (take x.terms b.term_coeff) (length (take x.kept b.kept)) (take x.kept b.kept)
      ≡ fronts_text x lowers uppers b
  unfolding fronts_text
  fronts_text_lengths p h = rw (p, length-take-le _ _ h.lower, length-take-le _ _ h.row, length-take-le _ _ h.kept)

module _ {z : Result Presolved Refusal} (lowers uppers : ℕ) (b : Results) where
  pub refused_text : {r : Refusal} → z ≡ Err r → refused_line (number_of r) ≡ call_text z lowers uppers b
  unfolding call_text
  refused_text e = rw e

  pub presolved_text : {x : Reduced} → z ≡ Ok (Model x) → fronts_text x lowers uppers b ≡ call_text z lowers uppers b
  unfolding call_text
  presolved_text e = rw e

  pub presolved_fronts : {x : Reduced} → z ≡ Ok (Model x) → CallFronts z lowers uppers b → Fronts x lowers uppers b
  presolved_fronts e h = rw e at h

pub infeasible_text_lem : (k : Counts) (vars : ℕ) (lower upper : List Float) (emitted : ℕ) (row : List ℕ) (rewritten : List ℕ) (rhs : List Float) (from upto index : List ℕ)
    (coeff : List Float) (validated : ℕ) (kept : List ℕ)
    → answer_text Kind.Infeasible k vars lower upper emitted row rewritten rhs from upto index coeff validated kept ≡ infeasible_text k
unfolding infeasible_text followed
infeasible_text_lem k vars lower upper emitted row rewritten rhs from upto index coeff validated kept =
    sym (only_counts Kind.Infeasible k vars lower upper emitted row rewritten rhs from upto index coeff validated kept refl)
