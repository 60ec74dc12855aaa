-- WHAT IS PRINTED FOR A FILE: its bytes are decoded, the table of refusals is asked, the model is presolved, and the answer is put as text.
use Rattle.std.specs.Prelude.{ℕ, ◌≤◌, ◌≡◌, refl, Bool, true, false, List, ◌++◌, map, length, take}
use Rattle.std.proofs.Common.{ap}
use Rattle.std.proofs.Math.Option.{Option, none, some}
use Rattle.definition.specs.declared.Counts.{Counts}
use Rattle.definition.specs.Model.{Model, Emit, Reduced, Answer, infeasible, done}
use Rattle.definition.specs.Presolve.{presolve}
use Rattle.definition.specs.Refusal as call
use Rattle.definition.specs.Of.{model_of}
use Rattle.row_terms.specs.RowMark.{mark}
use Rattle.emit.specs.Terms.{vars_of, coeffs_of}
use Rattle.model_file.specs.Format.{Lists, Decoded, refusal, file, decode}
use Rattle.model_file.specs.Longest.{first_bytes}
use Rattle.print_result.specs.declared.Kind.{Kind}
use Rattle.print_result.specs.Text.{answer_line, counts_line, answer_text, refused_line}

-- ---- the text of an answer
unfoldable pub kind_of : Bool → Kind
kind_of true = Kind.Reduced
kind_of false = Kind.Unchanged

unfoldable pub reduced_text : Reduced → List ℕ
reduced_text a =
    answer_text
    (kind_of a.flag)
    a.counts
    (length a.lower)
    a.lower
    a.upper
    (length a.emitted)
    (map (λ (e : Emit). e.row) a.emitted)
    (map (λ (e : Emit). mark e.rewritten) a.emitted)
    (map (λ (e : Emit). e.rhs) a.emitted)
    (map (λ (e : Emit). e.from) a.emitted)
    (map (λ (e : Emit). e.upto) a.emitted)
    (vars_of a.terms)
    (coeffs_of a.terms)
    (length a.kept)
    a.kept

-- after an infeasible answer only the counts follow
unfoldable pub infeasible_text : Counts → List ℕ
infeasible_text k = answer_line Kind.Infeasible ++ counts_line k

unfoldable pub outcome_text : Option ℕ → Answer → List ℕ
outcome_text (some n) a = refused_line n
outcome_text none (infeasible k) = infeasible_text k
outcome_text none (done a) = reduced_text a

-- ---- the space that is lent to presolve: what it needs at 128 variables, 128 rows and 512 terms
abbrev pub space : call.Lent
space =
    record {
      lower = 128;
      upper = 128;
      emit_row = 128;
      emit_rewritten = 128;
      emit_rhs = 128;
      emit_from = 128;
      emit_upto = 128;
      kept = 128;
      term_index = 512;
      term_coeff = 512;
      floats = 2048;
      numbers = 2694;
      adjacency = 641;
    }

unfoldable pub model_text : Model → List ℕ
model_text M = outcome_text (call.refusal M space) (presolve M)

-- ---- the text of a file
abbrev pub model_in : Lists → Model
model_in f = model_of f.objective f.lower f.upper f.domain f.starts f.index f.coeff f.cmp f.rhs f.mode f.feasibility f.int_tol

-- where t is the text of a model: what is printed of what the reader gets
abbrev pub told : (Model → List ℕ) → Decoded → List ℕ
told t (refusal n) = refused_line n
told t (file f) = t (model_in f)

unfoldable pub decoded_text : Decoded → List ℕ
decoded_text d = told model_text d

unfoldable pub file_text : List ℕ → List ℕ
file_text s = decoded_text (decode s)

-- which is what the programs write: they report by `model_text`
pub report_text : (s : List ℕ) → told model_text (decode s) ≡ file_text s
unfolding file_text decoded_text
report_text s = refl

-- what stands after 9,750 bytes changes nothing: a program may read that many and no more
pub first_bytes_text : (n : ℕ) (s : List ℕ) → 9750 ≤ n → file_text (take n s) ≡ file_text s
unfolding file_text
first_bytes_text n s h = ap decoded_text (first_bytes n s h)
