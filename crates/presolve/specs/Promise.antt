-- WHAT A CALL OF presolve PROMISES: three equations with the definition, over the call's numbers and the lengths of the lent slices alone.
use Rattle.std.specs.Prelude.{ℕ, ◌≡◌, Bool, List, length, replicate, Float, Result, Ok, Err}
use Rattle.std.proofs.Math.Option.{Option, none, some}
use Rattle.floats.specs.Num.{0f}
use Rattle.definition.specs.declared.Counts.{Counts}
use Rattle.definition.specs.Model as definition
use Rattle.definition.specs.Model.{Model}
use Rattle.definition.specs.Presolve.{presolve}
use Rattle.definition.specs.Refusal.{Lent, refusal}
use Rattle.output.specs.Results.{Results, written}
use Rattle.refuse.specs.declared.Refusal.{Refusal}
use Rattle.refuse.specs.Number.{number_of}
use Rattle.presolve.specs.declared.Space.{Space}
use Rattle.presolve.specs.declared.Presolved.{Presolved}
use Rattle.presolve.specs.declared.Presolved.TheVariants as variants

-- the lent working slices
pub record Working : Type 0 where
  pub floats : List Float
  pub numbers : List ℕ
  pub adjacency : List ℕ

abbrev pub working : List Float → List ℕ → List ℕ → Working
working f n j = record { floats = f; numbers = n; adjacency = j }

-- what stands in the working slices
abbrev pub working_of : Space → Working
working_of x = working x.floats.now x.numbers.now x.adjacency.now

-- the working slices are the same ones
pub record SameSpace (x x' : Space) : Type 0 where
  pub floats : x'.floats.ghost_name ≡ x.floats.ghost_name
  pub numbers : x'.numbers.ghost_name ≡ x.numbers.ghost_name
  pub adjacency : x'.adjacency.ghost_name ≡ x.adjacency.ghost_name

-- the lengths of all lent slices, which refusal 10 looks at
abbrev pub lengths : Results → Working → Lent
lengths b x =
    record {
      lower = length b.lower;
      upper = length b.upper;
      emit_row = length b.emit_row;
      emit_rewritten = length b.emit_rewritten;
      emit_rhs = length b.emit_rhs;
      emit_from = length b.emit_from;
      emit_upto = length b.emit_upto;
      kept = length b.kept;
      term_index = length b.term_index;
      term_coeff = length b.term_coeff;
      floats = length x.floats;
      numbers = length x.numbers;
      adjacency = length x.adjacency;
    }

-- ---- the answer
-- 01's number and values of each answer: a refusal has its number; infeasible the counts reached; a model the counts, how many rows are emitted,
-- how many terms the rewritten ones have, how many rows are kept, and the flag
pub data Outcome : Type 0 where
  refused : ℕ → Outcome
  infeasible : Counts → Outcome
  presolved : Counts → ℕ → ℕ → ℕ → Bool → Outcome

abbrev pub Answer : Type 0
Answer = Result Presolved Refusal

abbrev pub presolved_is : Presolved → Outcome
presolved_is (variants.Infeasible k) = infeasible k
presolved_is (variants.Model x) = presolved x.counts x.emitted x.terms x.kept x.flag

-- by the number of a refusal, whatever stands for one
abbrev pub answer_as : {E : Type 0} → (E → ℕ) → Result Presolved E → Outcome
answer_as number (Ok z) = presolved_is z
answer_as number (Err k) = refused (number k)

abbrev pub answer_is : Answer → Outcome
answer_is = answer_as number_of

-- the table's refusal, or else the definition's answer
unfoldable pub outcome : Option ℕ → definition.Answer → Outcome
outcome (some k) a = refused k
outcome none (definition.infeasible k) = infeasible k
outcome none (definition.done a) = presolved a.counts (length a.emitted) (length a.terms) (length a.kept) a.flag

-- ---- the lent slices
-- a refusal and an infeasible model leave the result slices as they were; otherwise the answer's lists stand at their front, and what is behind stays
unfoldable pub results_after : Option ℕ → definition.Answer → Results → Results
results_after (some k) a b = b
results_after none (definition.infeasible k) b = b
results_after none (definition.done a) b = written a b

-- a refusal leaves the working slices as they were; an accepted call leaves zeros over their whole lengths
unfoldable pub working_after : Option ℕ → Working → Working
working_after (some k) x = x
working_after none x = working (replicate (length x.floats) 0f) (replicate (length x.numbers) 0) (replicate (length x.adjacency) 0)

-- ---- the promise: b and x are the slices before the call, z its answer, b' and x' the slices after it
pub record Promise (M : Model) (b : Results) (x : Working) (z : Answer) (b' : Results) (x' : Working) : Type 0 where
  pub answer : answer_is z ≡ outcome (refusal M (lengths b x)) (presolve M)
  pub results : b' ≡ results_after (refusal M (lengths b x)) (presolve M) b
  pub working : x' ≡ working_after (refusal M (lengths b x)) x
