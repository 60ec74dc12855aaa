-- WHAT A CALL FROM C OR RUST PROMISES: the answer as a code and numbers, four equations with the definition.
use Rattle.std.specs.Prelude.{ℕ, ◌≡◌, Bool, List, [], ◌∷◌, ltb, length}
use Rattle.std.proofs.Math.Option.{Option, none, some}
use Rattle.floats.specs.Num.{choose}
use Rattle.definition.specs.declared.Counts.{Counts}
use Rattle.definition.specs.Model.{Model}
use Rattle.definition.specs.Presolve.{presolve}
use Rattle.definition.specs.Refusal.{Lent, refusal}
use Rattle.row_terms.specs.declared.Place.{Place}
use Rattle.emit.specs.Filling.{over}
use Rattle.output.specs.Results.{Results}
use Rattle.presolve.specs.Promise.{Working, lengths, Outcome, refused, infeasible, presolved, outcome, results_after, working_after}

-- ---- the table, where the numbers go to a slice of n entries: it is lent as the result slices are, so nine entries or refusal 10, the table's last row
unfoldable pub or_else : Option ℕ → Option ℕ → Option ℕ
or_else (some k) later = some k
or_else none later = later

unfoldable pub short_answer : ℕ → Option ℕ
short_answer n = choose (ltb n 9) (some 10) none

unfoldable pub face_refusal : Model → Lent → ℕ → Option ℕ
face_refusal M L n = or_else (refusal M L) (short_answer n)

-- ---- the code: a refusal's number, 100 infeasible, 0 a model
unfoldable pub code_of : Outcome → ℕ
code_of (refused k) = k
code_of (infeasible k) = 100
code_of (presolved k n t q g) = 0

-- ---- the numbers: none of a refusal; the five counts; and of a model also how many rows are emitted, how many terms the rewritten ones have,
-- how many rows are kept, and 1 where the model is reduced
unfoldable pub flag_number : Bool → ℕ
flag_number g = choose g 1 0

abbrev pub five_of : Counts → List ℕ
five_of k = k.rowsDropped ∷ k.boundsTightened ∷ k.varsFixed ∷ k.coeffsTightened ∷ k.passes ∷ []

abbrev pub nine_of : Counts → ℕ → ℕ → ℕ → ℕ → List ℕ
nine_of k n t q g = k.rowsDropped ∷ k.boundsTightened ∷ k.varsFixed ∷ k.coeffsTightened ∷ k.passes ∷ n ∷ t ∷ q ∷ g ∷ []

unfoldable pub numbers_of : Outcome → List ℕ
numbers_of (refused k) = []
numbers_of (infeasible k) = five_of k
numbers_of (presolved k n t q g) = nine_of k n t q (flag_number g)

-- z and ans' tell the outcome o: the numbers stand at the front of the slice, and what is behind them stays
pub record Told (o : Outcome) (ans : List ℕ) (z : ℕ) (ans' : List ℕ) : Type 0 where
  pub code : z ≡ code_of o
  pub answer : ans' ≡ over (numbers_of o) ans

-- ---- the promise: b, x and ans are the slices before the call, z its code, b', x' and ans' the slices after it
pub record FacePromise (M : Model) (b : Results) (x : Working) (ans : List ℕ) (z : ℕ) (b' : Results) (x' : Working) (ans' : List ℕ) : Type 0 where
  pub code : z ≡ code_of (outcome (face_refusal M (lengths b x) (length ans)) (presolve M))
  pub answer : ans' ≡ over (numbers_of (outcome (face_refusal M (lengths b x) (length ans)) (presolve M))) ans
  pub results : b' ≡ results_after (face_refusal M (lengths b x) (length ans)) (presolve M) b
  pub working : x' ≡ working_after (face_refusal M (lengths b x) (length ans)) x

-- ---- where an emitted row's terms stand, as C gets it: what is returned, and the two numbers that are written
abbrev pub place : ℕ → ℕ → ℕ → Place
place z s n = record { rewritten = z; start = s; count = n }
