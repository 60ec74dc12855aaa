-- 01's DEMANDS HOLD OF A CALL FROM C OR RUST TOO: where the answer's slice has its nine entries, such a call is a call of presolve, with the same answer and the same
-- slices before and after it. So everything in presolve's specs/Demands holds of it.
use Rattle.std.specs.Prelude.{ℕ, ◌≤◌, ◌≡◌, refl, List, length, Result, Ok, Err}
use Rattle.std.proofs.Common.{ap, sym, ◌∙◌, subst}
use Rattle.std.proofs.Math.Option.{Option, none, some}
use Rattle.definition.specs.Model as definition
use Rattle.definition.specs.Model.{Model}
use Rattle.definition.specs.Presolve.{presolve}
use Rattle.definition.specs.Refusal.{refusal}
use Rattle.output.specs.Results.{Results}
use Rattle.presolve.specs.declared.Presolved.{Presolved}
use Rattle.presolve.specs.declared.Presolved.TheVariants as variants
use Rattle.presolve.specs.Promise.{Working, lengths, Outcome, Answer, refused, infeasible, presolved, answer_as, answer_is, outcome, results_after, working_after, Promise}
use Rattle.presolve_c.specs.Face.{face_refusal, Told, FacePromise}
use Rattle.presolve_c.specs.Steps.{long_is}
use Rattle.presolve_c.specs.Codes.{Numbered, numbered}

-- each outcome whose refusal is a row of the table is that of an answer
record AnswerFor (o : Outcome) : Type 0 where
  answer : Answer
  is : answer_is answer ≡ o

answer_for : (r : Option ℕ) (a : definition.Answer) → Numbered r → AnswerFor (outcome r a)
unfolding outcome
answer_for (some k) a n = let m = n.is k refl in record { answer = Err m.row; is = ap refused m.is }
answer_for none (definition.infeasible k) n = record { answer = Ok (variants.Infeasible k); is = refl }
answer_for none (definition.done x) n =
    record {
      answer = Ok (variants.Model (record { counts = x.counts; emitted = length x.emitted; terms = length x.terms; kept = length x.kept; flag = x.flag }));
      is = refl;
    }

-- each outcome, whatever its refusal's number, is that of an answer whose refusal is a number
unfoldable pub answer_by : Outcome → Result Presolved ℕ
answer_by (refused k) = Err k
answer_by (infeasible k) = Ok (variants.Infeasible k)
answer_by (presolved k n t q g) = Ok (variants.Model (record { counts = k; emitted = n; terms = t; kept = q; flag = g }))

pub is_answer_by : (o : Outcome) → answer_as (λ k. k) (answer_by o) ≡ o
unfolding answer_by
is_answer_by (refused k) = refl
is_answer_by (infeasible k) = refl
is_answer_by (presolved k n t q g) = refl

-- the call of presolve that a call with the code z and the numbers ans' is: its answer, the promise that it keeps, and that z and ans' tell this answer
pub record IsCall (M : Model) (b : Results) (x : Working) (ans : List ℕ) (z : ℕ) (b' : Results) (x' : Working) (ans' : List ℕ) : Type 0 where
  pub answer : Answer
  pub promise : Promise M b x answer b' x'
  pub told : Told (answer_is answer) ans z ans'

pub face_is_call : {M : Model} {b b' : Results} {x x' : Working} {ans ans' : List ℕ} {z : ℕ} → FacePromise M b x ans z b' x' ans' → 9 ≤ length ans → IsCall M b x ans z b' x' ans'
face_is_call {M} {b} {b'} {x} {x'} {ans} {ans'} {z} p n =
    let r : face_refusal M (lengths b x) (length ans) ≡ refusal M (lengths b x) = long_is M (lengths b x) (length ans) n in
    let a = answer_for (face_refusal M (lengths b x) (length ans)) (presolve M) (numbered M (lengths b x) (length ans)) in
    record {
      answer = a.answer;
      promise =
          record {
            answer = a.is ∙ ap (λ (u : Option ℕ). outcome u (presolve M)) r;
            results = p.results ∙ ap (λ (u : Option ℕ). results_after u (presolve M) b) r;
            working = p.working ∙ ap (λ (u : Option ℕ). working_after u x) r;
          };
      told = subst (λ (u : Outcome). Told u ans z ans') (sym a.is) (record { code = p.code; answer = p.answer });
    }
