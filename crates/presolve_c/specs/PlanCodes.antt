-- A CHECK'S CODE ALONE SAYS WHICH ANSWER IT IS: a refusal's number is from 1 to 99, so 0 is returned exactly where the call is not refused and all hold
-- (`holds_exactly`); and on a model of whole numbers exactly where a whole-number plan is a point (`point_exactly`).
use Rattle.std.specs.Prelude.{ℕ, ◌≡◌, refl, ◌↔◌, List, Float, Result, Ok, Err}
use Rattle.std.proofs.Common.{arith, sym, ap, ◌∙◌}
use Rattle.std.proofs.Math.Option.{Option, none, some, none-ne-some}
use Rattle.definition.specs.Model.{Model}
use Rattle.points_kept.specs.Statements.{WholeNumbers, Point}
use Rattle.refuse.specs.declared.Refusal.{Refusal}
use Rattle.refuse.specs.Number.{number_of}
use Rattle.plan.specs.declared.Check.{Check}
use Rattle.plan.specs.declared.Verdict.{Verdict}
use Rattle.plan.specs.declared.Verdict.TheVariants.{Lower, Upper, NotWhole, Row, AllHold}
use Rattle.plan.specs.Of.{answer_is}
use Rattle.plan.specs.Plan.{verdict, checked}
use Rattle.plan.specs.Refusal.{Answer, refused, said, answered, plan_refusal, plan_answer}
use Rattle.plan_exact.specs.Statements.{WholePlan, numbers}
use Rattle.plan_exact.proofs.Theorem.{call_exact}
use Rattle.presolve_c.specs.Codes.{Numbered, plan_numbered, in_range}
use Rattle.presolve_c.specs.PlanFace.{verdict_code, verdict_place, plan_code, place_after, excursion_after, PlanPromise}

-- ---- by the answer
module _ {M : Model} {p : List Float} {n : ℕ} {e : Float} {y : Result Check Refusal} (t : answer_is y ≡ plan_answer M p) {z : ℕ} where
  pub refused_told : {k : Refusal} → y ≡ Err k → z ≡ number_of k → PlanPromise M p n e z n e
  unfolding plan_code place_after excursion_after
  refused_told {k} f g =
      let a : plan_answer M p ≡ refused (number_of k) = sym t ∙ ap answer_is f in
      record { code = g ∙ sym (ap plan_code a); place = sym (ap (λ (a : Answer). place_after a n) a); excursion = sym (ap (λ (a : Answer). excursion_after a e) a) }

  pub checked_told : {c : Check} {n' : ℕ} → y ≡ Ok c → z ≡ verdict_code c.verdict → n' ≡ verdict_place c.verdict → PlanPromise M p n e z n' c.excursion
  unfolding plan_code place_after excursion_after
  checked_told {c} f g h =
      let a : plan_answer M p ≡ said c = sym t ∙ ap answer_is f in
      record { code = g ∙ sym (ap plan_code a); place = h ∙ sym (ap (λ (a : Answer). place_after a n) a); excursion = sym (ap (λ (a : Answer). excursion_after a e) a) }

-- ---- by the code
none_told : (v : Verdict) → verdict_code v ≡ 0 → v ≡ AllHold
unfolding verdict_code
none_told AllHold e = refl
none_told (Lower v) e = absurd (omega (arith, e))
none_told (Upper v) e = absurd (omega (arith, e))
none_told (NotWhole v) e = absurd (omega (arith, e))
none_told (Row r) e = absurd (omega (arith, e))

told : (r : Option ℕ) (c : Check) → Numbered r → plan_code (answered r c) ≡ 0 → (r ≡ none) × (c.verdict ≡ AllHold)
unfolding plan_code answered
told (some k) c n e = let m = in_range (n.is k refl) in absurd (omega (arith, m, e))
told none c n e = (refl, none_told c.verdict e)

held : (r : Option ℕ) (c : Check) → r ≡ none → c.verdict ≡ AllHold → plan_code (answered r c) ≡ 0
unfolding plan_code answered verdict_code
held (some k) c e f = absurd (none-ne-some k (sym e))
held none c e f = ap verdict_code f

module _ {M : Model} {p : List Float} {n n' z : ℕ} {e e' : Float} (q : PlanPromise M p n e z n' e') where
  pub holds_exactly : (z ≡ 0) ↔ ((plan_refusal M p ≡ none) × (verdict M p ≡ AllHold))
  unfolding plan_answer checked
  holds_exactly = (
    (λ h. told (plan_refusal M p) (checked M p) (plan_numbered M p) (sym q.code ∙ h)),
    (λ h. q.code ∙ held (plan_refusal M p) (checked M p) h.0 h.1),
  )

  pub point_exactly : WholeNumbers M → WholePlan M p → plan_refusal M p ≡ none → (z ≡ 0) ↔ Point M (numbers p)
  point_exactly w whole a =
      let x = call_exact M p w whole a in
      ((λ h. x.0 (holds_exactly.0 h).1), (λ h. holds_exactly.1 (a, x.1 h)))
