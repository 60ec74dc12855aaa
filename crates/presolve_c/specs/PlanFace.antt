-- WHAT A CHECK OF A PLAN FROM C OR RUST PROMISES: three equations with the definition: what is returned, and what is written.
use Rattle.std.specs.Prelude.{ℕ, ◌≡◌, List, Float}
use Rattle.definition.specs.Model.{Model}
use Rattle.plan.specs.declared.Verdict.{Verdict}
use Rattle.plan.specs.declared.Verdict.TheVariants.{Lower, Upper, NotWhole, Row, AllHold}
use Rattle.plan.specs.Refusal.{Answer, refused, said, plan_answer}

-- the code: 0 all hold, 101 a lower bound, 102 an upper one, 103 a value that is to be whole, 104 a row
unfoldable pub verdict_code : Verdict → ℕ
verdict_code AllHold = 0
verdict_code (Lower v) = 101
verdict_code (Upper v) = 102
verdict_code (NotWhole v) = 103
verdict_code (Row r) = 104

-- its variable or row, 0 where all hold
unfoldable pub verdict_place : Verdict → ℕ
verdict_place AllHold = 0
verdict_place (Lower v) = v
verdict_place (Upper v) = v
verdict_place (NotWhole v) = v
verdict_place (Row r) = r

-- a refusal's number, or a verdict's code
unfoldable pub plan_code : Answer → ℕ
plan_code (refused k) = k
plan_code (said c) = verdict_code c.verdict

-- what is written: nothing of a refusal
unfoldable pub place_after : Answer → ℕ → ℕ
place_after (refused k) old = old
place_after (said c) old = verdict_place c.verdict

unfoldable pub excursion_after : Answer → Float → Float
excursion_after (refused k) old = old
excursion_after (said c) old = c.excursion

-- n and e are the numbers before the call, z its code, n' and e' the numbers after it
pub record PlanPromise (M : Model) (p : List Float) (n : ℕ) (e : Float) (z n' : ℕ) (e' : Float) : Type 0 where
  pub code : z ≡ plan_code (plan_answer M p)
  pub place : n' ≡ place_after (plan_answer M p) n
  pub excursion : e' ≡ excursion_after (plan_answer M p) e
