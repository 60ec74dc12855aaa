-- THE TABLE OF REFUSALS FOR A PLAN: the model's rows in their order, where two ask of the plan too: its length with the other lengths, and that its values
-- are finite with the other numbers. Nothing is lent, so the row about lent slices is not among them.
use Rattle.std.specs.Prelude.{ℕ, Bool, not, ◌||◌, List, [], ◌∷◌, eqb, length, Float}
use Rattle.std.proofs.Math.Option.{Option, none, some}
use Rattle.floats.specs.Num.{is_finite}
use Rattle.tolerances.specs.Tol.{at}
use Rattle.definition.specs.Model.{Model}
use Rattle.definition.specs.Refusal.{vars, lengths_disagree, too_large, starts_wrong, indices_wrong, rows_long, codes_wrong, bounds_wrong, numbers_wrong}
use Rattle.definition.specs.Refusal.{some_below, rhses_wrong, tolerances_wrong, earliest}
use Rattle.plan.specs.declared.Check.{Check}
use Rattle.plan.specs.Plan.{checked}

module _ (M : Model) (p : List Float) where
  -- 1: a plan of another length
  unfoldable pub length_wrong : Bool
  length_wrong = not (eqb (length p) (vars M))

  -- 7: a value that is not finite
  unfoldable pub value_wrong : ℕ → Bool
  value_wrong v = not (is_finite (at p v))

  unfoldable pub values_wrong : Bool
  values_wrong = some_below value_wrong (vars M)

  abbrev pub plan_table : List (ℕ × Bool)
  plan_table =
      (1, lengths_disagree M || length_wrong) ∷ (2, too_large M) ∷ (3, starts_wrong M) ∷ (4, indices_wrong M) ∷ (18, rows_long M) ∷ (5, codes_wrong M)
      ∷ (6, bounds_wrong M) ∷ (7, numbers_wrong M || values_wrong) ∷ (8, rhses_wrong M) ∷ (9, tolerances_wrong M) ∷ []

  unfoldable pub plan_refusal : Option ℕ
  plan_refusal = earliest plan_table

-- ---- what a call answers: a refusal's number, or what is said of the plan
pub data Answer : Type 0 where
  refused : ℕ → Answer
  said : Check → Answer

unfoldable pub answered : Option ℕ → Check → Answer
answered none c = said c
answered (some k) c = refused k

unfoldable pub plan_answer : Model → List Float → Answer
plan_answer M p = answered (plan_refusal M p) (checked M p)
