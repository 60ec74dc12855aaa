-- WORKED CASES: small models, a plan for each, and the answer. p is Integer 0 to 10, b Boolean, x Real 0 to 10, and a is any number; feasibility is 1e-6
-- and int_tol 1e-9 where a case does not say otherwise.
use Rattle.std.specs.Prelude.{ℕ, ◌^◌, true, List, [], ◌∷◌, Float}
use Rattle.std.specs.Float.{binary64, nan}
use Rattle.std.specs.Float.Ieee.{round}
use Rattle.floats.specs.Num.{0f, ½f, 1f, ∞f, -∞f}
use Rattle.definition.specs.Model.{Model}
use Rattle.definition.specs.Cases.{#, ratio, bits, Variable, p, ◌·◌, is_eq, is_le, is_ge, model_within, model}
use Rattle.plan.specs.declared.Verdict.{Verdict}
use Rattle.plan.specs.declared.Verdict.TheVariants.{Lower, Upper, NotWhole, Row, AllHold}
use Rattle.plan.specs.Refusal.{Answer, refused, said, plan_answer}

pub record Case : Type 0 where
  pub model : Model
  pub plan : List Float
  pub answer : Answer

abbrev case : Model → List Float → Answer → Case
case m v a = record { model = m; plan = v; answer = a }

-- what is said, and the largest excursion
abbrev says : Verdict → Float → Answer
says v e = said (record { verdict = v; excursion = e })

abbrev b : Variable
b = record { domain = 2; lower = # 0; upper = # 1 }

abbrev real : Float → Float → Variable
real l h = record { domain = 1; lower = l; upper = h }

abbrev x : Variable
x = real (# 0) (# 10)

abbrev a : Variable
a = real -∞f ∞f

-- bounds that cross
abbrev crossed : Variable
crossed = record { domain = 0; lower = # 5; upper = # 3 }

-- a domain that there is not
abbrev unknown : Variable
unknown = record { domain = 3; lower = # 0; upper = # 1 }

abbrev not_bounded : Variable
not_bounded = record { domain = 0; lower = nan; upper = # 1 }

abbrev minus : ℕ → Float
minus n = round binary64 true n 1

abbrev -½f : Float
-½f = bits 0xbfe0_0000_0000_0000

-- the float below a half
abbrev below_half : Float
below_half = bits 0x3fdf_ffff_ffff_ffff

-- one integer variable of any size that is to be whole within t
abbrev whole_within : Float → Model
whole_within t = model_within 0f t 1 (record { domain = 0; lower = -∞f; upper = ∞f } ∷ []) []

-- 2p ≤ 7
abbrev seven : Model
seven = model 1 (p ∷ []) (is_le (2 · 0 ∷ []) (# 7) ∷ [])

unfoldable pub cases : List Case
cases =
    -- all hold
    case seven (# 3 ∷ []) (says AllHold 0f)
    -- a bound; and the excursion of a row beside it
    ∷ case seven (minus 1 ∷ []) (says (Lower 0) 0f)
    ∷ case seven (# 11 ∷ []) (says (Upper 0) (# 15))
    -- variable by variable, and lower before upper
    ∷ case (model 1 (p ∷ p ∷ []) []) (# 11 ∷ minus 1 ∷ []) (says (Upper 0) 0f)
    ∷ case (model 1 (p ∷ p ∷ []) []) (# 1 ∷ # 11 ∷ []) (says (Upper 1) 0f)
    ∷ case (model 1 (crossed ∷ []) []) (# 4 ∷ []) (says (Lower 0) 0f)
    -- bounds before whole numbers, and those before rows
    ∷ case (model 1 (p ∷ p ∷ []) []) (½f ∷ # 11 ∷ []) (says (Upper 1) 0f)
    ∷ case (model 1 (p ∷ p ∷ []) (is_ge (1 · 0 ∷ []) (# 1) ∷ [])) (# 0 ∷ ½f ∷ []) (says (NotWhole 1) 1f)
    -- within a bound's tolerance, and beyond it
    ∷ case (model 1 (x ∷ []) []) (ratio 100000001 (10 ^ 7) ∷ []) (says AllHold 0f)
    ∷ case (model 1 (x ∷ []) []) (ratio 1000001 (10 ^ 5) ∷ []) (says (Upper 0) 0f)
    -- an open bound is not passed, and an infinite right side always met
    ∷ case (model 1 (a ∷ []) (is_le (1 · 0 ∷ []) ∞f ∷ [])) (bits 0x7fef_ffff_ffff_ffff ∷ []) (says AllHold 0f)
    -- no whole number where one is needed: Integer and Boolean, in modes 1 and 2
    ∷ case seven (ratio 5 2 ∷ []) (says (NotWhole 0) 0f)
    ∷ case (model 2 (b ∷ []) []) (½f ∷ []) (says (NotWhole 0) 0f)
    ∷ case (model 0 (p ∷ b ∷ []) []) (ratio 5 2 ∷ ½f ∷ []) (says AllHold 0f)
    ∷ case (model 1 (x ∷ []) []) (ratio 5 2 ∷ []) (says AllHold 0f)
    -- of two whole numbers the lower: 0.5 is above 0 by more than the float below a half, and not below 1 by more; -0.5 the other way round
    ∷ case (whole_within below_half) (½f ∷ []) (says (NotWhole 0) 0f)
    ∷ case (whole_within below_half) (-½f ∷ []) (says AllHold 0f)
    -- -0.49999999999999994 is nearest to 0, and 4503599627370497 to itself
    ∷ case (whole_within below_half) (bits 0xbfdf_ffff_ffff_ffff ∷ []) (says AllHold 0f)
    ∷ case (whole_within 0f) (bits 0x4330_0000_0000_0001 ∷ []) (says AllHold 0f)
    -- by int_tol, not by feasibility
    ∷ case (model_within ½f 0f 1 (p ∷ []) []) (ratio 5 2 ∷ []) (says (NotWhole 0) 0f)
    ∷ case (model_within 0f ½f 1 (p ∷ []) []) (ratio 5 2 ∷ []) (says AllHold 0f)
    -- the first row that is missed, and the largest excursion of all
    ∷ case (model 1 (p ∷ []) (is_le (1 · 0 ∷ []) (# 9) ∷ is_le (1 · 0 ∷ []) (# 2) ∷ is_eq (2 · 0 ∷ []) (# 2) ∷ is_ge (1 · 0 ∷ []) (# 4) ∷ [])) (# 3 ∷ []) (says (Row 1) (# 4))
    -- rows of no term
    ∷ case (model 1 [] (is_le [] (# 1) ∷ is_le [] (minus 1) ∷ [])) [] (says (Row 1) 1f)
    -- a sum that overflows: its excursion is infinite
    ∷ case (model 1 (a ∷ a ∷ []) (is_le (2 · 0 ∷ 2 · 1 ∷ []) 0f ∷ [])) (bits 0x7fef_ffff_ffff_ffff ∷ # 0 ∷ []) (says (Row 0) ∞f)
    -- nothing at all
    ∷ case (model 1 [] []) [] (says AllHold 0f)
    -- 1: another length, before all other rows
    ∷ case seven (# 3 ∷ # 3 ∷ []) (refused 1)
    ∷ case seven [] (refused 1)
    ∷ case (model_within (ratio 51 100) 0f 3 (unknown ∷ []) []) (nan ∷ nan ∷ []) (refused 1)
    -- 7: a value that is not finite; after codes and bounds, before right sides and tolerances
    ∷ case seven (nan ∷ []) (refused 7)
    ∷ case seven (∞f ∷ []) (refused 7)
    ∷ case (model 1 (unknown ∷ []) []) (nan ∷ []) (refused 5)
    ∷ case (model 1 (not_bounded ∷ []) []) (nan ∷ []) (refused 6)
    ∷ case (model 1 (p ∷ []) (is_eq (2 · 0 ∷ []) ∞f ∷ [])) (-∞f ∷ []) (refused 7)
    ∷ case (model_within (ratio 51 100) 0f 1 (p ∷ []) []) (nan ∷ []) (refused 7)
    -- and the model's own
    ∷ case (model 1 (p ∷ []) (is_eq (2 · 0 ∷ []) ∞f ∷ [])) (# 3 ∷ []) (refused 8)
    ∷ case (model_within (ratio 51 100) 0f 1 (p ∷ []) []) (# 3 ∷ []) (refused 9)
    ∷ []

-- the definition's answers, and the table's
unfoldable pub found : List Case → List Answer
found [] = []
found (c ∷ cs) = plan_answer c.model c.plan ∷ found cs

unfoldable pub expected : List Case → List Answer
expected [] = []
expected (c ∷ cs) = c.answer ∷ expected cs
