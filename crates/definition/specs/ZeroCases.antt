-- GIVEN BOUNDS OF MINUS ZERO, by computing the definition on one list of variables and no row: in Mip a Real variable keeps its own, and what is rounded becomes plus zero,
-- also where dual fixing then fixes at it; in mode 0 all are kept.
use Rattle.std.specs.Prelude.{ℕ, ◌≡◌, refl, true, false, Bool, List, [], ◌∷◌, Float}
use Rattle.definition.specs.Model.{Answer, done, counts}
use Rattle.definition.specs.Cases.{#, -0f, Variable, model, Case, case, presolved, answers, writing, everything}
use Rattle.definition.specs.Refusal.{judging}

-- a Real from -0 to 10, an Integer from -0 to 10, a Boolean from -0 to -0
unfoldable pub signed : List Variable
signed =
    record { domain = 1; lower = -0f; upper = # 10 }
    ∷ record { domain = 0; lower = -0f; upper = # 10 }
    ∷ record { domain = 2; lower = -0f; upper = -0f }
    ∷ []

-- so many variables fixed, these bounds, and whether something was reduced
abbrev pub bounded : ℕ → List Float → List Float → Bool → Answer
bounded fixed ls hs flag = done (record { counts = counts 0 0 fixed 0 0; lower = ls; upper = hs; emitted = []; terms = []; kept = []; flag = flag })

unfoldable pub zero_cases : List Case
zero_cases =
    -- Mip, dual fixing off and on
    case (model 1 signed []) (bounded 0 (-0f ∷ # 0 ∷ # 0 ∷ []) (# 10 ∷ # 10 ∷ # 0 ∷ []) false)
    ∷ case (model 2 signed []) (bounded 1 (-0f ∷ # 0 ∷ # 0 ∷ []) (# 10 ∷ # 0 ∷ # 0 ∷ []) true)
    -- mode 0: as given
    ∷ case (model 0 signed []) (bounded 0 (-0f ∷ -0f ∷ -0f ∷ []) (# 10 ∷ # 10 ∷ -0f ∷ []) false)
    ∷ []

-- each is accepted, and has its answer
pub zero_cases_lem : presolved zero_cases ≡ answers zero_cases
unfolding signed zero_cases presolved answers writing everything judging
zero_cases_lem = refl
