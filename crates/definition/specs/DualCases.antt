-- DUAL FIXING ON FOUR SMALL MODELS, by computing the definition: what lets a variable fall or rise, and what keeps it. x and y are Integer from 0 to 5, the mode is 2.
-- The theorem about them all is best_kept's theorem of that name.
use Rattle.std.specs.Prelude.{◌≡◌, refl, true, false, List, [], ◌∷◌, Float}
use Rattle.std.specs.Float.Ieee.{neg}
use Rattle.definition.specs.Params.{params}
use Rattle.definition.specs.Model.{Model, Reduced, done, counts}
use Rattle.definition.specs.Cases.{#, ratio, -0f, Line, ◌·◌, is_le, is_ge, starts_from, all_terms, vars, coeffs, ops, sides, written_row, Case, case}
use Rattle.definition.specs.Cases.{presolved, answers, writing, everything}
use Rattle.definition.specs.Refusal.{judging}

-- x and y, with an objective and these rows
unfoldable pub priced : Float → Float → List Line → Model
priced ox oy ls =
    record {
      obj = ox ∷ oy ∷ [];
      lower = # 0 ∷ # 0 ∷ [];
      upper = # 5 ∷ # 5 ∷ [];
      domain = 0 ∷ 0 ∷ [];
      starts = starts_from 0 ls;
      index = vars (all_terms ls);
      coeff = coeffs (all_terms ls);
      cmp = ops ls;
      rhs = sides ls;
      mode = 2;
      feas = ratio 1 1000000;
      int_tol = ratio 1 1000000000;
      params = params;
    }

-- least x + 2y, x + y ≤ 7: the row has no lower side, so both fall, in one pass, and the row goes
unfoldable pub both_fall : Case
both_fall =
    case (priced (# 1) (# 2) (is_le (1 · 0 ∷ 1 · 1 ∷ []) (# 7) ∷ []))
    (done (record { counts = counts 1 0 2 0 2; lower = # 0 ∷ # 0 ∷ []; upper = # 0 ∷ # 0 ∷ []; emitted = []; terms = []; kept = 0 ∷ []; flag = true }))

-- least x + 2y, x + y ≥ 3: each is kept from falling by its term
unfoldable pub neither_falls : Case
neither_falls =
    case (priced (# 1) (# 2) (is_ge (1 · 0 ∷ 1 · 1 ∷ []) (# 3) ∷ []))
    (done (record { counts = counts 0 0 0 0 1; lower = # 0 ∷ # 0 ∷ []; upper = # 5 ∷ # 5 ∷ []; emitted = written_row 0 (# 3) 0 2 ∷ []; terms = []; kept = []; flag = false }))

-- least -x + y, x + y ≥ 3: x rises, so the row goes, and in the next round y falls
unfoldable pub five_and_none : Reduced
five_and_none = record { counts = counts 1 0 2 0 3; lower = # 5 ∷ # 0 ∷ []; upper = # 5 ∷ # 0 ∷ []; emitted = []; terms = []; kept = 0 ∷ []; flag = true }

unfoldable pub rise_then_fall : Case
rise_then_fall = case (priced (neg (# 1)) (# 1) (is_ge (1 · 0 ∷ 1 · 1 ∷ []) (# 3) ∷ [])) (done five_and_none)

-- objective -0 for both, no rows: each may go either way, and falls
unfoldable pub either_way : Case
either_way =
    case (priced -0f -0f [])
    (done (record { counts = counts 0 0 2 0 0; lower = # 0 ∷ # 0 ∷ []; upper = # 0 ∷ # 0 ∷ []; emitted = []; terms = []; kept = []; flag = true }))

abbrev pub dual_cases : List Case
dual_cases = both_fall ∷ neither_falls ∷ rise_then_fall ∷ either_way ∷ []

-- each is accepted, and has its answer
pub dual_cases_lem : presolved dual_cases ≡ answers dual_cases
unfolding both_fall neither_falls five_and_none rise_then_fall either_way priced presolved answers writing everything judging
dual_cases_lem = refl
