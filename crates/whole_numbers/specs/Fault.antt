-- 01's FARM MODEL AS A TEST: the earliest of 01's conditions that a model fails, and the first place where it does, or none. The conditions stand
-- in 01's order. `Exactly` proves that none fails exactly where the model is `WholeNumbers` (points_kept), the hypothesis of the promise about points.
-- `told` asks the objective after them, and is what the code answers.
use Rattle.std.specs.Prelude.{ℕ, zero, suc, ◌+◌, ◌-◌, Bool, not, ◌&&◌, ◌||◌, List, [], ◌∷◌, ◌++◌, eqb, ltb, leb, length, get_or, Float}
use Rattle.std.proofs.Math.Option.{Option, none, some}
use Rattle.std.specs.Float.{binary64}
use Rattle.std.specs.Float.Ieee.{fits, le}
use Rattle.floats.specs.Num.{choose, 0f}
use Rattle.floats.specs.Zed.{A}
use Rattle.floats.specs.Points.{int, is_whole}
use Rattle.tolerances.specs.Tol.{at}
use Rattle.definition.specs.Model.{Model}
use Rattle.points_kept.specs.Statements.{HUNDREDTH}

-- the first of the n numbers from i on that passes a test; i + n where none does
unfoldable pub first : (ℕ → Bool) → ℕ → ℕ → ℕ
first p zero i = i
first p (suc n) i =
    let later = first p n (suc i) in
    choose (p i) i later

-- a finite whole number of magnitude at most k
unfoldable pub whole_within : ℕ → Float → Bool
whole_within k x = is_whole x && leb (A (int x)) k

-- from 0 to 0.01, up to the float nearest to it
unfoldable pub tolerable : Float → Bool
tolerable x = fits binary64 x && (le 0f x && le x HUNDREDTH)

-- ---- the conditions, each as the test that fails it at a place
-- a variable's domain: Integer is 0, Boolean 2
unfoldable pub domain_off : List ℕ → ℕ → Bool
domain_off domain v = not (eqb (get_or domain v 0) 0 || eqb (get_or domain v 0) 2)

-- a variable's bounds
unfoldable pub bounds_off : List Float → List Float → ℕ → Bool
bounds_off lower upper v = not (whole_within 1048576 (at lower v) && whole_within 1048576 (at upper v))

-- a term's coefficient, a row's right side: beyond k, or not whole
unfoldable pub number_off : ℕ → List Float → ℕ → Bool
number_off k xs i = not (whole_within k (at xs i))

-- a row's length, from its start to the next one's
unfoldable pub row_long : List ℕ → ℕ → Bool
row_long starts r = ltb 256 (get_or starts (r + 1) 0 - get_or starts r 0)

-- the tolerances: feasibility is at place 0, int_tol at place 1
unfoldable pub tolerance_off : Float → Float → ℕ → Bool
tolerance_off feas int_tol zero = not (tolerable feas)
tolerance_off feas int_tol (suc i) = not (tolerable int_tol)

-- the mode, at place 0
unfoldable pub mode_off : ℕ → ℕ → Bool
mode_off mode i = not (eqb mode 1 || eqb mode 2)

-- a variable's objective: not whole. Its size is free
unfoldable pub objective_off : List Float → ℕ → Bool
objective_off obj v = not (is_whole (at obj v))

-- a condition: its number, the test that fails it, and at how many places it is asked
pub record Condition : Type 0 where
  pub number : ℕ
  pub fails : ℕ → Bool
  pub places : ℕ

-- 01, 'Farm model', sentence by sentence
module _ (M : Model) where
  abbrev pub domains : Condition
  domains = record { number = 1; fails = domain_off M.domain; places = length M.lower }

  abbrev pub bounds : Condition
  bounds = record { number = 2; fails = bounds_off M.lower M.upper; places = length M.lower }

  abbrev pub coefficients : Condition
  coefficients = record { number = 3; fails = number_off 32768 M.coeff; places = length M.index }

  abbrev pub right_sides : Condition
  right_sides = record { number = 4; fails = number_off 1099511627776 M.rhs; places = length M.rhs }

  abbrev pub lengths : Condition
  lengths = record { number = 5; fails = row_long M.starts; places = length M.rhs }

  abbrev pub tolerances : Condition
  tolerances = record { number = 6; fails = tolerance_off M.feas M.int_tol; places = 2 }

  abbrev pub mode : Condition
  mode = record { number = 7; fails = mode_off M.mode; places = 1 }

unfoldable pub conditions : Model → List Condition
conditions M = domains M ∷ bounds M ∷ coefficients M ∷ right_sides M ∷ lengths M ∷ tolerances M ∷ mode M ∷ []

-- the earliest condition that fails, and its first place
unfoldable pub earliest_fault : List Condition → Option (ℕ × ℕ)
earliest_fault [] = none
earliest_fault (c ∷ cs) =
    let later = earliest_fault cs in
    let i = first c.fails c.places 0 in
    choose (ltb i c.places) (some (c.number, i)) later

unfoldable pub fault : Model → Option (ℕ × ℕ)
fault M = earliest_fault (conditions M)

-- what 02's W13 asks beside the farm model: a whole objective. 01 asks nothing of the objective, so it stands last, and 8 is told of farm models alone
abbrev pub objective : Model → Condition
objective M = record { number = 8; fails = objective_off M.obj; places = length M.lower }

-- the earliest fault of 01's conditions and, where none of them fails, of the objective
unfoldable pub told : Model → Option (ℕ × ℕ)
told M = earliest_fault (conditions M ++ (objective M ∷ []))
