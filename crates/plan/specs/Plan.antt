-- WHAT IS SAID OF A PLAN, one value for each variable of a model: the first bound that a value passes, variable by variable and lower before upper; else the first value that is no
-- whole number where one is needed; else the first row that is missed; or that all hold. And, whatever is said, the largest excursion over all rows. Added by the port; what it
-- asks of a value and of a row is the Rust's `outside`, `bound_tolerance` and `row_violation`.
use Rattle.std.specs.Prelude.{ℕ, zero, suc, Bool, ◌&&◌, List, length, Float, Option, None, Some}
use Rattle.std.specs.Option.{option_or, unwrap_or}
use Rattle.std.proofs.Math.Option as definition
use Rattle.floats.specs.Num.{choose, 0f, ∞f, -∞f, maxf}
use Rattle.tolerances.specs.Tol.{at, bound_tolerance, outside, violated, violation}
use Rattle.definition.specs.Model.{Model, is_int, op_of, rhs_of, written}
use Rattle.plan.specs.Nearest.{nearest}
use Rattle.plan.specs.declared.Check.{Check}
use Rattle.plan.specs.declared.Verdict.{Verdict}
use Rattle.plan.specs.declared.Verdict.TheVariants.{Lower, Upper, NotWhole, Row, AllHold}

-- what is said first, of the numbers below n
unfoldable pub first : (ℕ → Option Verdict) → ℕ → Option Verdict
first said zero = None
first said (suc n) = option_or (first said n) (said n)

-- the largest of 0 and what there is, of the numbers below n
unfoldable pub larger_of : Float → definition.Option Float → Float
larger_of m definition.none = m
larger_of m (definition.some x) = maxf m x

unfoldable pub largest : (ℕ → definition.Option Float) → ℕ → Float
largest found zero = 0f
largest found (suc n) = larger_of (largest found n) (found n)

module _ (M : Model) (p : List Float) where
  -- ---- a variable's bounds, each by itself: its other side is open, and its tolerance is its own
  unfoldable pub passes_lower : ℕ → Bool
  passes_lower v = outside (at p v) (at M.lower v) ∞f (bound_tolerance M.feas (at M.lower v))

  unfoldable pub passes_upper : ℕ → Bool
  passes_upper v = outside (at p v) -∞f (at M.upper v) (bound_tolerance M.feas (at M.upper v))

  unfoldable pub bound_passed : ℕ → Option Verdict
  bound_passed v = choose (passes_lower v) (Some (Lower v)) (choose (passes_upper v) (Some (Upper v)) None)

  -- ---- a whole number is needed of Integer and Boolean variables, in both modes of Mip
  unfoldable pub not_whole : ℕ → Bool
  not_whole v = is_int M v && outside (at p v) (nearest (at p v)) (nearest (at p v)) M.int_tol

  unfoldable pub whole_missed : ℕ → Option Verdict
  whole_missed v = choose (not_whole v) (Some (NotWhole v)) None

  -- ---- a row
  unfoldable pub misses : ℕ → Bool
  misses r = violated M.feas (op_of M r) (written M r) (rhs_of M r) (at p)

  unfoldable pub row_missed : ℕ → Option Verdict
  row_missed r = choose (misses r) (Some (Row r)) None

  unfoldable pub excursion_at : ℕ → definition.Option Float
  excursion_at r = violation M.feas (op_of M r) (written M r) (rhs_of M r) (at p)

  -- ---- the plan
  unfoldable pub verdict : Verdict
  verdict =
      let vars = length M.lower in
      unwrap_or (option_or (first bound_passed vars) (option_or (first whole_missed vars) (first row_missed (length M.rhs)))) AllHold

  unfoldable pub checked : Check
  checked = record { verdict = verdict; excursion = largest excursion_at (length M.rhs) }
