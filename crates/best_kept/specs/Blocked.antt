-- WHAT THE FLAGS OF DUAL FIXING SAY: a variable's flag is set by every term of it through which a move could hurt a row. So where it is not set, the variable's coefficients in a
-- row at work are of the sign that lets it move: to fall, positive ones where the row has an upper side, and none that is positive where it has a lower one.
use Rattle.std.specs.Prelude.{ℕ, ◌≡◌, Bool, true, not, List, T, get_or}
use Rattle.floats.specs.Num.{choose, gt, 0f, is_finite}
use Rattle.tolerances.specs.Tol.{Term}
use Rattle.definition.specs.Model.{Row}
use Rattle.definition.specs.Work.{no_row}
use Rattle.points_kept.specs.Terms.{All}

-- no term of v is one that blocks
abbrev pub Free : Bool → Bool → ℕ → List Term → Type 0
Free if_pos if_neg v ts = All (λ t. t.var ≡ v → T (not (choose (gt t.coeff 0f) if_pos if_neg))) ts

-- which says of v's coefficients: none is positive where positive ones block, and all are where the others do
pub record Unblocked (if_pos if_neg : Bool) (v : ℕ) (ts : List Term) : Type 0 where
  pub minus : T if_pos → All (λ t. t.var ≡ v → T (not (gt t.coeff 0f))) ts
  pub plus : T if_neg → All (λ t. t.var ≡ v → T (gt t.coeff 0f)) ts

-- ---- a flag that is not set in the end was not set before, and no term set it
abbrev pub Clear : ℕ → List Bool → Type 0
Clear v bad = T (not (get_or bad v true))

-- of all rows: what row r's sides let v do
abbrev pub Falls : ℕ → List Row → ℕ → Type 0
Falls v rows r = T (get_or rows r no_row).alive → Unblocked (is_finite (get_or rows r no_row).lo) (is_finite (get_or rows r no_row).hi) v (get_or rows r no_row).terms

abbrev pub Rises : ℕ → List Row → ℕ → Type 0
Rises v rows r = T (get_or rows r no_row).alive → Unblocked (is_finite (get_or rows r no_row).hi) (is_finite (get_or rows r no_row).lo) v (get_or rows r no_row).terms
