-- `presolve` from its start: crossed bounds have no point, rounding moves no bound, and rows that are read are in the invariant, for the model's points.
use Prim.Native.Nat.{ℕ, ◌<◌}
use Rattle.std.specs.Prelude.{◌≡◌, List, ℤ, length, get_or, Float}
use Rattle.floats.specs.Zed.{◌⊑◌}
use Rattle.floats.specs.Points.{int, Whole, Is, ◌⊀◌}
use Rattle.tolerances.specs.Tol.{at}
use Rattle.definition.specs.Model.{Model, Row}
use Rattle.definition.specs.Work.{no_row}
use Rattle.definition.specs.Begin.{Bounds, cross, bounds, Rows, false_row, rows_are}
use Rattle.points_kept.specs.Statements.{PureInteger, Point}
use Rattle.points_kept.specs.Invariant.{RowAt, NoPoint}

-- no variable's bounds cross
abbrev pub InOrder : Model → Type 0
InOrder M = (v : ℕ) → v < length M.lower → at M.upper v ⊀ at M.lower v

pub record Ranged (l h : Float) (z : ℤ) : Type 0 where
  pub lo : Whole l
  pub hi : Whole h
  pub above : int l ⊑ z
  pub below : z ⊑ int h

module _ (M : Model) (pure : PureInteger M) where
  -- ---- rounded bounds are the bounds, as numbers
  pub record Rounded (ls hs : List Float) : Type 0 where
    pub lo_length : length ls ≡ length M.lower
    pub hi_length : length hs ≡ length M.lower
    pub lo : (v : ℕ) → v < length M.lower → Is (at ls v) (int (at M.lower v))
    pub hi : (v : ℕ) → v < length M.lower → Is (at hs v) (int (at M.upper v))

  abbrev pub RoundedB : Bounds → Type 0
  RoundedB cross = NoPoint M (Point M)
  RoundedB (bounds ls hs) = Rounded ls hs

  -- ---- the rows read: those before r
  module _ (ls hs : List Float) where
    pub record Read (r : ℕ) (rows : List Row) : Type 0 where
      pub len : length rows ≡ r
      pub row : (j : ℕ) → j < r → RowAt M ls hs j (get_or rows j no_row)

    abbrev pub ReadR : ℕ → Rows → Type 0
    ReadR r (false_row n) = NoPoint M (Point M)
    ReadR r (rows_are rows queue dirty drops) = Read r rows
