-- A property of each row by its number, over the state: it is enough that the row steps keep it.
use Rattle.std.specs.Prelude.{ℕ, false, List, get_or}
use Rattle.definition.specs.Model.{Model, Row, with_alive}
use Rattle.definition.specs.Work.{no_row}
use Rattle.rows_kept.specs.RowSteps.{RowKept}

-- a row past the end is `no_row`
pub record EachRow (M : Model) (G : ℕ → Type 0) (Q : ℕ → Row → Type 0) : Type 0 where
  pub steps : (r : ℕ) → RowKept M r (G r) (Q r)
  pub leaves : (r : ℕ) (row : Row) → Q r row → Q r (with_alive false row)
  pub past : (r : ℕ) → Q r no_row

abbrev pub AllRows : (ℕ → Row → Type 0) → List Row → Type 0
AllRows Q rs = (q : ℕ) → Q q (get_or rs q no_row)
