-- A ROW AT WORK in a state of the invariant: what is left of it says what the written row says, its sides and magnitudes are whole, its budgets are tolerances.
use Rattle.std.specs.Prelude.{ℕ, ◌<◌, length}
use Rattle.definition.specs.Model.{Model, Row}
use Rattle.definition.specs.Work.{Work}
use Rattle.points_kept.specs.PointSet.{PointSet}
use Rattle.points_kept.specs.Statements.{PureInteger}
use Rattle.points_kept.specs.Invariant.{RowOk, GoodW}

pub record AtWork (M : Model) (Sought : PointSet) (w : Work) (r : ℕ) (row : Row) : Type 0 where
  pub pure : PureInteger M
  pub good : GoodW M Sought w
  pub range : r < length M.rhs
  pub ok : RowOk M w.elo w.ehi r row
