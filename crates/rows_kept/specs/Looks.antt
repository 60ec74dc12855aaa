-- WHERE AN ACTIVITY IS TAKEN: presolve looks at the activity of a live row as it stands, in a state that is reached, and nowhere else. With any `act` that
-- agrees with the definition's activity on these looks (`WithActivity`) the answer is the same: `only_looks`. So what holds of the activity on every look holds
-- of every activity that has a part in the answer.
use Prim.Native.Nat.{ℕ}
use Rattle.std.specs.Prelude.{◌≡◌}
use Rattle.std.proofs.Math.Bool.{true}
use Rattle.std.proofs.Math.ListN.{get_or}
use Rattle.definition.specs.Model.{Model, Row}
use Rattle.definition.specs.Work.{Work, no_row}
use Rattle.rows_kept.specs.States.{Reaches}

-- a look at a row in a state
pub record Look (M : Model) (w : Work) (row : Row) : Type 0 where
  pub reached : Reaches M w
  pub place : ℕ
  pub stands : get_or w.rows place no_row ≡ row
  pub alive : row.alive ≡ true
