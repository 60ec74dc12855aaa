-- `empty_row_check`: a row whose terms have all left is met by all within the bounds, or by none.
use Rattle.std.specs.Prelude.{ℕ, ◌≡◌, Bool, ℤ, Float}
use mathlib.Core.List.{List, []}
use Rattle.std.proofs.Math.ListN.{length}
use Rattle.tolerances.specs.Tol.{Term, outside, slack_min, slack_max, row_tolerance, trivial_verdict, says_true, implied_slack}
use Rattle.definition.specs.Model.{Model, op_of, rhs_of, written, Row}
use Rattle.definition.specs.Work.{Work}
use Rattle.definition.specs.Singles.{fixed_value}
use Rattle.points_kept.specs.PointSet.{PointSet}
use Rattle.points_kept.specs.Statements.{Within}
use Rattle.points_kept.specs.Invariant.{RowSided, GoodW}
use Rattle.points_kept.specs.WorkingRow.{AtWork}

-- good, with the bounds of w, within which row r is met
pub record Beside (M : Model) (Sought : PointSet) (r : ℕ) (w x : Work) : Type 0 where
  pub good : GoodW M Sought x
  pub met : (y : ℕ → ℤ) → Within (length M.lower) w.elo w.ehi y → RowSided M r y
  pub elo : x.elo ≡ w.elo
  pub ehi : x.ehi ≡ w.ehi

module _ {M : Model} {Sought : PointSet} {w : Work} {r : ℕ} {row : Row} (σ : AtWork M Sought w r row) (e : row.terms ≡ []) where
  abbrev pub B : Float
  B = rhs_of M r

  abbrev pub TS : List Term
  TS = written M r

  -- the two tests of `row_violation`
  abbrev pub triv : Bool
  triv = says_true (trivial_verdict M.feas (op_of M r) (length TS) B)

  abbrev pub out : Bool
  out = outside (implied_slack (fixed_value w) B TS).0 (slack_min (op_of M r)) (slack_max (op_of M r)) (row_tolerance M.feas (implied_slack (fixed_value w) B TS).1)
