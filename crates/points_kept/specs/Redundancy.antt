-- `redundant`: a row whose corners over the emitted box reach its sides, with slack and margin, is met by all that lies within the bounds. The margin is any that is 0 or more.
use Rattle.std.specs.Prelude.{ℕ, pos, Float}
use Rattle.floats.specs.Zed.{◌⊏◌}
use Rattle.floats.specs.Points.{int, Whole}
use Rattle.definition.specs.declared.Activity.{Activity}
use Rattle.definition.specs.Model.{Model, Row}
use Rattle.definition.specs.Work.{Work}
use Rattle.points_kept.specs.PointSet.{PointSet}
use Rattle.points_kept.specs.Activity.{ActivityOf, L, H}
use Rattle.points_kept.specs.WorkingRow.{AtWork}

module _ {M : Model} {Sought : PointSet} {w : Work} {r : ℕ} {row : Row} (σ : AtWork M Sought w r row) {e : Activity} (a : ActivityOf (L M w) (H M w) row.terms e) where
  -- the magnitude, or 1 where that is more
  abbrev pub Positive : Float → Type 0
  Positive x = Whole x × (pos 0 ⊏ int x)
