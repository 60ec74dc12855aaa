-- `implied` to `implied_bounds`: the bounds that a row of two terms or more implies keep the invariant.
use Rattle.std.specs.Prelude.{ℕ, ℤ, ◌+ℤ◌, ◌*ℤ◌}
use mathlib.Core.List.{List}
use Rattle.std.proofs.Math.ListN.{length}
use Rattle.floats.specs.Zed.{◌⊑◌}
use Rattle.floats.specs.Points.{int}
use Rattle.tolerances.specs.Tol.{Term}
use Rattle.definition.specs.declared.Activity.{Activity}
use Rattle.definition.specs.Model.{Model, Row}
use Rattle.definition.specs.Work.{Work}
use Rattle.points_kept.specs.PointSet.{PointSet}
use Rattle.points_kept.specs.Statements.{dot, Within}
use Rattle.points_kept.specs.Terms.{TermOk, least, most, low, high, NonZero}
use Rattle.points_kept.specs.Activity.{ActivityOf, L, H}
use Rattle.points_kept.specs.WorkingRow.{AtWork}

-- ---- the rest of a row at a corner: the row without the term t, at most what the row and the term come to
module _ (M : Model) (w : Work) where
  abbrev pub lo₀ : Term → ℤ
  lo₀ t = least (L M w) (H M w) t

  abbrev pub hi₀ : Term → ℤ
  hi₀ t = most (L M w) (H M w) t

  abbrev pub lows : List Term → ℤ
  lows ts = low (L M w) (H M w) ts

  abbrev pub highs : List Term → ℤ
  highs ts = high (L M w) (H M w) ts

  pub record Other (ts : List Term) (t : Term) : Type 0 where
    pub lo : (x : ℕ → ℤ) → Within (length M.lower) w.elo w.ehi x → lows ts +ℤ int t.coeff *ℤ x t.var ⊑ dot x ts +ℤ lo₀ t
    pub hi : (x : ℕ → ℤ) → Within (length M.lower) w.elo w.ehi x → dot x ts +ℤ hi₀ t ⊑ highs ts +ℤ int t.coeff *ℤ x t.var

module _ {M : Model} {Sought : PointSet} {w0 : Work} {r : ℕ} {row : Row} (σ : AtWork M Sought w0 r row) where
  module _ {act : Activity} (a : ActivityOf (L M w0) (H M w0) row.terms act) where
    -- what is known of each term
    abbrev pub Known : Term → Type 0
    Known t = (TermOk (length M.lower) t × NonZero t) × Other M w0 row.terms t
