-- `fold_fixed`: what is left of a row after its fixed variables and zero coefficients have left says what the row says, and has no zero coefficient.
use Prim.Native.Nat.{ℕ, ◌+◌, ◌-◌, ◌<◌}
use Rattle.std.specs.Prelude.{◌≡◌, ◌≢◌, List, ℤ, ◌*ℤ◌}
use Rattle.std.proofs.Math.ListN.{length, get_or}
use Rattle.floats.specs.Points.{int}
use Rattle.tolerances.specs.Tol.{Term}
use Rattle.definition.specs.Model.{Model, Row}
use Rattle.definition.specs.Work.{Work, no_term}
use Rattle.definition.specs.Folds.{swap_remove}
use Rattle.points_kept.specs.PointSet.{PointSet}
use Rattle.points_kept.specs.Terms.{All, NonZero}
use Rattle.points_kept.specs.Invariant.{RowOk, GoodW}

-- ---- `swap_remove`
module _ (ts : List Term) (i : ℕ) (h : i < length ts) where
  -- each element comes from a place of the list before, and from another than i
  pub record Source (j : ℕ) : Type 0 where
    pub k : ℕ
    pub in_range : k < length ts
    pub other : k ≢ i
    pub here : (j ≡ i → k ≡ length ts - 1)
    pub there : (j ≢ i → k ≡ j)
    pub is : get_or (swap_remove ts i) j no_term ≡ get_or ts k no_term

-- ---- sums
abbrev pub tv : (ℕ → ℤ) → Term → ℤ
tv x t = int t.coeff *ℤ x t.var

module _ (M : Model) {Sought : PointSet} (w : Work) (g : GoodW M Sought w) (r : ℕ) where
  -- ---- the loop: the first i terms have been looked at and stay, n have not
  pub record Folding (row0 : Row) (n : ℕ) (s : ℕ × Row) : Type 0 where
    pub ok : RowOk M w.elo w.ehi r s.1
    pub left : s.0 + n ≡ length s.1.terms
    pub stay : (j : ℕ) → j < s.0 → NonZero (get_or s.1.terms j no_term)
    pub alive : s.1.alive ≡ row0.alive

  pub record Folded (row0 row : Row) : Type 0 where
    pub ok : RowOk M w.elo w.ehi r row
    pub nonzero : All NonZero row.terms
    pub alive : row.alive ≡ row0.alive
