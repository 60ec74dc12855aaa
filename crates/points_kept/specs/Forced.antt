-- `forces_min`, `forces_max`, `fix_all`: a row whose corner is its side has its points at that corner alone; its variables are fixed there, and the row is dropped.
use Rattle.std.specs.Prelude.{ℕ, ◌≡◌, Bool, ℤ, pos, ◌+ℤ◌, ◌*ℤ◌, length, set, Float}
use mathlib.Core.List.{List, [], ◌∷◌}
use Rattle.floats.specs.Points.{int}
use Rattle.tolerances.specs.Tol.{Term, at}
use Rattle.definition.specs.declared.Activity.{Activity}
use Rattle.definition.specs.Model.{Model, Row}
use Rattle.definition.specs.Work.{Work}
use Rattle.definition.specs.Forcing.{corner}
use Rattle.points_kept.specs.PointSet.{PointSet}
use Rattle.points_kept.specs.Statements.{Within}
use Rattle.points_kept.specs.Terms.{All, TermOk, NonZero}
use Rattle.points_kept.specs.Invariant.{GoodW}
use Rattle.points_kept.specs.Changes.{From, Nars}
use Rattle.points_kept.specs.Activity.{ActivityOf, L, H}
use Rattle.points_kept.specs.WorkingRow.{AtWork}
use Rattle.points_kept.specs.ImpliedBounds.{Other}

-- mc: the corner where the row is least, else where it is greatest
abbrev pub AtCorner : Bool → Work → (ℕ → ℤ) → Term → Type 0
AtCorner mc w0 x t = x t.var ≡ int (corner mc w0 t)

unfoldable pub corner_sum : Bool → Work → List Term → ℤ
corner_sum mc w0 [] = pos 0
corner_sum mc w0 (t ∷ ts) = int t.coeff *ℤ int (corner mc w0 t) +ℤ corner_sum mc w0 ts

module _ (M : Model) {Sought : PointSet} (w0 : Work) (g0 : GoodW M Sought w0) where
  -- the variable of t has the bounds that it had in w0
  abbrev pub Kept : Work → Term → Type 0
  Kept w t = (int (at w.elo t.var) ≡ L M w0 t.var) × (int (at w.ehi t.var) ≡ H M w0 t.var)

  pub record FixedAt (w : Work) (v : ℕ) (c : Float) (x : Work) : Type 0 where
    pub from : From M Sought w0 x
    pub nars : Nars M w x
    pub elo : x.elo ≡ set w.elo v c
    pub ehi : x.ehi ≡ set w.ehi v c

  pub record AllFixed (mc : Bool) (w : Work) (ts : List Term) (x : Work) : Type 0 where
    pub from : From M Sought w0 x
    pub nars : Nars M w x
    pub at_corner : (y : ℕ → ℤ) → Within (length M.lower) x.elo x.ehi y → All (AtCorner mc w0 y) ts

module _ {M : Model} {Sought : PointSet} {w0 : Work} {r : ℕ} {row : Row} (σ : AtWork M Sought w0 r row) (nz : All NonZero row.terms) {e : Activity}
    (a : ActivityOf (L M w0) (H M w0) row.terms e) where
  abbrev pub TS : List Term
  TS = row.terms

  -- what is known of each term
  abbrev pub Known : Term → Type 0
  Known t = (TermOk (length M.lower) t × NonZero t) × Other M w0 TS t
