-- DUAL FIXING KEEPS A BEST POINT: to lower a variable that no row needs high and no cost wants high breaks no row and makes no point dearer, and so does raising
-- one that no row needs low and no cost wants low. The moved point still meets each row at work, and a row that is gone is met by all within the bounds. The flags
-- are set once for a pass, and fixing leaves the rows, so they serve every variable of the pass, each within the bounds that the last one left.
use Prim.Native.Nat.{ℕ, ◌^◌, ◌<◌}
use Rattle.std.specs.Prelude.{◌≡◌, ◌⊎◌, T, ℤ, get_or, Float}
use Rattle.std.proofs.Math.Bool.{Bool, not}
use mathlib.Core.List.{List}
use Rattle.std.proofs.Math.ListN.{length}
use Rattle.std.specs.Float.Ieee.{le}
use Rattle.floats.specs.Num.{gt, ge, 0f}
use Rattle.floats.specs.Zed.{◌⊑◌}
use Rattle.floats.specs.Points.{int, Bounded}
use Rattle.tolerances.specs.Tol.{Term, at}
use Rattle.definition.specs.Model.{Model, Row}
use Rattle.definition.specs.Work.{Work, no_row}
use Rattle.definition.specs.Dual.{bad_dec, bad_inc, none_bad}
use Rattle.points_kept.specs.Statements.{PureInteger, Within}
use Rattle.points_kept.specs.Invariant.{GoodW}
use Rattle.points_kept.specs.Dominance.{Dominance, At, Dominating}
use Rattle.best_kept.specs.Moved.{moved}

-- a move of v from y's value to a that the objective's sign lets dual fixing make
abbrev pub Allowed : Model → ℕ → ℤ → (ℕ → ℤ) → Type 0
Allowed M v a y = (T (ge (at M.obj v) 0f) × (a ⊑ y v)) ⊎ (T (le (at M.obj v) 0f) × (y v ⊑ a))

-- a dominance that such moves keep: what is moved dominates what it dominated before
abbrev pub Moves : Model → Dominance → Type 0
Moves M D = (v : ℕ) → v < length M.lower → (a : ℤ) (x y : ℕ → ℤ) → Allowed M v a y → D y x → D (moved v a y) x

-- ---- a state's point with v moved to a, within the state's bounds
module _ (M : Model) (pure : PureInteger M) (w : Work) (g : GoodW M (At M w) w) (v : ℕ) (a : ℤ) (y : ℕ → ℤ) (p : At M w y)
    (k : Within (length M.lower) w.elo w.ehi (moved v a y)) where
  abbrev pub rises? : Float → Bool
  rises? c = gt c 0f

  abbrev pub falls? : Float → Bool
  falls? c = not (gt c 0f)

  abbrev pub terms : ℕ → List Term
  terms r = (get_or w.rows r no_row).terms

-- ---- `fix` at a whole number c of the bounds, to which each of the state's points may be moved
module _ (M : Model) (D : Dominance) (moves : Moves M D) (w : Work) (d : Dominating M D w) (v : ℕ) (h : v < length M.lower) (c : Float) (b : Bounded (2 ^ 20) c)
    (low : int (at w.elo v) ⊑ int c) (high : int c ⊑ int (at w.ehi v)) where
  abbrev pub There : (ℕ → ℤ) → Type 0
  There x = At M w x × (x v ≡ int c)

  abbrev pub FixedSo : Work → Type 0
  FixedSo x = GoodW M There x × (x.rows ≡ w.rows)

-- ---- one variable's turn, with the flags of the rows rs
module _ (M : Model) (pure : PureInteger M) (D : Dominance) (moves : Moves M D) (rs : List Row) where
  abbrev pub n : ℕ
  n = length M.lower

  abbrev pub Now : Work → Type 0
  Now w = Dominating M D w × (w.rows ≡ rs)

  abbrev pub dec : List Bool
  dec = bad_dec rs (none_bad n)

  abbrev pub inc : List Bool
  inc = bad_inc rs (none_bad n)
