-- A MODEL WITH A POINT HAS A LEAST OBJECTIVE: each variable has finitely many whole values within its bounds, and what is a point, and its objective, depend on
-- the model's variables alone. So all of them are tried, one after another, and the best point so far is kept.
use Prim.Native.Nat.{ℕ, ◌<◌}
use Rattle.std.specs.Prelude.{◌≡◌, ℤ}
use Rattle.floats.specs.Zed.{◌⊑◌}
use Rattle.points_kept.specs.PointSet.{PointSet}

-- ---- x and y agree on the first n variables
abbrev pub Same : ℕ → (ℕ → ℤ) → (ℕ → ℤ) → Type 0
Same n x y = (v : ℕ) → v < n → x v ≡ y v

-- ---- the search: over a set that can be decided, of points of n variables that lie between two numbers each
pub record Searchable (n : ℕ) (lo hi : ℕ → ℤ) (Points : PointSet) (value : (ℕ → ℤ) → ℤ) : Type 0 where
  pub decide : (x : ℕ → ℤ) → Dec (Points x)
  pub within : (x : ℕ → ℤ) → Points x → (v : ℕ) → v < n → (lo v ⊑ x v) × (x v ⊑ hi v)
  pub points : (x y : ℕ → ℤ) → Same n x y → Points x → Points y
  pub values : (x y : ℕ → ℤ) → Same n x y → value x ≡ value y

module _ (n : ℕ) (lo hi : ℕ → ℤ) (Points : PointSet) (value : (ℕ → ℤ) → ℤ) (f : Searchable n lo hi Points value) where
  -- a point as good as p, the best so far, and as each point that was tried since
  pub record Best (p : ℕ → ℤ) (Tried : PointSet) : Type 0 where
    pub point : ℕ → ℤ
    pub member : Points point
    pub better : value point ⊑ value p
    pub least : (x : ℕ → ℤ) → Tried x → Points x → value point ⊑ value x
