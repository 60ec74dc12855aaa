-- A POINT WITH ONE VALUE MOVED: what becomes of its bounds, of a sum of terms, and of the objective.
use Rattle.std.specs.Prelude.{ℕ, ◌≡◌, eqb, ℤ, ◌*ℤ◌}
use Rattle.floats.specs.Num.{choose}
use Rattle.floats.specs.Zed.{◌⊑◌}
use Rattle.floats.specs.Points.{int}
use Rattle.tolerances.specs.Tol.{Term}

-- x, but a for variable v
abbrev pub moved : ℕ → ℤ → (ℕ → ℤ) → ℕ → ℤ
moved v a x = λ j. choose (eqb j v) a (x j)

module _ (v : ℕ) (a : ℤ) (x : ℕ → ℤ) where
  -- a sum whose terms of v do not rise, or do not fall
  abbrev pub NoMore : Term → Type 0
  NoMore t = t.var ≡ v → int t.coeff *ℤ a ⊑ int t.coeff *ℤ x v

  abbrev pub NoLess : Term → Type 0
  NoLess t = t.var ≡ v → int t.coeff *ℤ x v ⊑ int t.coeff *ℤ a
