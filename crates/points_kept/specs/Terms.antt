-- LISTS OF TERMS: facts of each term, distinct variables, and the least and the greatest that a list comes to over a box.
use Rattle.std.specs.Prelude.{ℕ, ◌^◌, ◌<◌, ◌+◌, ◌≡◌, not, T, ℤ, pos, ◌+ℤ◌, ◌*ℤ◌, length, get_or}
use mathlib.Core.List.{List, [], ◌∷◌}
use Rattle.std.specs.Float.Ieee.{eq, lt}
use Rattle.floats.specs.Zed.{P, A}
use Rattle.floats.specs.Points.{int, Bounded}
use Rattle.floats.specs.Num.{choose, 0f}
use Rattle.tolerances.specs.Tol.{Term}
use Rattle.definition.specs.Work.{no_term}

abbrev pub All : (Term → Type 0) → List Term → Type 0
All P [] = Unit {0}
All P (t ∷ ts) = P t × All P ts

pub record TermOk (n : ℕ) (t : Term) : Type 0 where
  pub coeff : Bounded (2 ^ 15) t.coeff
  pub var : t.var < n

-- no variable stands in two terms
abbrev pub Distinct : List Term → Type 0
Distinct ts = (i j : ℕ) → i < length ts → j < length ts → (get_or ts i no_term).var ≡ (get_or ts j no_term).var → i ≡ j

abbrev pub NonZero : Term → Type 0
NonZero t = T (not (eq t.coeff 0f))

-- ---- the least and the greatest of a list over a box, and the magnitudes there: each variable lies from L to H
module _ (L H : ℕ → ℤ) where
  -- the value that makes a term least, or greatest
  unfoldable pub lowest : Term → ℤ
  lowest t = choose (lt 0f t.coeff) (L t.var) (H t.var)

  unfoldable pub highest : Term → ℤ
  highest t = choose (lt 0f t.coeff) (H t.var) (L t.var)

  abbrev pub least : Term → ℤ
  least t = int t.coeff *ℤ lowest t

  abbrev pub most : Term → ℤ
  most t = int t.coeff *ℤ highest t

  unfoldable pub low : List Term → ℤ
  low [] = pos 0
  low (t ∷ ts) = least t +ℤ low ts

  unfoldable pub high : List Term → ℤ
  high [] = pos 0
  high (t ∷ ts) = most t +ℤ high ts

  unfoldable pub low_mag : List Term → ℕ
  low_mag [] = 0
  low_mag (t ∷ ts) = A (least t) + low_mag ts

  unfoldable pub high_mag : List Term → ℕ
  high_mag [] = 0
  high_mag (t ∷ ts) = A (most t) + high_mag ts
