-- A ROW'S SUM IS EXACT, whatever its length: parts that are whole numbers of a known size add up to the exact total, each addition rounding once and none of them changing anything,
-- as long as the sizes together stay within 2 ^ 53. The parts may be products of coefficients and values, or their magnitudes. A row's activity is such a sum.
use Rattle.std.specs.Prelude.{ℕ, ◌≤◌, List, [], ◌∷◌, ℤ, pos, ◌+ℤ◌, Float}
use Rattle.floats.specs.Zed.{A}
use Rattle.floats.specs.Points.{Is}
use Rattle.floats.specs.Num.{choose, ◌⊕◌, is_finite}

-- ---- the sum, from s on: of floats, each addition rounding once, and of whole numbers
unfoldable pub sum_from : {B : Type 0} → (B → Float) → Float → List B → Float
sum_from part s [] = s
sum_from part s (t ∷ ts) = sum_from part (s ⊕ part t) ts

unfoldable pub total_from : {B : Type 0} → (B → ℤ) → ℤ → List B → ℤ
total_from whole z [] = z
total_from whole z (t ∷ ts) = total_from whole (z +ℤ whole t) ts

-- the total with no start
unfoldable pub total : {B : Type 0} → (B → ℤ) → List B → ℤ
total whole [] = pos 0
total whole (t ∷ ts) = whole t +ℤ total whole ts

-- every term of a row
abbrev pub Each : {B : Type 0} → (B → Type 0) → List B → Type 0
Each Q [] = Unit {0}
Each Q (t ∷ ts) = Q t × Each Q ts

-- ---- x is the whole number z, of a size of at most k
pub record Part (k : ℕ) (x : Float) (z : ℤ) : Type 0 where
  pub is : Is x z
  pub small : A z ≤ k

-- ---- a sum that leaves out what is not finite leaves out nothing here
unfoldable pub sum_finite : {B : Type 0} → (B → Float) → Float → List B → Float
sum_finite part s [] = s
sum_finite part s (t ∷ ts) = sum_finite part (choose (is_finite (part t)) (s ⊕ part t) s) ts
