-- THE WHOLE NUMBER NEAREST TO A FLOAT: the one below it or the one above it, whichever is not farther, and of two that are equally far the lower.
-- Which is nearer is asked of the two differences as floats. One of them, the one toward zero, is exact, and both round on their own side of a half, so
-- that no difference that rounds to a half makes a tie of what is none.
use Rattle.std.specs.Prelude.{ℕ, ◌^◌, ◌≤◌, ◌≡◌, ℤ, ◌-ℤ◌, Float}
use Rattle.std.specs.Float.Ieee.{le}
use Rattle.floats.specs.Zed.{A, ◌⊑◌}
use Rattle.floats.specs.Value.{units}
use Rattle.floats.specs.Whole.{sc, Is}
use Rattle.floats.specs.Num.{choose, ◌⊖◌, floor, ceil}

unfoldable pub nearest : Float → Float
nearest x = choose (le (x ⊖ floor x) (ceil x ⊖ x)) (floor x) (ceil x)

-- ---- by value: r is a whole number k, no whole number j is nearer to x, and one that is as near is not below it. A float is `units` of the least
-- positive number, of which one has 2 ^ 1074
abbrev pub distance : Float → ℤ → ℕ
distance x j = A (units x -ℤ sc (2 ^ 1074) j)

pub record NearestOf (x r : Float) : Type 0 where
  pub k : ℤ
  pub is : Is r k
  pub none_nearer : (j : ℤ) → distance x k ≤ distance x j
  pub lower_of_two : (j : ℤ) → distance x j ≡ distance x k → k ⊑ j
