-- The steps of `floor`, as its code takes them: a number is rounded to a whole one by the sum with a shift, which takes it to where a float has no fraction, from 2 ^ 52 on, and lowered by 1 where
-- that went up. Every step is a choice between two values, so that compiled code has no jump. `ToWhole` of the proofs says that they give `floor`.
use Rattle.std.specs.Prelude.{◌≡◌, refl, false, ◌*◌, ◌^◌, Float}
use Rattle.std.specs.Float.{binary64}
use Rattle.std.specs.Float.Ieee.{neg, lt, round, of_bits}
use Rattle.floats.specs.Num.{choose, ◌⊕◌, ◌⊖◌, 0f, 1f}

-- 2 ^ 51, below which in size one shift does for both signs
abbrev pub TWO51 : Float
TWO51 = of_bits binary64 0x4320_0000_0000_0000

pub two51_literal : (TWO51 ≡ round binary64 false 2251799813685248 1) × (TWO51 ≡ round binary64 false (2 ^ 51) 1)
unfolding of_bits round
two51_literal = (refl, refl)

-- that shift, 3 * 2 ^ 51: a sum with it lies from 2 ^ 52 to 2 ^ 53
abbrev pub MIDDLE : Float
MIDDLE = of_bits binary64 0x4338_0000_0000_0000

pub middle_literal : (MIDDLE ≡ round binary64 false 6755399441055744 1) × (MIDDLE ≡ round binary64 false (3 * 2 ^ 51) 1)
unfolding of_bits round
middle_literal = (refl, refl)

-- 2 ^ 52
abbrev pub TWO52 : Float
TWO52 = of_bits binary64 0x4330_0000_0000_0000

pub two52_literal : (TWO52 ≡ round binary64 false 4503599627370496 1) × (TWO52 ≡ round binary64 false (2 ^ 52) 1)
unfolding of_bits round
two52_literal = (refl, refl)

-- 2 ^ 52 with the sign of x, the shift of larger numbers
unfoldable pub shift_of : Float → Float
shift_of x = choose (lt x 0f) (neg TWO52) TWO52

-- the nearest whole number, by the shift c
abbrev pub nearest_of : Float → Float → Float
nearest_of x c = (x ⊕ c) ⊖ c

-- the greatest whole number that is not above x, from one that is less than 1 away: s, or 1 less where it is above x
unfoldable pub lower_of : Float → Float → Float
lower_of x s = choose (lt x s) (s ⊖ 1f) s

-- an x that is not between -2 ^ 52 and 2 ^ 52, or not a number, stays: it has no fraction, and is no zero
unfoldable pub within_of : Float → Float → Float
within_of x r = choose (lt x TWO52) (choose (lt (neg TWO52) x) r x) x
