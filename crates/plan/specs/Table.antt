-- The plan's table from the model's, as the code has it: what the model's table says, but for the row about lent slices, unless a value that is not finite
-- comes before it.
use Rattle.std.specs.Prelude.{ℕ, Bool, true, ◌||◌, eqb}
use Rattle.std.proofs.Math.Option.{Option, none, some}
use Rattle.floats.specs.Num.{choose}

-- no row up to the model's numbers applies: none does, or one after them, 8, 9 or 10
unfoldable pub numbers_asked : Option ℕ → Bool
numbers_asked none = true
numbers_asked (some k) = eqb k 8 || eqb k 9 || eqb k 10

-- without the row about lent slices, 10, which is the last
unfoldable pub but_space : Option ℕ → Option ℕ
but_space none = none
but_space (some k) = choose (eqb k 10) none (some k)
