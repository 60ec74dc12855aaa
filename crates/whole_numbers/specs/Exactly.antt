-- NO CONDITION FAILS EXACTLY WHERE THE MODEL IS 01's FARM MODEL: `whole_exactly`; and nothing is told exactly where, besides, its objective is whole:
-- `told_exactly`. What is told of 1 to 7 is the fault of 01's conditions (`told_fault`); where 8 is told, the model is a farm model (`objective_told`).
-- And a fault that is found is one: its condition fails at its place, nowhere before it, and every condition before it holds: that is the definition's
-- own text (`earliest_fault`, `first`).
use Prim.Native.Nat.{ℕ, ◌<◌}
use Rattle.std.specs.Prelude.{◌≡◌, false}
use Rattle.whole_numbers.specs.Fault.{Condition}

-- a condition holds: its test fails it nowhere
abbrev pub Holds : Condition → Type 0
Holds c = (i : ℕ) → i < c.places → c.fails i ≡ false
