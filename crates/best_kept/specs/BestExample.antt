-- `best_kept` IS NOT EMPTY: of definition's `rise_then_fall`, least -x + y over x, y from 0 to 5 with x + y ≥ 3, dual fixing leaves one point, in two rounds.
-- x = 0, y = 3 is one of those that vanish; the least objective, -5, is kept.
use Rattle.std.specs.Prelude.{ℕ, ◌-◌, ◌*◌, ℤ, pos}
use Rattle.definition.specs.Model.{Model}
use Rattle.definition.specs.DualCases.{rise_then_fall}

abbrev pub riser : Model
riser = rise_then_fall.model

-- ---- x = 0, y = 3 is a point, and vanishes
abbrev pub lost : ℕ → ℤ
lost v = pos (3 * v)

-- ---- x = 5, y = 0 stays, and has the least objective
abbrev pub stays : ℕ → ℤ
stays v = pos (5 - 5 * v)
