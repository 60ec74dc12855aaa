-- No Eq row is rewritten: both of its sides stay the same float, so it has no form that the coefficient step takes.
use Rattle.std.specs.Prelude.{ℕ, ◌≡◌, true, false}
use Rattle.std.proofs.Math.Option.{none}
use Rattle.floats.specs.Num.{is_finite}
use Rattle.definition.specs.Model.{Model, op_of, Row, Emit}
use Rattle.definition.specs.Rewrites.{Form, le_form, ge_form, no_form}

pub record EqRow (row : Row) : Type 0 where
  pub sides : row.lo ≡ row.hi
  pub unbound : row.binding ≡ none
  pub untouched : row.touched ≡ false

abbrev pub IfEq : Model → ℕ → Row → Type 0
IfEq M r row = op_of M r ≡ 0 → EqRow row

abbrev pub NotEq : Model → ℕ → Type 0
NotEq M r = op_of M r ≡ 0 → ⊥

abbrev pub HasForm : Form → Type 0
HasForm le_form = Unit {0}
HasForm ge_form = Unit {0}
HasForm no_form = ⊥

abbrev pub NotEqEntry : Model → Emit → Type 0
NotEqEntry M e = e.rewritten ≡ true → (op_of M e.row ≡ 0 → ⊥) × (is_finite e.rhs ≡ true)
