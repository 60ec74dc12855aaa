-- No coefficient that goes out is a NaN, if none of the model's is: a row's terms are the model's or were put there by a rewrite.
use Rattle.std.specs.Prelude.{ℕ, ◌≡◌, false, Float}
use Rattle.std.specs.Float.Ieee.{is_nan}
use Rattle.tolerances.specs.Tol.{Term}
use Rattle.definition.specs.Model.{Model, Row}
use Rattle.definition.specs.Work.{Work}
use Rattle.definition.specs.Emit.{Out}
use Rattle.rows_kept.specs.Statements.{All, Spans}

abbrev pub IsNumber : Float → Type 0
IsNumber a = is_nan a ≡ false

abbrev pub NumberTerm : Term → Type 0
NumberTerm t = is_nan t.coeff ≡ false

-- ---- rows
pub record TermNumbers (row : Row) : Type 0 where
  pub live : All NumberTerm row.terms
  pub gone : All NumberTerm row.folded

abbrev pub IfNumbers : Model → ℕ → Row → Type 0
IfNumbers M r row = Spans M → All IsNumber M.coeff → TermNumbers row

abbrev pub OutNumbers : Model → ℕ → Work → Out → Type 0
OutNumbers M r w o = Spans M → All IsNumber M.coeff → All NumberTerm o.terms
