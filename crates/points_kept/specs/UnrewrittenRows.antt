-- ROWS THAT ARE NOT REWRITTEN, in every state that presolve reaches and whatever became of the other rows: such a row's terms are the model's terms of that
-- row, the folded ones and zero coefficients apart. A rewrite marks its row as touched, or gives it back as written.
use Prim.Native.Nat.{ℕ, ◌+◌, ◌≤◌, ◌<◌}
use Rattle.std.specs.Prelude.{◌≡◌, ◌⊎◌, true, false, get_or}
use mathlib.Core.List.{List}
use Rattle.std.proofs.Math.ListN.{length}
use Rattle.std.specs.Float.Ieee.{eq}
use Rattle.floats.specs.Num.{0f}
use Rattle.tolerances.specs.Tol.{Term}
use Rattle.definition.specs.Model.{Model, written, Row}
use Rattle.definition.specs.Work.{Work, no_term}
use Rattle.rows_kept.specs.AllRows.{AllRows}
use Rattle.points_kept.specs.Statements.{PureInteger}
use Rattle.points_kept.specs.Terms.{All, TermOk, Distinct}

-- t stands in ts
pub record Among (ts : List Term) (t : Term) : Type 0 where
  pub place : ℕ
  pub inside : place < length ts
  pub is : get_or ts place no_term ≡ t

-- t stands in a row of terms ts, or was folded out of it among fs, or has a zero coefficient
abbrev pub Told : List Term → List Term → Term → Type 0
Told ts fs t = Among ts t ⊎ (Among fs t ⊎ (eq t.coeff 0f ≡ true))

-- the terms ts and the folded terms fs of row r: no term but the model's, each of which is told of
pub record Unrewritten (M : Model) (r : ℕ) (ts fs : List Term) : Type 0 where
  pub terms : All (TermOk (length M.lower)) ts
  pub distinct : Distinct ts
  pub count : length ts ≤ 256
  pub given : All (Among (written M r)) ts
  pub gone : (i : ℕ) → i < length fs → Among (written M r) (get_or fs i no_term)
  pub told : (i : ℕ) → i < length (written M r) → Told ts fs (get_or (written M r) i no_term)

-- of row r, where it is one of the model's and no coefficient of it is rewritten
abbrev pub IfUnrewritten : Model → ℕ → Row → Type 0
IfUnrewritten M r row = r < length M.rhs → row.touched ≡ false → Unrewritten M r row.terms row.folded

-- every row
abbrev pub RowsW : Model → Work → Type 0
RowsW M w = AllRows (IfUnrewritten M) w.rows

-- ---- folding: the place looked at stays within the row
module _ (M : Model) (pure : PureInteger M) (r : ℕ) where
  pub record Looked (n : ℕ) (s : ℕ × Row) : Type 0 where
    pub within : r < length M.rhs → s.0 + n ≤ length s.1.terms
    pub holds : IfUnrewritten M r s.1
