-- The coefficient step meets no zero coefficient, if one wave at least is allowed: the first wave folds every live row, and no rewrite makes a zero.
use Prim.Native.Nat.{ℕ, ◌+◌, ◌-◌, ◌≤◌, ◌<◌}
use Rattle.std.specs.Prelude.{◌≡◌, ◌⊎◌, true, false, get_or}
use mathlib.Core.List.{List}
use Rattle.std.proofs.Math.ListN.{length}
use Rattle.std.specs.Float.Ieee.{eq}
use Rattle.floats.specs.Num.{0f}
use Rattle.definition.specs.declared.Counts.{Counts}
use Rattle.definition.specs.Params.{max_waves}
use Rattle.definition.specs.Model.{Model, Row}
use Rattle.definition.specs.Work.{Work, Step, stop, next, no_row, no_term, has}
use Rattle.definition.specs.Wave.{waves}
use Rattle.definition.specs.Rounds.{after_waves}
use Rattle.rows_kept.specs.AllRows.{AllRows}

-- no live term of the row has a zero coefficient
pub record NonZero (row : Row) : Type 0 where
  pub terms : (j : ℕ) → j < length row.terms → eq (get_or row.terms j no_term).coeff 0f ≡ false

-- ---- folding leaves no zero: those looked at are none
pub record Past (n : ℕ) (s : ℕ × Row) : Type 0 where
  pub enough : length s.1.terms ≤ s.0 + n
  pub nonzero : (j : ℕ) → j < s.0 → j < length s.1.terms → eq (get_or s.1.terms j no_term).coeff 0f ≡ false

-- ---- the live rows that are still to be folded are among rs
abbrev pub Waits : List ℕ → ℕ → Row → Type 0
Waits rs q row = row.alive ≡ true → (has q rs ≡ true) ⊎ NonZero row

abbrev pub Pending : List ℕ → Work → Type 0
Pending rs w = AllRows (Waits rs) w.rows

-- ---- what a step goes on with
pub data Next (P : Work → Type 0) : Step → Type 0 where
  over : {k : Counts} → Next P (stop k)
  on : {w : Work} → P w → Next P (next w)

-- ---- the states that the coefficient step is run on: after the waves of the first round, and of each round after it
pub data Meets (M : Model) (begin : Work) : Work → Type 0 where
  first : {w : Work} → waves M (max_waves M.params - begin.counts.passes) begin ≡ next w → Meets M begin w
  again : {v w : Work} → Meets M begin v → waves M (max_waves M.params - (after_waves M v).0.counts.passes) (after_waves M v).0 ≡ next w → Meets M begin w

-- every live row's terms
pub record NoZero (w : Work) : Type 0 where
  pub rows : (r : ℕ) → (get_or w.rows r no_row).alive ≡ true → NonZero (get_or w.rows r no_row)
