-- The first count is the number of rows that are not alive, through every step; so in the end it is the number of rows with no entry.
use Prim.Native.Nat.{ℕ, ◌+◌, ◌<◌}
use Rattle.std.specs.Prelude.{◌≡◌, Bool}
use Rattle.std.proofs.Math.Bool.{true, false, not}
use mathlib.Core.List.{List}
use Rattle.std.proofs.Math.ListN.{length, get_or}
use Rattle.definition.specs.Model.{Model, Row}
use Rattle.definition.specs.Work.{Work, no_row, trivial}
use Rattle.definition.specs.Emit.{Out}
use Rattle.rows_kept.specs.Statements.{count_below, no_entry}
use Rattle.rows_kept.specs.Fates.{Fates}

-- whether row q is not alive
abbrev pub dead : List Row → ℕ → Bool
dead rs q = not (get_or rs q no_row).alive

pub record Counted (M : Model) (w : Work) : Type 0 where
  pub rows : length w.rows ≡ length M.rhs
  pub count : w.counts.rowsDropped ≡ count_below (length M.rhs) (dead w.rows)
  pub trivials : (q : ℕ) → trivial M q ≡ true → (get_or w.rows q no_row).alive ≡ false

module _ (M : Model) where
  -- ---- the start
  pub record Begins (r : ℕ) (rs : List Row) (n : ℕ) : Type 0 where
    pub size : length rs ≡ r
    pub count : n ≡ count_below r (dead rs)
    pub trivials : (q : ℕ) → trivial M q ≡ true → (get_or rs q no_row).alive ≡ false

-- ---- what is out: a row has no entry exactly where it is not alive
pub record Tally (M : Model) (r : ℕ) (w : Work) (o : Out) : Type 0 where
  pub settled : Fates M r o.emitted o.kept
  pub total : length o.emitted + count_below r (no_entry o.emitted) ≡ r
  pub alive : (q : ℕ) → q < r → no_entry o.emitted q ≡ dead w.rows q
