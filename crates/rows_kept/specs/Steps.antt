-- A step keeps a property if each of its ends does: the state that it goes on with, and the one whose counts it stops with.
use Rattle.std.specs.Prelude.{◌≡◌}
use Rattle.definition.specs.declared.Counts.{Counts}
use Rattle.definition.specs.Work.{Work, Step, stop, next}

-- P holds of the state that a step goes on with, or of one whose counts it stops with
pub data Each (P : Work → Type 0) : Step → Type 0 where
  stopped : {k : Counts} (w : Work) → w.counts ≡ k → P w → Each P (stop k)
  went : {w : Work} → P w → Each P (next w)
