-- THE FOURTH COUNT, of rewritten coefficients, is the same after any number of waves, and after dual fixing: whatever these do, they rewrite none.
use Prim.Native.Nat.{ℕ}
use Rattle.std.specs.Prelude.{◌≡◌}
use Rattle.definition.specs.declared.Counts.{Counts}
use Rattle.definition.specs.Model.{Model}
use Rattle.definition.specs.Work.{Work, Step, stop, next}

pub record Fourth (n : ℕ) (w : Work) : Type 0 where
  pub is : w.counts.coeffsTightened ≡ n

pub data Counted (n : ℕ) : Step → Type 0 where
  halts : {k : Counts} → k.coeffsTightened ≡ n → Counted n (stop k)
  goes : {w : Work} → Fourth n w → Counted n (next w)

module _ (M : Model) (n : ℕ) where
  abbrev pub E : Step → Type 0
  E = Counted n
