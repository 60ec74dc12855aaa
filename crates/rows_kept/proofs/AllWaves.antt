-- The walk over waves, the coefficient step and rounds: a property that `Kept` keeps is kept by each, and no more waves are counted than the cap allows.
use Prim.Native.Nat.{ℕ, zero, suc, ◌-◌}
use native.Mathlib.Omega.{arith}
use Rattle.std.proofs.Math.Path.{refl}
use Rattle.definition.specs.Params.{max_waves}
use Rattle.definition.specs.Model.{Model, passed}
use Rattle.definition.specs.Work.{Work, with_counts}
use Rattle.definition.specs.Rounds.{after_waves, rounds}
use Rattle.definition.specs.Choices.{both}
use Rattle.rows_kept.specs.Steps.{Each, went}
use Rattle.rows_kept.proofs.Steps.{then}
use Rattle.rows_kept.specs.Kept.{Kept}
use Rattle.rows_kept.proofs.Waves.{after_kept, passes_kept, waves_kept}
use Rattle.rows_kept.specs.Waves.{Capped, Passes}

module _ (M : Model) {P : Work → Type 0} (K : Kept M P) (pass : (w : Work) → P w → P (with_counts (passed w.counts) w)) where
  pub steps_kept : (w : Work) → Capped M P w → Capped M P (after_waves M w).0
  steps_kept w p =
      let q : Passes P w.counts.passes (after_waves M w).0 = after_kept M (passes_kept w.counts.passes K) w (record { holds = p.holds; passes = refl }) in
      record { holds = q.holds; capped = omega (arith, q.passes, p.capped) }

  pub rounds_kept : (n : ℕ) (w : Work) → Capped M P w → Each (Capped M P) (rounds M n w)
  unfolding rounds
  rounds_kept zero w p = went p
  rounds_kept (suc n) w p =
      then ((waves_kept M K pass) (max_waves M.params - w.counts.passes) w (omega (arith, p.capped)) p.holds) (λ x q. q)
      (λ x q. both (Each (Capped M P)) _ (rounds_kept n _ (steps_kept x q)) (went (steps_kept x q)))
