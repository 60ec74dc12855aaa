-- src/presolve/mod.rs of microlp 0.7.0, changed: the fixpoint of `presolve`.
-- Waves, then in Mip the coefficient and the dual step, which queue the rows that they touch, for at most so many rounds. Every reduction may be left
-- out, so work that is left at a cap is abandoned without harm.
use Rattle.std.specs.Prelude.{ℕ, zero, suc, ◌-◌, Bool, false, ◌||◌, eqb}
use Rattle.floats.specs.Num.{choose}
use Rattle.definition.specs.Params.{max_waves}
use Rattle.definition.specs.Model.{Model, is_mip}
use Rattle.definition.specs.Work.{Work, Step, next, ◌>>=◌}
use Rattle.definition.specs.Wave.{waves}
use Rattle.definition.specs.Tighten.{tighten_binary_coeffs}
use Rattle.definition.specs.Dual.{dual_fix}

module _ (M : Model) where
  -- mode 2 is the Rust's `allow_dual`; 01's "dual fixing off" is mode 1
  unfoldable pub dual_step : Work → Work × Bool
  dual_step w = let d = dual_fix M w in choose (eqb M.mode 2) d (w, false)

  -- the state after both steps, and whether one of them changed something
  unfoldable pub after_waves : Work → Work × Bool
  after_waves w =
      let s = tighten_binary_coeffs M w in
      let d = dual_step s.0 in
      choose (is_mip M) (d.0, s.1 || d.1) (w, false)

  -- at most n rounds more. The waves are capped over all rounds together; both steps run at the cap too, and what is queued then is abandoned
  unfoldable pub rounds : ℕ → Work → Step
  rounds zero w = next w
  rounds (suc n) w =
      waves M (max_waves M.params - w.counts.passes) w >>= λ w1.
      let s = after_waves w1 in
      let again = rounds n s.0 in
      choose s.1 again (next s.0)
