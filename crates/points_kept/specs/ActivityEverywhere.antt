-- SAVELSBERGH'S ACTIVITY, EVERYWHERE: in every state that presolve reaches on a farm model, in modes 1 and 2, the activity of a row that is not rewritten is
-- the exact smallest and largest value of the row over the box, with both infinite counts 0: `activity_exact`. Other rows may have been rewritten or given back
-- by then, and variables dually fixed. No point has to be kept for it, so it holds where `Invariant` ends.
use Rattle.std.specs.Prelude.{ℕ, ◌<◌, ◌≡◌, length}
use Rattle.floats.specs.Zed.{◌⊑◌}
use Rattle.floats.specs.Points.{int, Bounded}
use Rattle.tolerances.specs.Tol.{at}
use Rattle.definition.specs.Model.{Model, Reduced}
use Rattle.definition.specs.Work.{Work}

-- ---- a row past the end has no terms
abbrev pub AsMany : Model → Work → Type 0
AsMany M w = length w.rows ≡ length M.rhs

-- ---- AND EVERY ANSWER'S BOUNDS are whole numbers of the model's box, in order, in modes 1 and 2, with coefficients rewritten or not
pub record WholeBounds (M : Model) (R : Reduced) : Type 0 where
  pub lowers : length R.lower ≡ length M.lower
  pub uppers : length R.upper ≡ length M.lower
  pub lower : (v : ℕ) → v < length M.lower → Bounded 1048576 (at R.lower v)
  pub upper : (v : ℕ) → v < length M.lower → Bounded 1048576 (at R.upper v)
  pub above : (v : ℕ) → v < length M.lower → int (at M.lower v) ⊑ int (at R.lower v)
  pub ordered : (v : ℕ) → v < length M.lower → int (at R.lower v) ⊑ int (at R.upper v)
  pub below : (v : ℕ) → v < length M.lower → int (at R.upper v) ⊑ int (at M.upper v)
