-- Forcing, by numbers alone.
use Rattle.std.specs.Prelude.{◌≡◌, ℕ, Bool, not, ◌&&◌, List, Float}
use Rattle.std.proofs.Math.Path.{refl}
use Rattle.std.specs.Float.Ieee.{neg, lt, le}
use Rattle.floats.specs.Num.{choose, ◌⊕◌, ◌⊖◌, ◌⊗◌, ◌⊘◌, gt, 0f, 1f, abs, maxf}
use Rattle.tolerances.specs.Tol.{Term, at, ROUNDOFF_FLOOR}
use Rattle.definition.specs.Model.{Model, is_int}
use Rattle.definition.specs.Work.{Work, budget}
use Rattle.definition.specs.Forcing.{corner, forced_term, all_forced, forcing_at}

unfoldable pub corner_of : Bool → Float → Float → Float → Float
corner_of min_corner a elo ehi = choose (choose (lt a 0f) min_corner (not min_corner)) ehi elo

pub corner_of_lem : (min_corner : Bool) (w : Work) (t : Term) → corner_of min_corner t.coeff (at w.elo t.var) (at w.ehi t.var) ≡ corner min_corner w t
unfolding corner_of corner
corner_of_lem min_corner w t = refl

module _ (M : Model) (r : ℕ) where
  unfoldable pub forced_by : Bool → Float → Float → Float → Float → Float → Bool
  forced_by int a elo ehi sliver mag = int && gt (abs a ⊗ (ehi ⊖ elo)) (maxf sliver 0f ⊕ ROUNDOFF_FLOOR ⊗ mag) && lt (maxf (sliver ⊕ budget M r mag) 0f ⊘ abs a) 1f

  pub forced_of : (sliver mag : Float) (w : Work) (t : Term) → forced_by (is_int M t.var) t.coeff (at w.elo t.var) (at w.ehi t.var) sliver mag ≡ forced_term M r sliver mag w t
  unfolding forced_by forced_term
  forced_of sliver mag w t = refl

  unfoldable pub sliver_fits : Float → Float → Bool
  sliver_fits sliver mag = le sliver (ROUNDOFF_FLOOR ⊗ mag) && le (neg sliver) (budget M r mag)

  pub forcing_of : (sliver mag : Float) (w : Work) (ts : List Term) → sliver_fits sliver mag && all_forced M r sliver mag w ts ≡ forcing_at M r sliver mag w ts
  unfolding sliver_fits forcing_at
  forcing_of sliver mag w ts = refl
