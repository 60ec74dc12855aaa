-- `forcing_fixings` of src/presolve/work.rs of microlp 0.7.0, and forcing in `primal_wave`, changed: a row whose corner over the emitted box meets
-- its bound fixes all of its variables there, or none.
-- The corner is within round-off of the bound, so every point has each variable at that end of its range; to fix it is exact for an integer variable
-- with no other whole number in the room that the row leaves it beyond that end, the sliver and the row's budget over the coefficient. A term whose
-- whole range is below the sliver and the sum's round-off is not seen by the row, which then forces nothing. The corner may pass the bound by the
-- budget: it is then the best there is.
use Rattle.std.specs.Prelude.{ℕ, Bool, true, not, ◌&&◌, List, [], ◌∷◌, eqb, Float}
use Rattle.std.specs.Float.Ieee.{neg, lt, le}
use Rattle.floats.specs.Num.{choose, ◌⊕◌, ◌⊖◌, ◌⊗◌, ◌⊘◌, gt, 0f, 1f, abs, maxf}
use Rattle.tolerances.specs.Tol.{Term, at, ROUNDOFF_FLOOR}
use Rattle.definition.specs.declared.Activity.{Activity}
use Rattle.definition.specs.Model.{Model, is_int, Row}
use Rattle.definition.specs.Work.{Work, budget}
use Rattle.definition.specs.Bounds.{fix}
use Rattle.definition.specs.Sides.{mag_l, mag_u, near_min, near_max}

-- the extreme of a term towards the corner, in the bounds before any was fixed, w0
unfoldable pub corner : Bool → Work → Term → Float
corner minCorner w0 t = choose (choose (lt t.coeff 0f) minCorner (not minCorner)) (at w0.ehi t.var) (at w0.elo t.var)

module _ (M : Model) where
  -- a term is an integer variable's, seen by the row, and the row leaves the variable no other whole number
  unfoldable pub forced_term : ℕ → Float → Float → Work → Term → Bool
  forced_term r sliver mag w t =
      let a = t.coeff in
      let v = t.var in
      is_int M v
      && gt (abs a ⊗ (at w.ehi v ⊖ at w.elo v)) (maxf sliver 0f ⊕ ROUNDOFF_FLOOR ⊗ mag)
      && lt (maxf (sliver ⊕ budget M r mag) 0f ⊘ abs a) 1f

  unfoldable pub all_forced : ℕ → Float → Float → Work → List Term → Bool
  all_forced r sliver mag w [] = true
  all_forced r sliver mag w (t ∷ ts) = forced_term r sliver mag w t && all_forced r sliver mag w ts

  -- the corner is short of the bound by no more than round-off, or past it by no more than the budget
  unfoldable pub forcing_at : ℕ → Float → Float → Work → List Term → Bool
  forcing_at r sliver mag w ts = le sliver (ROUNDOFF_FLOOR ⊗ mag) && le (neg sliver) (budget M r mag) && all_forced r sliver mag w ts

  -- wact over the working bounds, e over the emitted ones
  unfoldable pub forces_min : ℕ → Row → Activity → Activity → Work → Bool
  forces_min r row wact e w = near_min M r row wact && eqb e.ninf_l 0 && forcing_at r (row.hi ⊖ e.l) (mag_l row e) w row.terms

  unfoldable pub forces_max : ℕ → Row → Activity → Activity → Work → Bool
  forces_max r row wact e w = near_max M r row wact && eqb e.ninf_u 0 && forcing_at r (e.u ⊖ row.lo) (mag_u row e) w row.terms

  unfoldable pub fix_all : Bool → Work → List Term → Work → Work
  fix_all minCorner w0 [] w = w
  fix_all minCorner w0 (t ∷ ts) w = fix_all minCorner w0 ts (fix M t.var (corner minCorner w0 t) w)
