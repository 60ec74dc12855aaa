-- The walk over what changes bounds: marks, fixings, tightened bounds, implied bounds. A property that `Bounding` keeps is kept by each.
use Rattle.std.specs.Prelude.{◌≡◌, Float}
use Rattle.std.proofs.Math.Bool.{true}
use mathlib.Core.List.{List, [], ◌∷◌}
use Rattle.tolerances.specs.Tol.{Term}
use Rattle.definition.specs.Model.{Model, is_int}
use Rattle.definition.specs.Work.{Work}

-- the emitted bounds are not touched by marks
pub record Box (P : Work → Type 0) (l h : List Float) (w : Work) : Type 0 where
  pub holds : P w
  pub lower : w.elo ≡ l
  pub upper : w.ehi ≡ h

-- ---- a row that forces has integer variables alone
pub data Ints (M : Model) : List Term → Type 0 where
  no_term : Ints M []
  int_term : {t : Term} {ts : List Term} → is_int M t.var ≡ true → Ints M ts → Ints M (t ∷ ts)
