-- A variable that is no integer variable keeps its given bounds, through every step, equal as floats; and both lists keep their lengths.
use Rattle.std.specs.Prelude.{ℕ, ◌≡◌, false, List, length, Float}
use Rattle.tolerances.specs.Tol.{at}
use Rattle.definition.specs.Model.{Model, is_int}
use Rattle.definition.specs.Work.{Work}

-- a list of bounds beside the given one
pub record Keeps (M : Model) (given : List Float) (now : List Float) : Type 0 where
  pub size : length now ≡ length given
  pub same : (v : ℕ) → is_int M v ≡ false → at now v ≡ at given v

pub record Given (M : Model) (w : Work) : Type 0 where
  pub lower : Keeps M M.lower w.elo
  pub upper : Keeps M M.upper w.ehi
