-- THE BOX of a farm model stays a box of whole numbers, in every state that presolve reaches and whatever became of the rows: after rewrites and dual fixing
-- too. Each variable's working and emitted bounds are whole, equal as numbers, in order, and within the model's own.
use Rattle.std.specs.Prelude.{ℕ, ◌<◌, ◌≡◌, ◌≢◌, List, ℤ, length, Float}
use Rattle.floats.specs.Zed.{◌⊑◌}
use Rattle.floats.specs.Points.{int, Whole}
use Rattle.tolerances.specs.Tol.{at}
use Rattle.definition.specs.Model.{Model}
use Rattle.definition.specs.Work.{Work}
use Rattle.points_kept.specs.Statements.{PureInteger}
use Rattle.points_kept.specs.Invariant.{Interval}

-- a variable's bounds, within lo and hi
pub record Boxed (lo hi : ℤ) (wl wh el eh : Float) : Type 0 where
  pub interval : Interval wl wh el eh
  pub lower : lo ⊑ int el
  pub upper : int eh ⊑ hi

-- ---- a list with one element changed, or none. `Changes` has it of a place within the list; here a place past the end is allowed, where nothing changes
pub record Puts (v : ℕ) (old new : List Float) (x : Float) : Type 0 where
  pub len : length new ≡ length old
  pub here : v < length old → at new v ≡ x
  pub there : (j : ℕ) → j ≢ v → at new j ≡ at old j

module _ (M : Model) where
  abbrev pub BoxedAt : List Float → List Float → List Float → List Float → ℕ → Type 0
  BoxedAt wl wh el eh v = Boxed (int (at M.lower v)) (int (at M.upper v)) (at wl v) (at wh v) (at el v) (at eh v)

  pub record Box (wl wh el eh : List Float) : Type 0 where
    pub wl_length : length wl ≡ length M.lower
    pub wh_length : length wh ≡ length M.lower
    pub el_length : length el ≡ length M.lower
    pub eh_length : length eh ≡ length M.lower
    pub boxed : (v : ℕ) → v < length M.lower → BoxedAt wl wh el eh v

  abbrev pub BoxW : Work → Type 0
  BoxW w = Box w.wlo w.whi w.elo w.ehi

  module _ (pure : PureInteger M) where
    -- ---- fixings, at whole numbers of the model's box
    pub record Spot (v : ℕ) (x : Float) : Type 0 where
      pub whole : Whole x
      pub above : int (at M.lower v) ⊑ int x
      pub below : int x ⊑ int (at M.upper v)
