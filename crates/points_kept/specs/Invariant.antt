-- THE INVARIANT of the work on a model of whole numbers: bounds are whole and in order, none of the points sought is lost, each row at work says what the written
-- row says, and each dropped one is met within the bounds.
use Rattle.std.specs.Prelude.{ℕ, ◌+◌, ◌*◌, ◌^◌, ◌≤◌, ◌<◌, ◌≡◌, Bool, false, not, ◌&&◌, List, eqb, ℤ, pos, ◌+ℤ◌, get_or, Float}
use Rattle.std.proofs.Math.Option.{none}
use Rattle.std.proofs.Math.Dec.{T}
use Rattle.std.proofs.Math.ListN.{length}
use Rattle.std.specs.Float.Ieee.{eq}
use Rattle.floats.specs.Num.{is_finite, ∞f, -∞f}
use Rattle.floats.specs.Zed.{A, ◌⊑◌}
use Rattle.floats.specs.Points.{int, Whole, Bounded, Is}
use Rattle.tolerances.specs.Tol.{at}
use Rattle.definition.specs.declared.Counts.{Counts}
use Rattle.definition.specs.Model.{Model, written, op_of, rhs_of, Row}
use Rattle.definition.specs.Work.{Work, Step, stop, next, no_row}
use Rattle.points_kept.specs.PointSet.{PointSet}
use Rattle.points_kept.specs.Statements.{dot, Within}
use Rattle.points_kept.specs.Terms.{All, TermOk, Distinct}

-- ---- bounds at work: whole, of a size, in order, the working ones the emitted ones as numbers
pub record Interval (wl wh el eh : Float) : Type 0 where
  pub lo : Bounded (2 ^ 20) el
  pub hi : Bounded (2 ^ 20) eh
  pub wlo : Is wl (int el)
  pub whi : Is wh (int eh)
  pub order : int el ⊑ int eh

abbrev pub IntervalAt : List Float → List Float → List Float → List Float → ℕ → Type 0
IntervalAt wl wh el eh v = Interval (at wl v) (at wh v) (at el v) (at eh v)

-- narrower bounds
pub record Narrow (el eh el' eh' : Float) : Type 0 where
  pub lo : int el ⊑ int el'
  pub hi : int eh' ⊑ int eh

abbrev pub Narrower : List Float → List Float → List Float → List Float → ℕ → Type 0
Narrower el eh el' eh' v = Narrow (at el v) (at eh v) (at el' v) (at eh' v)

abbrev pub Fixed : List Float → List Float → ℕ → Type 0
Fixed el eh v = T (eq (at el v) (at eh v) && is_finite (at el v))

-- x has the value of each fixed variable
abbrev pub Agrees : List Float → List Float → (ℕ → ℤ) → Type 0
Agrees el eh x = (v : ℕ) → Fixed el eh v → x v ≡ int (at el v)

-- one side of a row: b where the comparison has it, and open where not
pub record Side (free? : Bool) (e x : Float) (b : ℤ) : Type 0 where
  pub free : T free? → x ≡ e
  pub shut : T (not free?) → Is x b

-- ---- a row's two sides: Eq has both, Le the upper, Ge the lower
pub record Sided (op : ℕ) (s b : ℤ) : Type 0 where
  pub below : T (not (eqb op 2)) → s ⊑ b
  pub above : T (not (eqb op 1)) → b ⊑ s

abbrev pub RowSided : Model → ℕ → (ℕ → ℤ) → Type 0
RowSided M r x = Sided (op_of M r) (dot x (written M r)) (int (rhs_of M r))

module _ (M : Model) where
  -- a row that is alive: for every x that agrees with the fixed variables, what is left of the row says what the written row says.
  -- f terms have been folded
  pub record RowOk (el eh : List Float) (r : ℕ) (row : Row) : Type 0 where
    pub b : ℤ
    pub f : ℕ
    pub terms : All (TermOk (length M.lower)) row.terms
    pub distinct : Distinct row.terms
    pub count : length row.terms + f ≤ 256
    pub lo : Side (eqb (op_of M r) 1) -∞f row.lo b
    pub hi : Side (eqb (op_of M r) 2) ∞f row.hi b
    pub b_small : A b ≤ 2 ^ 40 + f * 2 ^ 35
    pub scale : Whole row.fold_scale
    pub scale_pos : pos 0 ⊑ int row.fold_scale
    pub scale_small : A (int row.fold_scale) ≤ f * 2 ^ 35
    pub shift : Whole row.shift
    pub shift_small : A (int row.shift) ≤ f * 2 ^ 35
    pub total : b +ℤ int row.shift ≡ int (rhs_of M r)
    pub same : (x : ℕ → ℤ) → Agrees el eh x → dot x (written M r) +ℤ b ≡ dot x row.terms +ℤ int (rhs_of M r)
    pub binding : row.binding ≡ none
    pub touched : row.touched ≡ false

  pub record RowAt (el eh : List Float) (r : ℕ) (row : Row) : Type 0 where
    pub alive : T row.alive → RowOk el eh r row
    pub dead : T (not row.alive) → (x : ℕ → ℤ) → Within (length M.lower) el eh x → RowSided M r x

  -- for a set of points sought: the model's, or a state's own
  pub record Good (Sought : PointSet) (wl wh el eh : List Float) (rows : List Row) : Type 0 where
    pub wl_length : length wl ≡ length M.lower
    pub wh_length : length wh ≡ length M.lower
    pub el_length : length el ≡ length M.lower
    pub eh_length : length eh ≡ length M.lower
    pub rows_length : length rows ≡ length M.rhs
    pub interval : (v : ℕ) → v < length M.lower → IntervalAt wl wh el eh v
    pub keeps : (x : ℕ → ℤ) → Sought x → Within (length M.lower) el eh x
    pub asks : (x : ℕ → ℤ) → Sought x → (r : ℕ) → r < length M.rhs → RowSided M r x
    pub shrinks : (x : ℕ → ℤ) → Within (length M.lower) el eh x → Within (length M.lower) M.lower M.upper x
    pub row : (r : ℕ) → r < length M.rhs → RowAt el eh r (get_or rows r no_row)

  abbrev pub GoodW : PointSet → Work → Type 0
  GoodW Sought w = Good Sought w.wlo w.whi w.elo w.ehi w.rows

  abbrev pub NoPoint : PointSet → Type 0
  NoPoint Sought = (x : ℕ → ℤ) → Sought x → ⊥

  pub data Each (Sought : PointSet) (Q : Work → Type 0) : Step → Type 0 where
    stopped : {k : Counts} → NoPoint Sought → Each Sought Q (stop k)
    went : {w : Work} → Q w → Each Sought Q (next w)

  abbrev pub Intervals : List Float → List Float → List Float → List Float → Type 0
  Intervals wl wh el eh = (v : ℕ) → v < length M.lower → IntervalAt wl wh el eh v
