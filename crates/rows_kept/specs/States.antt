-- THE STATES THAT PRESOLVE REACHES, for any model: its start, and what each move makes of a state. A move is the least that the definition does to a state at
-- once: marks, a count, a bound, a fixing, a row changed or dropped. `answer_reached` follows presolve from move to move to its answer, infeasible ones
-- included, so that no state on its way is left out. More is let in than presolve comes to (a bound from any numbers, any row's fold): what holds of every
-- state here holds of more than is asked.
use Prim.Native.Nat.{ℕ}
use Rattle.std.specs.Prelude.{◌≡◌, length, set, Float}
use Rattle.std.proofs.Math.Bool.{Bool, true, false}
use mathlib.Core.List.{List, []}
use Rattle.std.proofs.Math.ListN.{get_or}
use Rattle.tolerances.specs.Tol.{Term}
use Rattle.definition.specs.declared.Counts.{Counts}
use Rattle.definition.specs.Model.{Model, is_int, Row, counts, passed, Answer, infeasible, done}
use Rattle.definition.specs.Work.{Work, with_marks, with_row, with_counts, Step, stop, next, no_row, drop_row}
use Rattle.definition.specs.Folds.{fold_fixed}
use Rattle.definition.specs.Begin.{crossed, bounds, rows_are, round_from, read_from}
use Rattle.definition.specs.Bounds.{fix, tighten_upper, tighten_lower}
use Rattle.definition.specs.Singles.{singleton_int}
use Rattle.definition.specs.Forcing.{corner}
use Rattle.definition.specs.Dual.{dual_var}
use Rattle.definition.specs.Emit.{Out}
use Rattle.rows_kept.specs.Steps.{Each}
use Rattle.rows_kept.specs.Kept.{Changed}
use Rattle.rows_kept.specs.Whole.{begun, reduced}

pub data Reaches (M : Model) : Work → Type 0 where
  -- no bounds cross, as given or as rounded, and no row is false as it stands
  begins : {ls hs : List Float} {rows : List Row} {queue : List ℕ} {dirty : List Bool} {n : ℕ} → crossed M.lower M.upper ≡ false
      → round_from M (length M.lower) 0 (bounds M.lower M.upper) ≡ bounds ls hs → read_from M (length M.rhs) 0 (rows_are [] [] [] 0) ≡ rows_are rows queue dirty n
      → Reaches M (begun ls hs rows queue dirty n)
  marks : {w : Work} (d c : List Bool) (q : List ℕ) → Reaches M w → Reaches M (with_marks d c q w)
  counted : {w : Work} (a b c : ℕ) → Reaches M w → Reaches M (with_counts (counts w.counts.rowsDropped a b c w.counts.passes) w)
  passes : {w : Work} → Reaches M w → Reaches M (with_counts (passed w.counts) w)
  -- an implied bound
  lowers : {w x : Work} (v : ℕ) (q relax : Float) → tighten_upper M v q relax w ≡ next x → Reaches M w → Reaches M x
  raises : {w x : Work} (v : ℕ) (q relax : Float) → tighten_lower M v q relax w ≡ next x → Reaches M w → Reaches M x
  -- the bounds that a row of one term leaves
  singles : {w x : Work} (r : ℕ) (row : Row) (v : ℕ) (a blo bhi : Float) → is_int M v ≡ true → singleton_int M r row v a blo bhi w ≡ next x → Reaches M w → Reaches M x
  -- one fixing of a row that forces: at a bound of the state before the first of them, w0
  forces : {w0 w : Work} (minCorner : Bool) (t : Term) → is_int M t.var ≡ true → Reaches M w0 → Reaches M w → Reaches M (fix M t.var (corner minCorner w0 t) w)
  -- one variable of the dual step
  fixes : {w : Work} (dec inc : List Bool) (v : ℕ) (changed : Bool) → Reaches M w → Reaches M (dual_var M dec inc v w changed).0
  -- a row is folded, or rewritten by the coefficient step; or it leaves
  changes : {w : Work} (r : ℕ) (row : Row) → (get_or w.rows r no_row).alive ≡ true → Changed M r (get_or w.rows r no_row) row → Reaches M w → Reaches M (with_row r row w)
  drops : {w : Work} (r : ℕ) (row : Row) → get_or w.rows r no_row ≡ row → row.alive ≡ true → Reaches M w → Reaches M (drop_row r row w)

-- ---- a property of the four lists of bounds alone, working and emitted, that each move of a bound keeps
abbrev pub OfBounds : (List Float → List Float → List Float → List Float → Type 0) → Work → Type 0
OfBounds P w = P w.wlo w.whi w.elo w.ehi

pub record BoundsKept (M : Model) (P : List Float → List Float → List Float → List Float → Type 0) : Type 0 where
  pub begins : {ls hs : List Float} → crossed M.lower M.upper ≡ false → round_from M (length M.lower) 0 (bounds M.lower M.upper) ≡ bounds ls hs → P ls hs ls hs
  pub lowers : (v : ℕ) (q relax : Float) (w : Work) → OfBounds P w → Each (OfBounds P) (tighten_upper M v q relax w)
  pub raises : (v : ℕ) (q relax : Float) (w : Work) → OfBounds P w → Each (OfBounds P) (tighten_lower M v q relax w)
  pub singles : (r : ℕ) (row : Row) (v : ℕ) (a blo bhi : Float) (w : Work) → OfBounds P w → Each (OfBounds P) (singleton_int M r row v a blo bhi w)
  pub forces : (minCorner : Bool) (w0 w : Work) (t : Term) → OfBounds P w0 → OfBounds P w → OfBounds P (fix M t.var (corner minCorner w0 t) w)
  pub fixes : (dec inc : List Bool) (v : ℕ) (w : Work) (changed : Bool) → OfBounds P w → OfBounds P (dual_var M dec inc v w changed).0

-- ---- a step that moves one bound stops, if it does, with the counts that it was given
pub data Halts (w : Work) : Step → Type 0 where
  halts : Halts w (stop w.counts)
  goes : {x : Work} → Halts w (next x)

module _ (M : Model) where
  abbrev pub On : Step → Type 0
  On = Each (Reaches M)

  -- the state in which a live row has its turn, folded
  abbrev pub at_turn : ℕ → Work → Work
  at_turn r w =
      let w1 = with_marks (set w.dirty r false) w.coeff_dirty w.queue w in
      with_row r (fold_fixed M r w1 (get_or w.rows r no_row)) w1

-- ---- THE ANSWER: infeasible before any state was made, or in a state that is reached, with its counts; or a model, made of a state that is reached
pub data Answered (M : Model) : Answer → Type 0 where
  before : (n : ℕ) → Answered M (infeasible (counts n 0 0 0 0))
  found_infeasible : {k : Counts} (w : Work) → w.counts ≡ k → Reaches M w → Answered M (infeasible k)
  reduced_to : (w : Work) (o : Out) → Reaches M w → Answered M (done (reduced M w o))

module _ (M : Model) where
  abbrev pub I : ℕ → Work → Out → Type 0
  I r w o = Reaches M w
