-- What a property of the state has to be kept by, so that it is kept by every step of presolve: marks and counts, bounds, changed rows, dropped rows.
-- `Boxes` and `Waves` have the walk over the steps, once for all properties.
use Rattle.std.specs.Prelude.{ℕ, ◌≡◌, Bool, true, false, List, get_or, set, Float}
use Rattle.std.specs.Float.Ieee.{is_nan}
use Rattle.tolerances.specs.Tol.{at}
use Rattle.definition.specs.Model.{Model, is_int, Row, counts}
use Rattle.definition.specs.Work.{Work, with_bounds, with_marks, with_row, with_counts, no_row, drop_row}
use Rattle.definition.specs.Folds.{fold_fixed}
use Rattle.definition.specs.Rewrites.{Form, le_form, ge_form, form_of}
use Rattle.definition.specs.Tighten.{Rewriting, rewrite_loop}

-- requeueing, and the counts that are only counted
pub record Marking (P : Work → Type 0) : Type 0 where
  pub marks : (w : Work) (d c : List Bool) (q : List ℕ) → P w → P (with_marks d c q w)
  pub counted : (w : Work) (a b c : ℕ) → P w → P (with_counts (counts w.counts.rowsDropped a b c w.counts.passes) w)

-- an emitted bound of v: a number, if a bound of v in a state with the property is one
pub data Value (P : Work → Type 0) (v : ℕ) : Float → Type 0 where
  of_lower : {x : Float} (w : Work) → P w → (is_nan (at w.elo v) ≡ false → is_nan x ≡ false) → Value P v x
  of_upper : {x : Float} (w : Work) → P w → (is_nan (at w.ehi v) ≡ false → is_nan x ≡ false) → Value P v x

-- only an integer variable's emitted bounds are written; the working ones are free
pub record Bounding (M : Model) (P : Work → Type 0) : Type 0 where
  pub marking : Marking P
  pub works : (w : Work) (a b : List Float) → P w → P (with_bounds a b w.elo w.ehi w)
  pub lowers : (w : Work) (v : ℕ) (x : Float) → is_int M v ≡ true → Value P v x → P w → P (with_bounds w.wlo w.whi (set w.elo v x) w.ehi w)
  pub uppers : (w : Work) (v : ℕ) (x : Float) → is_int M v ≡ true → Value P v x → P w → P (with_bounds w.wlo w.whi w.elo (set w.ehi v x) w)

-- a form with one finite side
pub data Sided : Form → Type 0 where
  le : Sided le_form
  ge : Sided ge_form

-- what row r becomes while it is at work: folded, or rewritten by the coefficient step
pub data Changed (M : Model) (r : ℕ) (row : Row) : Row → Type 0 where
  folded : (w : Work) → Changed M r row (fold_fixed M r w row)
  tightened : {f : Form} → form_of row ≡ f → Sided f → (n i : ℕ) (nz : Float) (s : Rewriting) → s.row ≡ row → Changed M r row (rewrite_loop M n f nz r i s).row

-- only a live row is changed or dropped
pub record Rowing (M : Model) (P : Work → Type 0) : Type 0 where
  pub changes : (w : Work) (r : ℕ) (row : Row) → (get_or w.rows r no_row).alive ≡ true → Changed M r (get_or w.rows r no_row) row → P w → P (with_row r row w)
  pub drops : (w : Work) (r : ℕ) (row : Row) → get_or w.rows r no_row ≡ row → row.alive ≡ true → P w → P (drop_row r row w)

-- every step within a wave, the coefficient step and the dual step
pub record Kept (M : Model) (P : Work → Type 0) : Type 0 where
  pub bounding : Bounding M P
  pub rowing : Rowing M P
