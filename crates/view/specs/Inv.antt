-- What every state of an accepted model has, and every step keeps: lists of their lengths, a queue of row numbers with room for the rows that are not queued,
-- and rows whose terms are the model's variables. k counts the wave's rows still to come.
use Rattle.std.specs.Prelude.{ℕ, suc, ◌+◌, ◌≤◌, ◌<◌, ◌≡◌, Bool, true, false, not, ◌&&◌, ◌||◌, List, [], ◌∷◌, ◌++◌, eqb, length, get_or}
use Rattle.std.proofs.Math.Option.{Option, none, some}
use Rattle.std.specs.Float.Ieee.{eq}
use Rattle.floats.specs.Num.{0f}
use Rattle.tolerances.specs.Tol.{Term}
use Rattle.definition.specs.Model.{Model, written, Row, Binding}
use Rattle.definition.specs.Work.{Work, no_row, has, has_term}

-- how many are true
unfoldable pub marked : List Bool → ℕ
marked [] = 0
marked (true ∷ bs) = suc (marked bs)
marked (false ∷ bs) = marked bs

pub record Below (n : ℕ) (l : List ℕ) : Type 0 where
  pub below : (i : ℕ) → i < length l → get_or l i 0 < n

-- no two of a row's terms have one variable, and each is one of the row as written
pub data Distinct : List Term → Type 0 where
  distinct[] : Distinct []
  distinct∷ : {t : Term} {ts : List Term} → has_term t.var ts ≡ false → Distinct ts → Distinct (t ∷ ts)

pub data AllIn (all : List Term) : List Term → Type 0 where
  all_in[] : AllIn all []
  all_in∷ : {t : Term} {ts : List Term} → has_term t.var all ≡ true → AllIn all ts → AllIn all (t ∷ ts)

-- v has a term with a coefficient that is not zero: such a term may be folded, and is never lost
unfoldable pub has_nonzero : ℕ → List Term → Bool
has_nonzero v [] = false
has_nonzero v (t ∷ ts) = (eqb t.var v && not (eq t.coeff 0f)) || has_nonzero v ts

-- no binary is rewritten twice, and every rewritten binary is a term of the row or folded out of it
pub data BinariesIn (M : Model) (r : ℕ) (row : Row) : List ℕ → Type 0 where
  binaries_in[] : BinariesIn M r row []
  binaries_in∷ : {v : ℕ} {vs : List ℕ} → has v vs ≡ false → has_nonzero v (row.terms ++ row.folded) ≡ true → BinariesIn M r row vs → BinariesIn M r row (v ∷ vs)

pub data BindingIn (M : Model) (r : ℕ) (row : Row) : Option Binding → Type 0 where
  none_in : BindingIn M r row none
  some_in : {b : Binding} → BinariesIn M r row b.binaries → BindingIn M r row (some b)

pub record RowInv (M : Model) (r : ℕ) (row : Row) : Type 0 where
  pub distinct : Distinct (row.terms ++ row.folded)
  pub all_in : AllIn (written M r) (row.terms ++ row.folded)
  pub binaries : BindingIn M r row row.binding

pub record Inv (M : Model) (k : ℕ) (w : Work) : Type 0 where
  pub wlos : length w.wlo ≡ length M.lower
  pub whis : length w.whi ≡ length M.lower
  pub elos : length w.elo ≡ length M.lower
  pub ehis : length w.ehi ≡ length M.lower
  pub dirties : length w.dirty ≡ length M.rhs
  pub coeff_dirties : length w.coeff_dirty ≡ length M.rhs
  pub rowses : length w.rows ≡ length M.rhs
  pub queue : Below (length M.rhs) w.queue
  pub room : length w.queue + k ≤ marked w.dirty
  pub rows : (r : ℕ) → r < length M.rhs → (get_or w.rows r no_row).alive ≡ true → RowInv M r (get_or w.rows r no_row)
