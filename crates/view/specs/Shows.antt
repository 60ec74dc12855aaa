-- What the working slices, as records of blocks f and n, show of the definition's state w. A row that is not alive shows nothing but that.
use Rattle.std.specs.Prelude.{ℕ, suc, ◌+◌, ◌-◌, ◌%◌, ◌^◌, ◌≤◌, ◌<◌, ◌≡◌, Bool, true, List, map, eqb, length, get_or, take, Float, Result, Ok, Err, ⊤}
use Rattle.std.proofs.Math.Option.{Option, none, some}
use Rattle.tolerances.specs.Tol.{Term, at}
use Rattle.definition.specs.declared.Counts.{Counts}
use Rattle.definition.specs.declared.Infeasible.{Infeasible}
use Rattle.definition.specs.Model.{Model, from, upto, nnz, Row, Binding}
use Rattle.definition.specs.Work.{Work, Step, stop, next, no_row, no_term}
use Rattle.space.specs.Store.{Floats, Numbers}

-- a flag is 1 or not
unfoldable pub is_one : ℕ → Bool
is_one x = eqb x 1

-- ---- the counts: four are kept modulo 2 ^ 64
pub record Tally : Type 0 where
  pub dropped : List ℕ
  pub tightened : List ℕ
  pub fixed : List ℕ
  pub rewrote : List ℕ
  pub passes : List ℕ

abbrev pub tally_of : Numbers → Tally
tally_of n = record { dropped = n.dropped; tightened = n.tightened; fixed = n.fixed; rewrote = n.rewrote; passes = n.passes }

pub record CountsShown (n : Tally) (k : Counts) : Type 0 where
  pub dropped : get_or n.dropped 0 0 ≡ k.rowsDropped % 2 ^ 64
  pub tightened : get_or n.tightened 0 0 ≡ k.boundsTightened % 2 ^ 64
  pub fixed : get_or n.fixed 0 0 ≡ k.varsFixed % 2 ^ 64
  pub rewrote : get_or n.rewrote 0 0 ≡ k.coeffsTightened % 2 ^ 64
  pub passes : get_or n.passes 0 0 ≡ k.passes

-- ---- the blocks that rows are read from: a store to any other block leaves them the same by computation
pub record Parts : Type 0 where
  pub lo : List Float
  pub hi : List Float
  pub fold_scale : List Float
  pub shift : List Float
  pub written : List Float
  pub rewritten : List Float
  pub kept : List Float
  pub coeffs : List Float
  pub len : List ℕ
  pub folded : List ℕ
  pub touched : List ℕ
  pub binaries : List ℕ
  pub vars : List ℕ
  pub binary : List ℕ

abbrev pub parts_of : Floats → Numbers → Parts
parts_of f n =
    record {
      lo = f.lo;
      hi = f.hi;
      fold_scale = f.fold_scale;
      shift = f.shift;
      written = f.written;
      rewritten = f.rewritten;
      kept = f.kept;
      coeffs = f.coeffs;
      len = n.len;
      folded = n.folded;
      touched = n.touched;
      binaries = n.binaries;
      vars = n.vars;
      binary = n.binary;
    }

-- ---- a row at work: its live terms stand at the front of its span, its folded ones at the back, the first one last
pub record TermShown (p : Parts) (i : ℕ) (t : Term) : Type 0 where
  pub var : get_or p.vars i 0 ≡ t.var
  pub coeff : at p.coeffs i ≡ t.coeff

pub record BindingIs (M : Model) (p : Parts) (r : ℕ) (b : Binding) : Type 0 where
  pub count : get_or p.binaries r 0 ≡ length b.binaries
  pub some : 0 < length b.binaries
  pub fits : length b.binaries ≤ nnz M r
  pub binary : (k : ℕ) → k < length b.binaries → get_or p.binary (from M r + k) 0 ≡ get_or b.binaries k 0
  pub written : at p.written r ≡ b.written
  pub rewritten : at p.rewritten r ≡ b.rewritten
  pub kept : at p.kept r ≡ b.kept

pub data BindingShown (M : Model) (p : Parts) (r : ℕ) : Option Binding → Type 0 where
  unbound : get_or p.binaries r 0 ≡ 0 → BindingShown M p r none
  is_bound : {b : Binding} → BindingIs M p r b → BindingShown M p r (some b)

pub record RowShown (M : Model) (p : Parts) (r : ℕ) (row : Row) : Type 0 where
  pub len : get_or p.len r 0 ≡ length row.terms
  pub folds : get_or p.folded r 0 ≡ length row.folded
  pub fits : length row.terms + length row.folded ≤ nnz M r
  pub terms : (k : ℕ) → k < length row.terms → TermShown p (from M r + k) (get_or row.terms k no_term)
  pub folded : (k : ℕ) → k < length row.folded → TermShown p (upto M r - suc k) (get_or row.folded k no_term)
  pub lo : at p.lo r ≡ row.lo
  pub hi : at p.hi r ≡ row.hi
  pub fold_scale : at p.fold_scale r ≡ row.fold_scale
  pub shift : at p.shift r ≡ row.shift
  pub touched : is_one (get_or p.touched r 0) ≡ row.touched
  pub binding : BindingShown M p r row.binding

-- ---- the state; o is the block of the wave's rows, which no step changes
pub record Shows (M : Model) (f : Floats) (n : Numbers) (o : List ℕ) (w : Work) : Type 0 where
  pub wlo : f.wlo ≡ w.wlo
  pub whi : f.whi ≡ w.whi
  pub elo : f.elo ≡ w.elo
  pub ehi : f.ehi ≡ w.ehi
  pub dirty : map is_one n.dirty ≡ w.dirty
  pub coeff_dirty : map is_one n.coeff_dirty ≡ w.coeff_dirty
  pub queued : get_or n.queued 0 0 ≡ length w.queue
  pub queue : take (get_or n.queued 0 0) n.queue ≡ w.queue
  pub counts : CountsShown (tally_of n) w.counts
  pub wave : n.wave ≡ o
  pub alive : (r : ℕ) → r < length M.rhs → is_one (get_or n.alive r 0) ≡ (get_or w.rows r no_row).alive
  pub rows : (r : ℕ) → r < length M.rhs → (get_or w.rows r no_row).alive ≡ true → RowShown M (parts_of f n) r (get_or w.rows r no_row)

-- ---- what the code answers of a step: nothing, or that no point is left
abbrev pub Outcome : Type 0
Outcome = Result ⊤ Infeasible

-- a step that may stop: then only the counts are shown
pub data StepShown (M : Model) (f : Floats) (n : Numbers) (o : List ℕ) : Outcome → Step → Type 0 where
  stopped : {e : Infeasible} {k : Counts} → CountsShown (tally_of n) k → StepShown M f n o (Err e) (stop k)
  went : {w : Work} → Shows M f n o w → StepShown M f n o (Ok tt) (next w)
