-- src/presolve/model.rs of microlp 0.7.0, changed: what a call hands in, the rows as presolve works on them, and what comes back.
-- Definitions only. The variables never change: one that presolve "removes" gets equal bounds, and its value is taken out of every row, so a solution
-- of the reduced model needs no translation back. A row at work has the form lo <= a·x <= hi: one side finite of a Le or Ge row, both equal of an Eq
-- row; no reduction makes a row with two different sides. Fixed terms are folded out of the row at work alone. They are still terms of the row, so
-- every tolerance of it includes their magnitude (`fold_scale`, and `shift` for the bound as written), and what comes back has them again.
use Rattle.std.specs.Prelude.{ℕ, suc, ◌+◌, ◌-◌, Bool, true, false, not, ◌&&◌, List, [], ◌∷◌, eqb, get_or, take, drop, Float}
use Rattle.std.proofs.Math.Option.{Option, none, some}
use Rattle.floats.specs.Num.{choose, ◌⊕◌, ◌⊗◌, gt, 0f, ∞f, -∞f, abs}
use Rattle.tolerances.specs.Tol.{Term, at, zip_terms}
use Rattle.definition.specs.declared.Counts.{Counts}
use Rattle.definition.specs.Params.{Params}

-- ---- the model handed in: flat lists, row r's terms being those from starts r up to starts (r + 1).
-- domains: 0 Integer, 1 Real, 2 Boolean; comparisons: 0 Eq, 1 Le, 2 Ge; modes: 0 Lp, 1 Mip, 2 Mip with dual fixing
pub record Model : Type 0 where
  pub obj : List Float
  pub lower : List Float
  pub upper : List Float
  pub domain : List ℕ
  pub starts : List ℕ
  pub index : List ℕ
  pub coeff : List Float
  pub cmp : List ℕ
  pub rhs : List Float
  pub mode : ℕ
  pub feas : Float
  pub int_tol : Float
  pub params : Params

module _ (M : Model) where
  -- row r: where its terms start and end, how many it has as written, its terms, its comparison and its right side
  unfoldable pub from : ℕ → ℕ
  from r = get_or M.starts r 0

  unfoldable pub upto : ℕ → ℕ
  upto r = get_or M.starts (r + 1) 0

  unfoldable pub nnz : ℕ → ℕ
  unfolding from upto
  nnz r = upto r - from r

  unfoldable pub written : ℕ → List Term
  unfolding from nnz
  written r = zip_terms (take (nnz r) (drop (from r) M.index)) (take (nnz r) (drop (from r) M.coeff))

  unfoldable pub op_of : ℕ → ℕ
  op_of r = get_or M.cmp r 0

  unfoldable pub rhs_of : ℕ → Float
  rhs_of r = at M.rhs r

  -- `is_int_domain` and `Work::is_int`: both modes but 0 are the Rust's Mip. 01's "non-integer variable" is one of which is_int says no
  unfoldable pub is_int_domain : ℕ → Bool
  is_int_domain v = not (eqb (get_or M.domain v 0) 1)

  unfoldable pub is_mip : Bool
  is_mip = not (eqb M.mode 0)

  unfoldable pub is_int : ℕ → Bool
  unfolding is_int_domain is_mip
  is_int v = is_mip && is_int_domain v

-- ---- a row at work
-- the binding branch of the rewrites that moved the row's bound, their binaries at one: those binaries, the magnitude of the bound and their coefficients as written
-- and as rewritten, and what the bound was relaxed by so far
pub record Binding : Type 0 where
  pub binaries : List ℕ
  pub written : Float
  pub rewritten : Float
  pub kept : Float

pub record Row : Type 0 where
  pub terms : List Term
  pub lo : Float
  pub hi : Float
  pub fold_scale : Float
  pub shift : Float
  pub folded : List Term
  pub alive : Bool
  pub touched : Bool
  pub binding : Option Binding

abbrev pub with_alive : Bool → Row → Row
with_alive b w = record { terms = w.terms; lo = w.lo; hi = w.hi; fold_scale = w.fold_scale; shift = w.shift; folded = w.folded; alive = b; touched = w.touched; binding = w.binding }

abbrev pub with_touched : Bool → Row → Row
with_touched b w = record { terms = w.terms; lo = w.lo; hi = w.hi; fold_scale = w.fold_scale; shift = w.shift; folded = w.folded; alive = w.alive; touched = b; binding = w.binding }

abbrev pub with_terms : List Term → Row → Row
with_terms ts w = record { terms = ts; lo = w.lo; hi = w.hi; fold_scale = w.fold_scale; shift = w.shift; folded = w.folded; alive = w.alive; touched = w.touched; binding = w.binding }

abbrev pub with_range : Float → Float → Row → Row
with_range l h w = record { terms = w.terms; lo = l; hi = h; fold_scale = w.fold_scale; shift = w.shift; folded = w.folded; alive = w.alive; touched = w.touched; binding = w.binding }

abbrev pub with_binding : Option Binding → Row → Row
with_binding b w = record { terms = w.terms; lo = w.lo; hi = w.hi; fold_scale = w.fold_scale; shift = w.shift; folded = w.folded; alive = w.alive; touched = w.touched; binding = b }

-- `Row::as_written`
unfoldable pub as_written : Model → ℕ → Row
as_written M r =
    let op = op_of M r in
    let b = rhs_of M r in
    record {
      terms = written M r;
      lo = choose (eqb op 1) -∞f b;
      hi = choose (eqb op 2) ∞f b;
      fold_scale = 0f;
      shift = 0f;
      folded = [];
      alive = true;
      touched = false;
      binding = none;
    }

-- `Row::rhs_mag`: the bound as written is the bound and the shift of the folded terms
unfoldable pub rhs_mag : Row → Float → Float
rhs_mag row b = abs (b ⊕ row.shift)

-- `Row::coeff`: the first match among the live, then the folded terms
unfoldable pub coeff_in : ℕ → List Term → Option Float
coeff_in v [] = none
coeff_in v (t ∷ ts) =
    let later = coeff_in v ts in
    choose (eqb t.var v) (some t.coeff) later

unfoldable pub or_else : Option Float → Float → Float
or_else none d = d
or_else (some a) d = a

-- `rewritten_coeff`: its `expect` never fails, since a rewritten binary is a term of its row or folded out of it, so the 0 is never read
unfoldable pub coeff_of : Row → ℕ → Float
coeff_of row v = or_else (coeff_in v row.terms) (or_else (coeff_in v row.folded) 0f)

-- `term_range`: the smallest and the largest of a·x over the box
unfoldable pub range_min : Float → Float → Float → Float
range_min a lo hi = choose (gt a 0f) (a ⊗ lo) (a ⊗ hi)

unfoldable pub range_max : Float → Float → Float → Float
range_max a lo hi = choose (gt a 0f) (a ⊗ hi) (a ⊗ lo)

-- ---- the five counts, in 01's order
abbrev pub counts : ℕ → ℕ → ℕ → ℕ → ℕ → Counts
counts a b c d e = record { rowsDropped = a; boundsTightened = b; varsFixed = c; coeffsTightened = d; passes = e }

abbrev pub dropped : Counts → Counts
dropped k = counts (suc k.rowsDropped) k.boundsTightened k.varsFixed k.coeffsTightened k.passes

abbrev pub tightened : Counts → Counts
tightened k = counts k.rowsDropped (suc k.boundsTightened) k.varsFixed k.coeffsTightened k.passes

abbrev pub fixed_one : Counts → Counts
fixed_one k = counts k.rowsDropped k.boundsTightened (suc k.varsFixed) k.coeffsTightened k.passes

abbrev pub rewrote : Counts → Counts
rewrote k = counts k.rowsDropped k.boundsTightened k.varsFixed (suc k.coeffsTightened) k.passes

abbrev pub passed : Counts → Counts
passed k = counts k.rowsDropped k.boundsTightened k.varsFixed k.coeffsTightened (suc k.passes)

-- ---- what comes back: an emitted row is its number, whether it is rewritten, its right side, and its terms as the span from .. upto
-- of the model's list, or of the rewritten one
pub record Emit : Type 0 where
  pub row : ℕ
  pub rewritten : Bool
  pub rhs : Float
  pub from : ℕ
  pub upto : ℕ

-- `Presolved`: kept has the numbers of the rows that are kept for validation
pub record Reduced : Type 0 where
  pub counts : Counts
  pub lower : List Float
  pub upper : List Float
  pub emitted : List Emit
  pub terms : List Term
  pub kept : List ℕ
  pub flag : Bool

pub data Answer : Type 0 where
  infeasible : Counts → Answer
  done : Reduced → Answer
