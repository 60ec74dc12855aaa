-- What is encoded is read back.
use Rattle.std.specs.Prelude.{ℕ, ◌+◌, ◌≤◌, ◌≡◌, List, [], ◌∷◌, map, length, Float}
use Rattle.model_file.specs.declared.Variable.{Variable}
use Rattle.model_file.specs.declared.Term.{Term}
use Rattle.model_file.specs.declared.Settings.{Settings}
use Rattle.model_file.specs.Format.{Row, ends, all_terms}
use Rattle.model_file.specs.Encode.{Every, Binary64, Code, Short}

-- ---- variables
pub record VariableOk (v : Variable) : Type 0 where
  pub objective : Binary64 v.objective
  pub lower : Binary64 v.lower
  pub upper : Binary64 v.upper
  pub domain : Code v.domain

-- ---- terms and rows
pub record TermOk (x : Term) : Type 0 where
  pub index : Short x.index
  pub coeff : Binary64 x.coeff

-- a row after t terms
pub record RowOk (t : ℕ) (r : Row) : Type 0 where
  pub cmp : Code r.head.cmp
  pub rhs : Binary64 r.head.rhs
  pub count : length r.terms ≡ r.head.count
  pub upto : t + r.head.count ≤ 512
  pub terms : Every TermOk r.terms

abbrev pub RowsOk : ℕ → List Row → Type 0
RowsOk t [] = Unit {0}
RowsOk t (r ∷ rs) = RowOk t r × RowsOk (t + r.head.count) rs

-- ---- the file of settings, variables and rows
pub record SheetOk (h : Settings) (vs : List Variable) (rs : List Row) : Type 0 where
  pub vars : length vs ≡ h.vars
  pub few_vars : h.vars ≤ 128
  pub row_count : length rs ≡ h.rows
  pub few_rows : h.rows ≤ 128
  pub feasibility : Binary64 h.feasibility
  pub int_tol : Binary64 h.int_tol
  pub mode : Code h.mode
  pub variables : Every VariableOk vs
  pub rows_ok : RowsOk 0 rs

-- ---- the lists, entry by entry
-- variables, and the lists that they are read from
pub record VariablesAre (os ls us : List Float) (ds : List ℕ) (vs : List Variable) : Type 0 where
  pub objective : map (λ (v : Variable). v.objective) vs ≡ os
  pub lower : map (λ (v : Variable). v.lower) vs ≡ ls
  pub upper : map (λ (v : Variable). v.upper) vs ≡ us
  pub domain : map (λ (v : Variable). v.domain) vs ≡ ds
  pub ok : Every VariableOk vs

pub record TermsAre (is : List ℕ) (cs : List Float) (ts : List Term) : Type 0 where
  pub index : map (λ (x : Term). x.index) ts ≡ is
  pub coeff : map (λ (x : Term). x.coeff) ts ≡ cs
  pub count : length ts ≡ length is
  pub ok : Every TermOk ts

-- rows after t terms, and the lists that they are read from
pub record RowsAre (t : ℕ) (es : List ℕ) (ts : List Term) (qs : List ℕ) (bs : List Float) (rs : List Row) : Type 0 where
  pub starts : ends t rs ≡ es
  pub terms : all_terms rs ≡ ts
  pub cmp : map (λ (r : Row). r.head.cmp) rs ≡ qs
  pub rhs : map (λ (r : Row). r.head.rhs) rs ≡ bs
  pub ok : RowsOk t rs
