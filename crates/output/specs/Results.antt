-- The caller's ten result slices, and what an answer of the definition is in them.
use Rattle.std.specs.Prelude.{ℕ, ◌≡◌, ◌≤◌, List, map, length, Float}
use Rattle.definition.specs.Model.{Emit, Reduced}
use Rattle.space.specs.declared.Context.{Context}
use Rattle.row_terms.specs.RowMark.{mark}
use Rattle.emit.specs.Filling.{over}
use Rattle.emit.specs.Terms.{vars_of, coeffs_of}
use Rattle.output.specs.declared.Results as code

pub record Results : Type 0 where
  pub lower : List Float
  pub upper : List Float
  pub emit_row : List ℕ
  pub emit_rewritten : List ℕ
  pub emit_rhs : List Float
  pub emit_from : List ℕ
  pub emit_upto : List ℕ
  pub kept : List ℕ
  pub term_index : List ℕ
  pub term_coeff : List Float

abbrev pub results : List Float → List Float → List ℕ → List ℕ → List Float → List ℕ → List ℕ → List ℕ → List ℕ → List Float → Results
results l u r m b a e k i c = record { lower = l; upper = u; emit_row = r; emit_rewritten = m; emit_rhs = b; emit_from = a; emit_upto = e; kept = k; term_index = i; term_coeff = c }

-- what stands in the slices
abbrev pub held : code.Results → Results
held r =
    results r.lower.now r.upper.now r.emit_row.now r.emit_rewritten.now r.emit_rhs.now r.emit_from.now r.emit_upto.now r.kept.now r.term_index.now r.term_coeff.now

-- the slices are the same ones
pub record SameSlices (r r' : code.Results) : Type 0 where
  pub lower : r'.lower.ghost_name ≡ r.lower.ghost_name
  pub upper : r'.upper.ghost_name ≡ r.upper.ghost_name
  pub emit_row : r'.emit_row.ghost_name ≡ r.emit_row.ghost_name
  pub emit_rewritten : r'.emit_rewritten.ghost_name ≡ r.emit_rewritten.ghost_name
  pub emit_rhs : r'.emit_rhs.ghost_name ≡ r.emit_rhs.ghost_name
  pub emit_from : r'.emit_from.ghost_name ≡ r.emit_from.ghost_name
  pub emit_upto : r'.emit_upto.ghost_name ≡ r.emit_upto.ghost_name
  pub kept : r'.kept.ghost_name ≡ r.kept.ghost_name
  pub term_index : r'.term_index.ghost_name ≡ r.term_index.ghost_name
  pub term_coeff : r'.term_coeff.ghost_name ≡ r.term_coeff.ghost_name

-- each has as many entries as there are variables, rows or terms
pub record ResultsRoom (s : Context) (b : Results) : Type 0 where
  pub lower : s.vars ≤ length b.lower
  pub upper : s.vars ≤ length b.upper
  pub emit_row : s.rows ≤ length b.emit_row
  pub emit_rewritten : s.rows ≤ length b.emit_rewritten
  pub emit_rhs : s.rows ≤ length b.emit_rhs
  pub emit_from : s.rows ≤ length b.emit_from
  pub emit_upto : s.rows ≤ length b.emit_upto
  pub kept : s.rows ≤ length b.kept
  pub term_index : s.terms ≤ length b.term_index
  pub term_coeff : s.terms ≤ length b.term_coeff

-- the lists of the answer at the front of the slices; what is behind them stays
unfoldable pub written : Reduced → Results → Results
written a b =
    record {
      lower = over a.lower b.lower;
      upper = over a.upper b.upper;
      emit_row = over (map (λ (e : Emit). e.row) a.emitted) b.emit_row;
      emit_rewritten = over (map (λ (e : Emit). mark e.rewritten) a.emitted) b.emit_rewritten;
      emit_rhs = over (map (λ (e : Emit). e.rhs) a.emitted) b.emit_rhs;
      emit_from = over (map (λ (e : Emit). e.from) a.emitted) b.emit_from;
      emit_upto = over (map (λ (e : Emit). e.upto) a.emitted) b.emit_upto;
      kept = over a.kept b.kept;
      term_index = over (vars_of a.terms) b.term_index;
      term_coeff = over (coeffs_of a.terms) b.term_coeff;
    }
