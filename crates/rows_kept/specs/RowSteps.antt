-- What a property of a row has to be kept by, so that folding and the coefficient step keep it, and the walk over these steps.
use Prim.Native.Nat.{ℕ, ◌+◌, ◌≤◌, ◌<◌}
use Rattle.std.specs.Prelude.{◌≡◌, true, Float}
use Rattle.std.proofs.Math.Option.{some}
use Rattle.std.proofs.Math.ListN.{length, get_or}
use Rattle.definition.specs.Model.{Model, Binding, Row, with_touched, with_terms, with_range, with_binding, as_written}
use Rattle.definition.specs.Work.{Work, no_term}
use Rattle.definition.specs.Folds.{swap_remove, fold_term}
use Rattle.definition.specs.Rewrites.{Form, form_of, Rewrite, keeps, coeff_only, coeff_bound}
use Rattle.definition.specs.Tighten.{set_coeff}
use Rattle.rows_kept.specs.Statements.{Spans}
use Rattle.rows_kept.specs.Numbers.{Coefficient}
use Rattle.rows_kept.specs.Kept.{Sided}

-- ---- properties of row r: folding, and rewriting. G is what a row with one finite side adds, and what its rewrites may use
pub record Folding (M : Model) (r : ℕ) (Q : Row → Type 0) : Type 0 where
  pub as_written_lem : Q (as_written M r)
  pub removes : (row : Row) (i : ℕ) → (Spans M → i < length row.terms) → Q row → Q (with_terms (swap_remove row.terms i) row)
  pub folds : (row : Row) (i : ℕ) (w : Work) → (Spans M → i < length row.terms) → Q row → Q (fold_term w i (get_or row.terms i no_term) row)
  pub relaxes : (row : Row) (b c : Binding) (l h : Float) → row.binding ≡ some b → Q row → Q (with_binding (some c) (with_range l h row))

pub record Rewriting (G : Type 0) (Q : Row → Type 0) : Type 0 where
  pub coeffs : G → (row : Row) (i v : ℕ) (a : Float) → Coefficient a → Q row → Q (set_coeff i v a row)
  pub rebinds : G → (row : Row) (b : Binding) (l h : Float) → Q row → Q (with_binding (some b) (with_range l h row))
  pub touches : G → (row : Row) → Q row → Q (with_touched true row)

pub record RowKept (M : Model) (r : ℕ) (G : Type 0) (Q : Row → Type 0) : Type 0 where
  pub folding : Folding M r Q
  pub rewriting : Rewriting G Q
  pub guards : (row : Row) (f : Form) → form_of row ≡ f → Sided f → Q row → G

-- ---- folding: the place looked at stays within the row
pub record Looked (M : Model) (Q : Row → Type 0) (n : ℕ) (s : ℕ × Row) : Type 0 where
  pub within : Spans M → s.0 + n ≤ length s.1.terms
  pub holds : Q s.1

-- ---- what a rewrite puts into the row is above or below zero
pub data Puts : Rewrite → Type 0 where
  puts_none : Puts keeps
  puts_coeff : {a : Float} → Coefficient a → Puts (coeff_only a)
  puts_bound : {a b d : Float} → Coefficient a → Puts (coeff_bound a b d)

-- ---- a live row stays alive
abbrev pub Alive : Row → Type 0
Alive row = row.alive ≡ true
