-- The result slices after the writers, by what the working slices hold.
use Rattle.std.specs.Prelude.{ℕ, ◌≡◌, List, length, Float}
use Rattle.definition.specs.declared.Rows.{Rows}
use Rattle.definition.specs.declared.Input.{Input}
use Rattle.space.specs.declared.Context.{Context}
use Rattle.space.specs.Store.{Floats, Numbers}
use Rattle.emit.specs.Fates.{collect, kept_at, out_at, mark_at, self, side_at}
use Rattle.emit.specs.Filling.{over}
use Rattle.emit.specs.Spans.{start_at, end_at}
use Rattle.emit.specs.Terms.{vars_of, coeffs_of, terms_in}
use Rattle.output.specs.declared.Reduced.{Reduced}
use Rattle.output.specs.Results.{Results, results}
use Rattle.output.specs.Summary.{reducedOf}

-- ---- how many rows are emitted, and kept for validation
abbrev pub outs : Context → Numbers → ℕ
outs s n = length (collect (out_at n.fate) self s.rows)

abbrev pub keeps : Context → Numbers → ℕ
keeps s n = length (collect (kept_at n.fate) self s.rows)

-- ---- write_lists: all ten
abbrev pub outputs : Context → Rows → Floats → Numbers → Results → Results
outputs s x f n b =
    record {
      lower = over f.elo b.lower;
      upper = over f.ehi b.upper;
      emit_row = over (collect (out_at n.fate) self s.rows) b.emit_row;
      emit_rewritten = over (collect (out_at n.fate) (mark_at n.fate) s.rows) b.emit_rewritten;
      emit_rhs = over (collect (out_at n.fate) (side_at n.fate f.bound x.rhs.now) s.rows) b.emit_rhs;
      emit_from = over (collect (out_at n.fate) (start_at n x.starts.now) s.rows) b.emit_from;
      emit_upto = over (collect (out_at n.fate) (end_at n x.starts.now) s.rows) b.emit_upto;
      kept = over (collect (kept_at n.fate) self s.rows) b.kept;
      term_index = over (vars_of (terms_in x.starts.now x.index.now f n s.rows)) b.term_index;
      term_coeff = over (coeffs_of (terms_in x.starts.now x.index.now f n s.rows)) b.term_coeff;
    }

pub record ListsOut (s : Context) (x : Input) (f : Floats) (n : Numbers) (z : Reduced) (b b' : Results) : Type 0 where
  pub lists : b' ≡ outputs s x.rows f n b
  pub result : z ≡ reducedOf s x.lower.now x.upper.now f n (outs s n) (length (terms_in x.rows.starts.now x.rows.index.now f n s.rows)) (keeps s n)

pub all-ten : {l l' u u' : List Float} {r r' : List ℕ} {m m' : List ℕ} {b b' : List Float} {g g' e e' k k' i i' : List ℕ} {c c' : List Float}
    → l ≡ l' → u ≡ u' → r ≡ r' → m ≡ m' → b ≡ b' → g ≡ g' → e ≡ e' → k ≡ k' → i ≡ i' → c ≡ c' → results l u r m b g e k i c ≡ results l' u' r' m' b' g' e' k' i' c'
all-ten p1 p2 p3 p4 p5 p6 p7 p8 p9 p10 = rw (p1, p2, p3, p4, p5, p6, p7, p8, p9, p10)
