-- src/presolve/mod.rs of microlp 0.7.0, changed: the end of `presolve`, the rows that go out, in input order.
-- A row that is not rewritten goes out as written, fixed terms included: folded, it would have a smaller magnitude and so a tighter tolerance than it
-- is granted, and the fold's round-off could make two rows that agree disagree. A rewritten row gets its folded terms back for the same reason, and
-- the bound that follows from the one as written; since a rewrite holds for whole points only, a solution is also checked against the row as written.
-- A row that a last fixing leaves no term is judged here.
use Rattle.std.specs.Prelude.{ℕ, zero, suc, ◌+◌, Bool, true, false, not, ◌&&◌, ◌||◌, List, [], ◌∷◌, ◌++◌, eqb, ltb, length, get_or, Float}
use Rattle.std.specs.Float.Ieee.{eq}
use Rattle.floats.specs.Num.{choose, is_finite}
use Rattle.tolerances.specs.Tol.{Term}
use Rattle.definition.specs.declared.Counts.{Counts}
use Rattle.definition.specs.Model.{Model, from, upto, rhs_of, Row, Emit, Answer, infeasible, done}
use Rattle.definition.specs.Work.{Work, with_row, Step, stop, next, no_row, trivial}
use Rattle.definition.specs.Folds.{fold_fixed}
use Rattle.definition.specs.Singles.{empty_row_check}
use Rattle.definition.specs.Bindings.{rewritten_bound}

-- `CsVec::new_from_unsorted`: by rising variable
unfoldable pub insert_term : Term → List Term → List Term
insert_term t [] = t ∷ []
insert_term t (u ∷ us) =
    let later = insert_term t us in
    choose (ltb t.var u.var) (t ∷ u ∷ us) (u ∷ later)

unfoldable pub sort_terms : List Term → List Term
sort_terms [] = []
sort_terms (t ∷ ts) = insert_term t (sort_terms ts)

-- what is out so far
pub record Out : Type 0 where
  pub emitted : List Emit
  pub terms : List Term
  pub kept : List ℕ

abbrev pub no_out : Out
no_out = record { emitted = []; terms = []; kept = [] }

pub data Final : Type 0 where
  fails : Counts → Final
  final : Work → Out → Final

-- 01's "kept": the row goes to the rows that the answer is checked against
abbrev pub keep_row : ℕ → Out → Out
keep_row r o = record { emitted = o.emitted; terms = o.terms; kept = o.kept ++ (r ∷ []) }

unfoldable pub no_terms : List Term → Bool
no_terms [] = true
no_terms (t ∷ ts) = false

-- two lists are equal as numbers: minus zero is a zero
unfoldable pub same_bounds : List Float → List Float → Bool
same_bounds [] [] = true
same_bounds [] (y ∷ ys) = false
same_bounds (x ∷ xs) [] = false
same_bounds (x ∷ xs) (y ∷ ys) = eq x y && same_bounds xs ys

module _ (M : Model) where
  -- 01's "emitted unchanged": its number, marked written, its given right side, and the span of all its terms in the model
  abbrev pub written_entry : ℕ → Emit
  written_entry r = record { row = r; rewritten = false; rhs = rhs_of M r; from = from M r; upto = upto M r }

  abbrev pub emit_written : ℕ → Out → Out
  emit_written r o = record { emitted = o.emitted ++ (written_entry r ∷ []); terms = o.terms; kept = o.kept }

  -- a rewritten row is kept as written too
  abbrev pub emit_rewritten : ℕ → Float → List Term → Out → Out
  emit_rewritten r b ts o =
      record {
        emitted = o.emitted ++ (record { row = r; rewritten = true; rhs = b; from = length o.terms; upto = length o.terms + length ts } ∷ []);
        terms = o.terms ++ ts;
        kept = o.kept ++ (r ∷ []);
      }

  -- a row with terms left. Rewritten, it gets its folded terms back, but not its explicit zeros; without a finite bound it goes out as written, and is not kept
  unfoldable pub out_row : ℕ → Row → Out → Out
  out_row r row o =
      let b = rewritten_bound M row r in
      choose row.touched
      (choose (is_finite b)
      (emit_rewritten r b (sort_terms (row.terms ++ row.folded)) o)
      (emit_written r o))
      (emit_written r o)

  unfoldable pub out_empty : ℕ → Out → Step → Final
  out_empty r o (stop k) = fails k
  out_empty r o (next w) = final w (keep_row r o)

  -- a row may empty here, after the last wave, and be judged here
  unfoldable pub out_alive : ℕ → Row → Work → Out → Final
  out_alive r row w o =
      let w1 = with_row r row w in
      let gone = out_empty r o (empty_row_check M r row w1) in
      choose (no_terms row.terms) gone (final w1 (out_row r row o))

  -- a row that is trivially true is not in the Rust's list: it neither goes out nor is kept
  unfoldable pub out_one : ℕ → Final → Final
  out_one r (fails k) = fails k
  out_one r (final w o) =
      let row = get_or w.rows r no_row in
      let live = out_alive r (fold_fixed M r w row) w o in
      choose (trivial M r) (final w o) (choose row.alive live (final w (keep_row r o)))

  -- the n rows from r on
  unfoldable pub out_from : ℕ → ℕ → Final → Final
  out_from zero r s = s
  out_from (suc n) r s = out_from n (suc r) (out_one r s)

  -- `reduced`: whether the result differs from the model
  unfoldable pub differs : Work → Out → Bool
  differs w o =
      not (same_bounds w.elo M.lower) || not (same_bounds w.ehi M.upper)
      || not (eqb (length o.kept) 0) || not (eqb (length o.emitted) (length M.rhs))

  unfoldable pub answer_of : Final → Answer
  answer_of (fails k) = infeasible k
  answer_of (final w o) =
      done (record { counts = w.counts; lower = w.elo; upper = w.ehi; emitted = o.emitted; terms = o.terms; kept = o.kept; flag = differs w o })
