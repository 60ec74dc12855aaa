-- `mark_row` and `mark_var` of src/presolve/work.rs of microlp 0.7.0, changed: requeueing.
-- A row is queued where something that it reads, a bound of one of its variables or its own numbers, changed since it was last handled: so the waves
-- cost what changed, and not all terms each time. Rows only lose terms, so the rows of a variable as written hold all that it still stands in.
use Rattle.std.specs.Prelude.{ℕ, zero, suc, Bool, true, not, ◌&&◌, [], ◌∷◌, ◌++◌, length, get_or, set}
use Rattle.floats.specs.Num.{choose}
use Rattle.definition.specs.Model.{Model, written}
use Rattle.definition.specs.Work.{Work, with_marks, has_term, trivial}

-- the coefficient pass has to look at the row again even where it is queued already
unfoldable pub mark_row : ℕ → Work → Work
mark_row r w =
    choose (get_or w.dirty r true)
    (with_marks w.dirty (set w.coeff_dirty r true) w.queue w)
    (with_marks (set w.dirty r true) (set w.coeff_dirty r true) (w.queue ++ (r ∷ [])) w)

module _ (M : Model) where
  -- whether row r is adjacent to v, the Rust's `adj_rows`: a row at work that has v as written, with a zero coefficient or folded out since too
  unfoldable pub adjacent : ℕ → ℕ → Bool
  adjacent v r = not (trivial M r) && has_term v (written M r)

  -- the adjacent rows among the n rows from r on, in order
  unfoldable pub mark_from : ℕ → ℕ → ℕ → Work → Work
  mark_from zero r v w = w
  mark_from (suc n) r v w = mark_from n (suc r) v (choose (adjacent v r) (mark_row r w) w)

  unfoldable pub mark_var : ℕ → Work → Work
  mark_var v w = mark_from (length M.rhs) 0 v w
