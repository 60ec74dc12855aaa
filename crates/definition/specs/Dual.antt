-- `dual_fix` of src/presolve/work.rs of microlp 0.7.0, changed: an integer variable that no row and not the objective keeps from one of its finite
-- bounds is fixed there.
-- To move it there hurts no row and makes the objective no worse, so a best point is kept, though not every point: only in mode 2. Towards an
-- infinite bound the model may be unbounded, which is for the solver to say. The bound is the emitted one too: what bounds v from below in the
-- working box is a row that also keeps v from falling.
use Rattle.std.specs.Prelude.{ℕ, zero, suc, Bool, true, false, not, ◌&&◌, ◌||◌, List, [], ◌∷◌, length, get_or, set}
use Rattle.std.specs.Float.Ieee.{le}
use Rattle.floats.specs.Num.{choose, gt, ge, 0f, is_finite}
use Rattle.tolerances.specs.Tol.{Term, at}
use Rattle.definition.specs.Model.{Model, is_int, Row}
use Rattle.definition.specs.Work.{Work, fixed}
use Rattle.definition.specs.Bounds.{fix}

-- which variables a row's terms keep from moving: if_pos of a positive coefficient, if_neg of any other, a zero among them
unfoldable pub block_terms : Bool → Bool → List Term → List Bool → List Bool
block_terms if_pos if_neg [] bad = bad
block_terms if_pos if_neg (t ∷ ts) bad =
    block_terms if_pos if_neg ts (choose (choose (gt t.coeff 0f) if_pos if_neg) (set bad t.var true) bad)

-- from falling, and from rising
unfoldable pub bad_dec : List Row → List Bool → List Bool
bad_dec [] bad = bad
bad_dec (row ∷ rows) bad =
    bad_dec rows (choose row.alive (block_terms (is_finite row.lo) (is_finite row.hi) row.terms bad) bad)

unfoldable pub bad_inc : List Row → List Bool → List Bool
bad_inc [] bad = bad
bad_inc (row ∷ rows) bad =
    bad_inc rows (choose row.alive (block_terms (is_finite row.hi) (is_finite row.lo) row.terms bad) bad)

unfoldable pub none_bad : ℕ → List Bool
none_bad zero = []
none_bad (suc n) = false ∷ none_bad n

module _ (M : Model) where
  -- the target is the working bound; the Rust asserts that it is the emitted one too
  unfoldable pub may_fall : List Bool → ℕ → Work → Bool
  may_fall dec v w = ge (at M.obj v) 0f && not (get_or dec v true) && is_finite (at w.wlo v)

  unfoldable pub may_rise : List Bool → ℕ → Work → Bool
  may_rise inc v w = le (at M.obj v) 0f && not (get_or inc v true) && is_finite (at w.whi v)

  unfoldable pub dual_var : List Bool → List Bool → ℕ → Work → Bool → Work × Bool
  dual_var dec inc v w changed =
      choose (fixed w v || not (is_int M v))
      ((w, changed))
      (choose (may_fall dec v w)
      ((fix M v (at w.wlo v) w, true))
      (choose (may_rise inc v w)
      ((fix M v (at w.whi v) w, true))
      ((w, changed))))

  unfoldable pub dual_from : ℕ → List Bool → List Bool → ℕ → Work → Bool → Work × Bool
  dual_from zero dec inc v w changed = (w, changed)
  dual_from (suc n) dec inc v w changed =
      let s = dual_var dec inc v w changed in
      dual_from n dec inc (suc v) s.0 s.1

  -- the state after, and whether something changed
  unfoldable pub dual_fix : Work → Work × Bool
  dual_fix w =
      let n = length M.lower in
      dual_from n (bad_dec w.rows (none_bad n)) (bad_inc w.rows (none_bad n)) 0 w false
