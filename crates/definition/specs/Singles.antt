-- `empty_row_check` and `singleton_row` of src/presolve/work.rs of microlp 0.7.0, changed: rows of no term, and of one.
-- A row of no term is judged as it is once dropped: as written, at its fixed values, against its whole tolerance. Nothing can move it any more, so
-- its budget has no part in it; held to that, a model that has a point could be called infeasible. A row of one term, a·x from lo to hi, bounds x. An
-- integer x gets bounds that keep every whole number that meets the row within its budget, widened by the round-off of the folded side. Any other x
-- is left alone, and where the row misses its bounds, both with their tolerances, there is no point. The row is dropped only where every value within
-- the bound tolerance of the emitted bounds meets it within its whole tolerance less the round-off of evaluating it: once dropped, only that
-- tolerance can move it.
use Rattle.std.specs.Prelude.{ℕ, Bool, true, false, not, ◌&&◌, ◌||◌, Float}
use Rattle.std.specs.Float.Ieee.{lt, le}
use Rattle.floats.specs.Num.{choose, ◌⊕◌, ◌⊖◌, ◌⊗◌, ◌⊘◌, gt, ge, 0f, is_finite, abs, maxf, minf, floor, ceil}
use Rattle.tolerances.specs.Tol.{Term, at, ROUNDOFF_FLOOR, row_tolerance, violated}
use Rattle.definition.specs.Model.{Model, written, op_of, rhs_of, is_int, Row, rhs_mag}
use Rattle.definition.specs.Work.{Work, Step, stop, next, ◌>>=◌, fixed, drop_row, budget, bound_tol}
use Rattle.definition.specs.Bounds.{emit_bounds}

-- the values that an all-substituted row is judged at: a variable that is not fixed is there with a zero coefficient only
unfoldable pub fixed_value : Work → ℕ → Float
fixed_value w v = choose (fixed w v) (at w.elo v) 0f

-- the row's magnitude where the side b is tight; 0 of an infinite side
unfoldable pub finite_mag : Row → Float → Float
finite_mag row b = choose (is_finite b) (rhs_mag row b ⊕ abs b ⊕ row.fold_scale) 0f

module _ (M : Model) where
  -- the row as written, by `row_violation`, against its full tolerance
  unfoldable pub empty_row_check : ℕ → Row → Work → Step
  empty_row_check r row w =
      choose (violated M.feas (op_of M r) (written M r) (rhs_of M r) (fixed_value w))
      (stop w.counts)
      (next (drop_row r row w))

  unfoldable pub room_at : ℕ → Row → Float → Float → Float
  room_at r row a b = budget M r (finite_mag row b) ⊘ abs a

  unfoldable pub widened_at : ℕ → Row → Float → Float → Float
  widened_at r row a b = room_at r row a b ⊕ ROUNDOFF_FLOOR ⊗ finite_mag row b ⊘ abs a

  unfoldable pub dropped_room : Row → Float → Float → Float
  dropped_room row a b =
      let m = finite_mag row b in
      maxf (row_tolerance M.feas m ⊖ ROUNDOFF_FLOOR ⊗ m) 0f ⊘ abs a

  -- the bounds that the row leaves an integer variable whose emitted bounds are elo and ehi; blo and bhi are the row's sides that bound it
  unfoldable pub new_lower : ℕ → Row → Float → Float → Float → Float
  new_lower r row a blo elo = choose (is_finite (blo ⊘ a)) (maxf elo (ceil (blo ⊘ a ⊖ widened_at r row a blo))) elo

  unfoldable pub new_upper : ℕ → Row → Float → Float → Float → Float
  new_upper r row a bhi ehi = choose (is_finite (bhi ⊘ a)) (minf ehi (floor (bhi ⊘ a ⊕ widened_at r row a bhi))) ehi

  unfoldable pub singleton_int : ℕ → Row → ℕ → Float → Float → Float → Work → Step
  singleton_int r row v a blo bhi w =
      let lo = new_lower r row a blo (at w.elo v) in
      let hi = new_upper r row a bhi (at w.ehi v) in
      choose (gt lo hi) (stop w.counts) (next (emit_bounds M v lo hi w))

  -- any other variable: whether the row misses its bounds, both with their tolerances
  unfoldable pub singleton_misses : ℕ → Row → ℕ → Float → Float → Float → Work → Bool
  singleton_misses r row v a blo bhi w =
      gt (blo ⊘ a ⊖ room_at r row a blo) (at w.ehi v ⊕ bound_tol M w v true)
      || lt (bhi ⊘ a ⊕ room_at r row a bhi) (at w.elo v ⊖ bound_tol M w v false)

  unfoldable pub singleton_bounds : ℕ → Row → ℕ → Float → Float → Float → Work → Step
  singleton_bounds r row v a blo bhi w =
      choose (is_int M v)
      (singleton_int r row v a blo bhi w)
      (choose (singleton_misses r row v a blo bhi w) (stop w.counts) (next w))

  -- whether the emitted bounds, with their tolerance, meet each side of the row within its whole tolerance less round-off
  unfoldable pub lower_meets : Row → ℕ → Float → Float → Work → Bool
  lower_meets row v a blo w = not (is_finite (blo ⊘ a)) || ge (at w.elo v ⊖ bound_tol M w v false) (blo ⊘ a ⊖ dropped_room row a blo)

  unfoldable pub upper_meets : Row → ℕ → Float → Float → Work → Bool
  upper_meets row v a bhi w = not (is_finite (bhi ⊘ a)) || le (at w.ehi v ⊕ bound_tol M w v true) (bhi ⊘ a ⊕ dropped_room row a bhi)

  unfoldable pub singleton_drop : ℕ → Row → ℕ → Float → Float → Float → Work → Work
  singleton_drop r row v a blo bhi w = choose (lower_meets row v a blo w && upper_meets row v a bhi w) (drop_row r row w) w

  unfoldable pub singleton_row : ℕ → Row → Term → Work → Step
  singleton_row r row t w =
      let a = t.coeff in
      let blo = choose (gt a 0f) row.lo row.hi in
      let bhi = choose (gt a 0f) row.hi row.lo in
      singleton_bounds r row t.var a blo bhi w >>= λ w1. next (singleton_drop r row t.var a blo bhi w1)
