-- src/presolve/work.rs of microlp 0.7.0, changed: `Work`, the state that the reductions change, a step that may find the model infeasible, and what
-- is read off it.
-- Working bounds collect every implied bound and lead to further ones. Emitted bounds are what the reduced model has: those of an integer variable
-- are rounded, implied or fixed, all others are as given. A row is dropped only where the emitted bounds imply it, never by a working bound whose
-- reason may be that very row. A row whose magnitude is m, |b| plus the sum of |a·x|, is held to its budget at m, which is its tolerance less the
-- round-off of evaluating it. That magnitude is taken at the corner of the box that a decision is about, never over the whole box, so a huge bound
-- does not widen the tolerance of a row at small values.
use Rattle.std.specs.Prelude.{ℕ, Bool, false, ◌&&◌, ◌||◌, List, [], ◌∷◌, eqb, set, Float}
use Rattle.std.proofs.Math.Option.{none}
use Rattle.std.specs.Float.{nan}
use Rattle.std.specs.Float.Ieee.{eq}
use Rattle.floats.specs.Num.{choose, 0f, is_finite}
use Rattle.tolerances.specs.Tol.{Term, term, at, bound_tolerance, slack_tol, says_true, trivial_verdict}
use Rattle.definition.specs.declared.Counts.{Counts}
use Rattle.definition.specs.Model.{Model, nnz, op_of, rhs_of, Row, with_alive, dropped}

-- the working bounds, the emitted bounds, the rows, whether each is queued, whether the coefficient pass has to look at it, the queue, the counts
pub record Work : Type 0 where
  pub wlo : List Float
  pub whi : List Float
  pub elo : List Float
  pub ehi : List Float
  pub rows : List Row
  pub dirty : List Bool
  pub coeff_dirty : List Bool
  pub queue : List ℕ
  pub counts : Counts

abbrev pub with_bounds : List Float → List Float → List Float → List Float → Work → Work
with_bounds a b c d w = record { wlo = a; whi = b; elo = c; ehi = d; rows = w.rows; dirty = w.dirty; coeff_dirty = w.coeff_dirty; queue = w.queue; counts = w.counts }

abbrev pub with_marks : List Bool → List Bool → List ℕ → Work → Work
with_marks d c q w = record { wlo = w.wlo; whi = w.whi; elo = w.elo; ehi = w.ehi; rows = w.rows; dirty = d; coeff_dirty = c; queue = q; counts = w.counts }

abbrev pub with_rows : List Row → Work → Work
with_rows l w = record { wlo = w.wlo; whi = w.whi; elo = w.elo; ehi = w.ehi; rows = l; dirty = w.dirty; coeff_dirty = w.coeff_dirty; queue = w.queue; counts = w.counts }

abbrev pub with_row : ℕ → Row → Work → Work
with_row r x w = with_rows (set w.rows r x) w

abbrev pub with_counts : Counts → Work → Work
with_counts k w = record { wlo = w.wlo; whi = w.whi; elo = w.elo; ehi = w.ehi; rows = w.rows; dirty = w.dirty; coeff_dirty = w.coeff_dirty; queue = w.queue; counts = k }

-- `Result<(), Error>`: infeasible, with the counts reached so far, or the state to go on with
pub data Step : Type 0 where
  stop : Counts → Step
  next : Work → Step

-- `?`
infixl 10 ◌>>=◌
abbrev pub ◌>>=◌ : Step → (Work → Step) → Step
◌>>=◌ (stop k) f = stop k
◌>>=◌ (next w) f = f w

-- what a list is read as past its end
abbrev pub no_term : Term
no_term = term 0 nan

abbrev pub no_row : Row
no_row = record { terms = []; lo = 0f; hi = 0f; fold_scale = 0f; shift = 0f; folded = []; alive = false; touched = false; binding = none }

unfoldable pub has : ℕ → List ℕ → Bool
has v [] = false
has v (u ∷ us) = eqb u v || has v us

unfoldable pub has_term : ℕ → List Term → Bool
has_term v [] = false
has_term v (t ∷ ts) = eqb t.var v || has_term v ts

-- `fixed`: by the emitted bounds
unfoldable pub fixed : Work → ℕ → Bool
fixed w v = eq (at w.elo v) (at w.ehi v) && is_finite (at w.elo v)

-- a row leaves: `alive = false; rows_dropped += 1`
unfoldable pub drop_row : ℕ → Row → Work → Work
drop_row r row w = with_counts (dropped w.counts) (with_row r (with_alive false row) w)

module _ (M : Model) where
  -- 01's "budget" of row r at a magnitude, `budget`: by the row's terms as written, zeros and folded ones among them
  unfoldable pub budget : ℕ → Float → Float
  budget r m = slack_tol M.feas m (nnz M r)

  -- `bound_tol`: always of the emitted bound
  unfoldable pub bound_tol : Work → ℕ → Bool → Float
  bound_tol w v upper = bound_tolerance M.feas (choose upper (at w.ehi v) (at w.elo v))

  -- 01's "trivially true": by `trivial_row_verdict`, of the row as handed in. Such a row is never at work
  unfoldable pub trivial : ℕ → Bool
  trivial r = says_true (trivial_verdict M.feas (op_of M r) (nnz M r) (rhs_of M r))
