-- src/presolve/mod.rs of microlp 0.7.0, changed: the start of `presolve`.
-- Where bounds cross there is no point. In Mip, integer bounds are rounded first: no whole number within them is lost, and what is fixed later is
-- whole. A row that its own data decide, with no term or with an infinite right side, is judged as it stands (`trivial_row_verdict`).
use Rattle.std.specs.Prelude.{ℕ, zero, suc, Bool, true, false, ◌||◌, List, [], ◌∷◌, ◌++◌, set, Float}
use Rattle.std.proofs.Math.Option.{Option, none, some}
use Rattle.floats.specs.Num.{choose, ◌⊕◌, ◌⊖◌, gt, is_finite, floor, ceil}
use Rattle.tolerances.specs.Tol.{at, trivial_verdict}
use Rattle.definition.specs.Model.{Model, nnz, op_of, rhs_of, is_int, Row, with_alive, as_written}

-- ---- all variables: some lower bound lies above its upper
unfoldable pub crossed : List Float → List Float → Bool
crossed [] hs = false
crossed (l ∷ ls) [] = false
crossed (l ∷ ls) (h ∷ hs) = gt l h || crossed ls hs

-- ---- integer bounds, variable by variable: only finite ones are rounded
unfoldable pub rounded_lower : Float → Float → Float
rounded_lower tol l = choose (is_finite l) (ceil (l ⊖ tol)) l

unfoldable pub rounded_upper : Float → Float → Float
rounded_upper tol h = choose (is_finite h) (floor (h ⊕ tol)) h

pub data Bounds : Type 0 where
  cross : Bounds
  bounds : List Float → List Float → Bounds

-- ---- rows: one that fails as it stands, after so many that are trivially true; or all rows, the queue, which rows are queued, and how many are trivially true
pub data Rows : Type 0 where
  false_row : ℕ → Rows
  rows_are : List Row → List ℕ → List Bool → ℕ → Rows

module _ (M : Model) where
  unfoldable pub round_var : ℕ → Bounds → Bounds
  round_var v cross = cross
  round_var v (bounds ls hs) =
      let l = rounded_lower M.int_tol (at ls v) in
      let h = rounded_upper M.int_tol (at hs v) in
      choose (is_int M v) (choose (gt l h) cross (bounds (set ls v l) (set hs v h))) (bounds ls hs)

  -- the n variables from v on
  unfoldable pub round_from : ℕ → ℕ → Bounds → Bounds
  round_from zero v b = b
  round_from (suc n) v b = round_from n (suc v) (round_var v b)

  -- a row keeps its number: the Rust leaves a trivially true row out of its list, here it stands there dropped and is never at work
  unfoldable pub add_row : ℕ → List Row → List ℕ → List Bool → ℕ → Option Bool → Rows
  add_row r rows queue dirty drops none = rows_are (rows ++ (as_written M r ∷ [])) (queue ++ (r ∷ [])) (dirty ++ (true ∷ [])) drops
  add_row r rows queue dirty drops (some true) = rows_are (rows ++ (with_alive false (as_written M r) ∷ [])) queue (dirty ++ (false ∷ [])) (suc drops)
  add_row r rows queue dirty drops (some false) = false_row drops

  unfoldable pub read_row : ℕ → Rows → Rows
  read_row r (false_row n) = false_row n
  read_row r (rows_are rows queue dirty drops) = add_row r rows queue dirty drops (trivial_verdict M.feas (op_of M r) (nnz M r) (rhs_of M r))

  -- the n rows from r on
  unfoldable pub read_from : ℕ → ℕ → Rows → Rows
  read_from zero r s = s
  read_from (suc n) r s = read_from n (suc r) (read_row r s)
