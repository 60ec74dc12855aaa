-- 01's table of refusals with 02's rows, for a call: the number of the earliest row of the table that applies, or none. The order is the table's, not the numbers'.
-- Over the call's numbers and the lengths of the lent slices. It is the port's own: the Rust leaves these things to its caller, or panics. What
-- passes has lists that fit each other, indices that rise, known codes, numbers where presolve computes with them, tolerances in their range, and
-- room for the results, which every promise about a call starts from.
use Rattle.std.specs.Prelude.{ℕ, zero, suc, ◌+◌, ◌-◌, ◌*◌, Bool, false, not, ◌&&◌, ◌||◌, List, [], ◌∷◌, eqb, ltb, leb, length, get_or, Float}
use Rattle.std.proofs.Math.Option.{Option, none, some}
use Rattle.std.specs.Float.Ieee.{eq, le, is_nan, of_bits}
use Rattle.floats.specs.Num.{choose, 0f, ½f, ∞f, -∞f, is_finite}
use Rattle.tolerances.specs.Tol.{at, slack_min, slack_max, valid_rhs}
use Rattle.definition.specs.Model.{Model, from, upto, nnz, op_of, rhs_of}

-- the lengths of the lent slices: results per variable, per row (emitted rows are five slices: number, mark, right side, both ends of the span) and per term;
-- the working slices: floats, numbers, and the rows of each variable
pub record Lent : Type 0 where
  pub lower : ℕ
  pub upper : ℕ
  pub emit_row : ℕ
  pub emit_rewritten : ℕ
  pub emit_rhs : ℕ
  pub emit_from : ℕ
  pub emit_upto : ℕ
  pub kept : ℕ
  pub term_index : ℕ
  pub term_coeff : ℕ
  pub floats : ℕ
  pub numbers : ℕ
  pub adjacency : ℕ

-- ---- the maxima
abbrev pub MAX_VARS : ℕ
MAX_VARS = 4096

abbrev pub MAX_ROWS : ℕ
MAX_ROWS = 8192

abbrev pub MAX_TERMS : ℕ
MAX_TERMS = 65536

-- of one row
abbrev pub MAX_ROW_TERMS : ℕ
MAX_ROW_TERMS = 256

-- ---- docs/WORKSPACE.md: what the working slices need
unfoldable pub floats_needed : ℕ → ℕ → ℕ → ℕ
floats_needed vars rows terms = 4 * vars + 8 * rows + terms

unfoldable pub numbers_needed : ℕ → ℕ → ℕ → ℕ
numbers_needed vars rows terms = 6 + 10 * rows + 3 * vars + 2 * terms

unfoldable pub adjacency_needed : ℕ → ℕ → ℕ
adjacency_needed vars terms = vars + 1 + terms

-- whether the test holds of a number below n
unfoldable pub some_below : (ℕ → Bool) → ℕ → Bool
some_below p zero = false
some_below p (suc n) = some_below p n || p n

module _ (M : Model) where
  -- how many there are: as many variables as objective coefficients, rows as right sides, terms as indices
  abbrev pub vars : ℕ
  vars = length M.obj

  abbrev pub rows : ℕ
  rows = length M.rhs

  abbrev pub terms : ℕ
  terms = length M.index

  -- 1: slice lengths disagree; row starts have one entry more than there are rows
  unfoldable pub lengths_disagree : Bool
  lengths_disagree =
      not (eqb (length M.lower) vars) || not (eqb (length M.upper) vars) || not (eqb (length M.domain) vars)
      || not (eqb (length M.starts) (suc rows)) || not (eqb (length M.cmp) rows) || not (eqb (length M.coeff) terms)

  -- 2: more than a maximum
  unfoldable pub too_large : Bool
  too_large = ltb MAX_VARS vars || ltb MAX_ROWS rows || ltb MAX_TERMS terms

  -- 3: the first start is not 0, one falls, or the last is not the term count
  unfoldable pub start_falls : ℕ → Bool
  start_falls r = ltb (upto M r) (from M r)

  unfoldable pub starts_wrong : Bool
  starts_wrong = not (eqb (from M 0) 0) || some_below start_falls rows || not (eqb (from M rows) terms)

  -- 4: an index is too large, or the one before it in its row is not below it
  unfoldable pub index_large : ℕ → Bool
  index_large k = leb vars (get_or M.index k 0)

  unfoldable pub index_falls : ℕ → ℕ → Bool
  index_falls r k = leb (get_or M.index (suc (from M r + k)) 0) (get_or M.index (from M r + k) 0)

  unfoldable pub row_unordered : ℕ → Bool
  row_unordered r = some_below (index_falls r) (nnz M r - 1)

  unfoldable pub indices_wrong : Bool
  indices_wrong = some_below index_large terms || some_below row_unordered rows

  -- 18: a row has more terms than a row may have, counted as they are written, zeros too
  unfoldable pub row_long : ℕ → Bool
  row_long r = ltb MAX_ROW_TERMS (nnz M r)

  unfoldable pub rows_long : Bool
  rows_long = some_below row_long rows

  -- 5: a domain, comparison or mode above 2
  unfoldable pub domain_wrong : ℕ → Bool
  domain_wrong v = ltb 2 (get_or M.domain v 0)

  unfoldable pub cmp_wrong : ℕ → Bool
  cmp_wrong r = ltb 2 (op_of M r)

  unfoldable pub codes_wrong : Bool
  codes_wrong = some_below domain_wrong vars || some_below cmp_wrong rows || ltb 2 M.mode

  -- 6: a bound is not a number, a lower one +infinity or an upper one -infinity
  unfoldable pub bound_wrong : ℕ → Bool
  bound_wrong v =
      let l = at M.lower v in
      let h = at M.upper v in
      is_nan l || is_nan h || eq l ∞f || eq h -∞f

  unfoldable pub bounds_wrong : Bool
  bounds_wrong = some_below bound_wrong vars

  -- 7: an objective or coefficient is not finite
  unfoldable pub obj_wrong : ℕ → Bool
  obj_wrong v = not (is_finite (at M.obj v))

  unfoldable pub coeff_wrong : ℕ → Bool
  coeff_wrong k = not (is_finite (at M.coeff k))

  unfoldable pub numbers_wrong : Bool
  numbers_wrong = some_below obj_wrong vars || some_below coeff_wrong terms

  -- 8: `valid_rhs` says no
  unfoldable pub rhs_wrong : ℕ → Bool
  rhs_wrong r = not (valid_rhs (op_of M r) (rhs_of M r))

  unfoldable pub rhses_wrong : Bool
  rhses_wrong = some_below rhs_wrong rows

  -- 9: a tolerance outside 0 to 0.5, or not a number; -0 is a zero
  unfoldable pub tolerance_wrong : Float → Bool
  tolerance_wrong t = not (le 0f t && le t ½f)

  unfoldable pub tolerances_wrong : Bool
  tolerances_wrong = tolerance_wrong M.feas || tolerance_wrong M.int_tol

  -- 10: a result or working slice is too short
  unfoldable pub too_short : Lent → Bool
  too_short L =
      ltb L.lower vars || ltb L.upper vars
      || ltb L.emit_row rows || ltb L.emit_rewritten rows || ltb L.emit_rhs rows || ltb L.emit_from rows || ltb L.emit_upto rows || ltb L.kept rows
      || ltb L.term_index terms || ltb L.term_coeff terms
      || ltb L.floats (floats_needed vars rows terms) || ltb L.numbers (numbers_needed vars rows terms) || ltb L.adjacency (adjacency_needed vars terms)

  -- the shortest slices that such a call may lend
  unfoldable pub shortest : Lent
  shortest =
      record {
        lower = vars;
        upper = vars;
        emit_row = rows;
        emit_rewritten = rows;
        emit_rhs = rows;
        emit_from = rows;
        emit_upto = rows;
        kept = rows;
        term_index = terms;
        term_coeff = terms;
        floats = floats_needed vars rows terms;
        numbers = numbers_needed vars rows terms;
        adjacency = adjacency_needed vars terms;
      }

-- the table, in its order
abbrev pub table : Model → Lent → List (ℕ × Bool)
table M L =
    (1, lengths_disagree M) ∷ (2, too_large M) ∷ (3, starts_wrong M) ∷ (4, indices_wrong M) ∷ (18, rows_long M) ∷ (5, codes_wrong M) ∷ (6, bounds_wrong M)
    ∷ (7, numbers_wrong M) ∷ (8, rhses_wrong M) ∷ (9, tolerances_wrong M) ∷ (10, too_short M L) ∷ []

unfoldable pub earliest : List (ℕ × Bool) → Option ℕ
earliest [] = none
earliest (c ∷ cs) =
    let later = earliest cs in
    choose c.1 (some c.0) later

unfoldable pub refusal : Model → Lent → Option ℕ
refusal M L = earliest (table M L)

-- to unfold this is to unfold all that its line names: every definition that refusal comes to
unfoldable pub judging : Unit {0}
unfolding eq le is_nan of_bits choose is_finite slack_min slack_max valid_rhs from upto nnz op_of rhs_of floats_needed numbers_needed adjacency_needed some_below
    lengths_disagree too_large start_falls starts_wrong index_large index_falls row_unordered indices_wrong row_long rows_long domain_wrong cmp_wrong codes_wrong bound_wrong
    bounds_wrong obj_wrong coeff_wrong numbers_wrong rhs_wrong rhses_wrong tolerance_wrong tolerances_wrong too_short shortest earliest refusal
judging = tt
