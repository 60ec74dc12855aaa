-- `fold_fixed`, `relax_binding`, `rewrite_room` and `hold_rewrites` of src/presolve/work.rs of microlp 0.7.0, changed: fixed variables and zero
-- coefficients leave a row.
-- The reduced model itself holds a fixed variable at its value, so its term is a constant and goes over to the sides; a zero coefficient says
-- nothing. A rewritten row was relaxed by what its rewrites took out of its tolerance, at the magnitude of its bound, its rewritten binaries and its
-- fixed terms: the difference grows with each term that is fixed, so the row is relaxed further. Where that arithmetic overflows and no side stays
-- finite, the row goes back as written: a rewrite only tightens the row for solutions that are not whole, so the row as written keeps every point
-- that the rewrites kept.
use Rattle.std.specs.Prelude.{ℕ, zero, suc, ◌-◌, Bool, true, false, not, ◌&&◌, List, [], ◌∷◌, ◌++◌, ltb, length, get_or, take, set, Float}
use Rattle.std.proofs.Math.Option.{Option, none, some}
use Rattle.std.specs.Float.Ieee.{eq}
use Rattle.floats.specs.Num.{choose, ◌⊕◌, ◌⊖◌, ◌⊗◌, gt, 0f, ∞f, is_finite, abs, maxf}
use Rattle.tolerances.specs.Tol.{Term, at, row_tolerance}
use Rattle.definition.specs.Model.{Model, nnz, Binding, Row, with_terms, with_range, with_binding, as_written}
use Rattle.definition.specs.Work.{Work, no_term, has, fixed}

-- `Vec::swap_remove`: the last term moves into the gap, which fixes the order of every later sum over the row
unfoldable pub swap_remove : List Term → ℕ → List Term
swap_remove ts i =
    let n = length ts - 1 in
    take n (set ts i (get_or ts n no_term))

-- a fixed variable's term leaves. An infinite side survives a finite shift; one that overflows can make it a NaN
unfoldable pub fold_term : Work → ℕ → Term → Row → Row
fold_term w i t row =
    let s = t.coeff ⊗ at w.elo t.var in
    record {
      terms = swap_remove row.terms i;
      lo = row.lo ⊖ s;
      hi = row.hi ⊖ s;
      fold_scale = row.fold_scale ⊕ abs s;
      shift = row.shift ⊕ s;
      folded = row.folded ++ (t ∷ []);
      alive = row.alive;
      touched = row.touched;
      binding = row.binding;
    }

-- the place looked at, and the row: where a term leaves, the one that moved into its place is looked at next. A zero coefficient leaves with no fold
unfoldable pub fold_step : Work → ℕ × Row → ℕ × Row
fold_step w s =
    let i = s.0 in
    let row = s.1 in
    let t = get_or row.terms i no_term in
    choose (eq t.coeff 0f)
    (i, with_terms (swap_remove row.terms i) row)
    (choose (fixed w t.var) (i, fold_term w i t row) (suc i, row))

-- n terms not yet looked at
unfoldable pub fold_loop : ℕ → Work → ℕ × Row → ℕ × Row
fold_loop zero w s = s
fold_loop (suc n) w s = fold_loop n w (fold_step w s)

-- `fixed_besides`: the magnitude of the folded terms but the binaries'. The Rust's `sum` starts at minus zero, which is not seen: it is added to a magnitude
unfoldable pub fixed_besides_from : Work → List ℕ → Float → List Term → Float
fixed_besides_from w bs s [] = s
fixed_besides_from w bs s (t ∷ ts) =
    fixed_besides_from w bs (choose (has t.var bs) s (s ⊕ abs (t.coeff ⊗ at w.elo t.var))) ts

unfoldable pub fixed_besides : Work → Row → List ℕ → Float
fixed_besides w row bs = fixed_besides_from w bs 0f row.folded

-- `if hi.is_finite() { hi += widen } else { lo -= widen }`
unfoldable pub widen : Float → Float → Row → Row
widen kept old row = choose (is_finite row.hi) (with_range row.lo (row.hi ⊕ (kept ⊖ old)) row) (with_range (row.lo ⊖ (kept ⊖ old)) row.hi row)

abbrev pub with_kept : Float → Binding → Binding
with_kept k b = record { binaries = b.binaries; written = b.written; rewritten = b.rewritten; kept = k }

unfoldable pub bound? : Option Binding → Bool
bound? none = false
bound? (some b) = true

-- whether `hold_rewrites` gives the row back as written: its rewrites left it no finite side
unfoldable pub gives_back : Row → Bool
gives_back row = bound? row.binding && not (is_finite row.lo) && not (is_finite row.hi)

module _ (M : Model) where
  -- `rewrite_room`: the tolerance at the magnitude as written less that as rewritten, fixed terms in both. It is infinite where the magnitude overflows, and the row then goes back
  unfoldable pub rewrite_room : Float → Float → Float → Float
  rewrite_room wr re fx =
      let m = wr ⊕ fx in
      choose (is_finite m) (maxf (row_tolerance M.feas m ⊖ row_tolerance M.feas (re ⊕ fx)) 0f) ∞f

  unfoldable pub relax_with : Work → Row → Option Binding → Row
  relax_with w row none = row
  relax_with w row (some b) =
      let kept = rewrite_room b.written b.rewritten (fixed_besides w row b.binaries) in
      choose (gt kept b.kept)
      (with_binding (some (with_kept kept b)) (widen kept b.kept row))
      (row)

  unfoldable pub relax_binding : Work → Row → Row
  relax_binding w row = relax_with w row row.binding

  -- the row as written, of nnz M r terms, folded. It has no binding, so to fold it neither relaxes nor gives back again
  unfoldable pub given_back : ℕ → Work → Row
  given_back r w = (fold_loop (nnz M r) w (0, as_written M r)).1

  unfoldable pub hold_rewrites : ℕ → Work → Row → Row
  hold_rewrites r w row = choose (gives_back row) (given_back r w) row

  unfoldable pub fold_fixed : ℕ → Work → Row → Row
  fold_fixed r w row =
      let row1 = (fold_loop (length row.terms) w (0, row)).1 in
      choose (ltb (length row.folded) (length row1.folded))
      (hold_rewrites r w (relax_binding w row1))
      (row1)
