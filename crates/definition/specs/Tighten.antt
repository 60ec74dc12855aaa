-- `tighten_binary_coeffs` of src/presolve/work.rs of microlp 0.7.0, changed: coefficient tightening on rows with one finite side, for strict
-- binaries, row by row.
-- Why whole points are kept: Rewrites and Bindings. Not kept is a point that meets the row within its budget only with a binary off its whole number:
-- the new coefficient takes away the room that the offset gives. A long row with many eligible terms is left alone: on a loose dense row of binaries
-- every coefficient is eligible, and the row would fall towards a mere count of them, tighter but with very many equal solutions. What pays on a long
-- row is one or two coefficients that are far too large.
use Rattle.std.specs.Prelude.{ℕ, zero, suc, ◌+◌, Bool, true, false, not, ◌&&◌, ◌||◌, List, [], ◌∷◌, ◌++◌, eqb, ltb, length, get_or, set, Float}
use Rattle.std.proofs.Math.Option.{some}
use Rattle.std.specs.Float.Ieee.{eq}
use Rattle.floats.specs.Num.{choose, ◌⊕◌, ◌⊖◌, 0f, 1f}
use Rattle.tolerances.specs.Tol.{Term, term, at}
use Rattle.definition.specs.declared.Activity.{Activity}
use Rattle.definition.specs.Model.{Model, is_int_domain, Row, with_touched, with_terms, with_range, with_binding, rewrote}
use Rattle.definition.specs.Work.{Work, with_marks, with_row, with_counts, no_row, no_term}
use Rattle.definition.specs.Activities.{activity}
use Rattle.definition.specs.Folds.{gives_back, given_back}
use Rattle.definition.specs.Rewrites.{Form, le_form, ge_form, no_form, form_of, Rewrite, keeps, coeff_only, coeff_bound, rewrites, vacuous_room, act_after, vacuous}
use Rattle.definition.specs.Bindings.{rewrite_binding, growth}

-- the row, its activity kept up to date, the state, whether some row was rewritten, and whether the loop was left
pub record Rewriting : Type 0 where
  pub row : Row
  pub act : Activity
  pub work : Work
  pub changed : Bool
  pub broke : Bool

unfoldable pub set_coeff : ℕ → ℕ → Float → Row → Row
set_coeff i v a row = with_terms (set row.terms i (term v a)) row

-- a rewrite queues its row without marking it for this pass again
unfoldable pub queued : ℕ → Work → Work
queued r w =
    choose (get_or w.dirty r true)
    (w)
    (with_marks (set w.dirty r true) w.coeff_dirty (w.queue ++ (r ∷ [])) w)

module _ (M : Model) where
  -- strictly binary in the emitted bounds, as numbers: minus zero is a zero
  unfoldable pub binary : Work → ℕ → Bool
  binary w v = is_int_domain M v && eq (at w.elo v) 0f && eq (at w.ehi v) 1f

  -- nz: the relaxation of the vacuous branch. The Rust writes this test twice, where it counts and where it rewrites, with the same operations in the same order
  unfoldable pub rewrite_of : Form → Float → Work → Row → Activity → Term → Rewrite
  rewrite_of f nz w row act t = choose (binary w t.var && not (eq t.coeff 0f)) (vacuous M f nz row act t.coeff) keeps

  -- how many terms are eligible, all at the activity before the first rewrite
  unfoldable pub eligible : Form → Float → Work → Row → Activity → List Term → ℕ → ℕ
  eligible f nz w row act [] n = n
  eligible f nz w row act (t ∷ ts) n = eligible f nz w row act ts (n + rewrites (rewrite_of f nz w row act t))

  -- the row after a rewrite that moves its bound
  unfoldable pub rebound_row : Form → Work → Row → ℕ → ℕ → Float → Float → Float → Row
  rebound_row le_form w row i v a na bp =
      let row1 = set_coeff i v na row in
      let bd = rewrite_binding M w row1 v a row.hi bp in
      with_binding (some bd) (with_range row.lo (bp ⊕ growth M row.hi row bd) row1)
  rebound_row ge_form w row i v a na bp =
      let row1 = set_coeff i v na row in
      let bd = rewrite_binding M w row1 v a row.lo bp in
      with_binding (some bd) (with_range (bp ⊖ growth M row.lo row bd) row.hi row1)
  rebound_row no_form w row i v a na bp = row

  unfoldable pub row_after : Form → Work → Row → ℕ → Term → Rewrite → Row
  row_after f w row i t keeps = row
  row_after f w row i t (coeff_only na) = set_coeff i t.var na row
  row_after f w row i t (coeff_bound na bp d) = rebound_row f w row i t.var t.coeff na bp

  -- the term at place i. A row that is given back as written leaves the loop: it is queued, and the step says that something changed, but nothing is counted
  unfoldable pub rewrite_step : Form → Float → ℕ → ℕ → Rewriting → Rewriting
  rewrite_step f nz r i s =
      let t = get_or s.row.terms i no_term in
      let x = rewrite_of f nz s.work s.row s.act t in
      let row1 = row_after f s.work s.row i t x in
      let w1 = queued r s.work in
      let back : Rewriting = record { row = given_back M r w1; act = s.act; work = w1; changed = true; broke = true } in
      let on : Rewriting =
      record { row = with_touched true row1; act = act_after f t.coeff x s.act; work = with_counts (rewrote w1.counts) w1; changed = true; broke = false } in
      let done : Rewriting = choose (gives_back row1) back on in
      choose (s.broke || eqb (rewrites x) 0) s done

  -- the n terms from i on
  unfoldable pub rewrite_loop : ℕ → Form → Float → ℕ → ℕ → Rewriting → Rewriting
  rewrite_loop zero f nz r i s = s
  rewrite_loop (suc n) f nz r i s = rewrite_loop n f nz r (suc i) (rewrite_step f nz r i s)

  -- whether a row with n eligible terms is left alone: the cap is on rows with many live terms
  unfoldable pub spared : Row → ℕ → Bool
  spared row n = eqb n 0 || ltb M.params.coeff_tighten_short_row (length row.terms) && ltb M.params.coeff_tighten_row_cap n

  unfoldable pub tighten_form : Form → ℕ → Row → Work → Bool → Work × Bool
  tighten_form f r row w changed =
      let act = activity M w row true in
      let nz = vacuous_room f row act in
      choose (spared row (eligible f nz w row act row.terms 0))
      ((w, changed))
      (let s = rewrite_loop (length row.terms) f nz r 0 (record { row = row; act = act; work = w; changed = changed; broke = false }) in
      (with_row r s.row s.work, s.changed))

  unfoldable pub tighten_by : Form → ℕ → Row → Work → Bool → Work × Bool
  tighten_by le_form r row w changed = tighten_form le_form r row w changed
  tighten_by ge_form r row w changed = tighten_form ge_form r row w changed
  tighten_by no_form r row w changed = (w, changed)

  -- only a row whose inputs changed since this pass last saw it
  unfoldable pub tighten_row : ℕ → Work → Bool → Work × Bool
  tighten_row r w changed =
      let row = get_or w.rows r no_row in
      let w1 = with_marks w.dirty (set w.coeff_dirty r false) w.queue w in
      choose (row.alive && get_or w.coeff_dirty r false) (tighten_by (form_of row) r row w1 changed) ((w, changed))

  unfoldable pub tighten_from : ℕ → ℕ → Work → Bool → Work × Bool
  tighten_from zero r w changed = (w, changed)
  tighten_from (suc n) r w changed =
      let s = tighten_row r w changed in
      tighten_from n (suc r) s.0 s.1

  -- the state after, and whether something changed
  unfoldable pub tighten_binary_coeffs : Work → Work × Bool
  tighten_binary_coeffs w = tighten_from (length w.rows) 0 w false
