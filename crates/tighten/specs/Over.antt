-- A rewriting loop carries its row apart from the state, and reads nothing of the state's rows: what stands there as row r makes no difference until the carried row is stored.
use Prim.Native.Nat.{ℕ, zero, suc}
use Rattle.std.specs.Prelude.{◌≡◌, Bool, true, false, ◌||◌, List, [], ◌∷◌, ◌++◌, eqb, get_or, set, Float}
use Rattle.std.proofs.Math.Path.{refl, ap}
use Rattle.std.proofs.Common.{sym, ◌∙◌}
use Rattle.std.proofs.Math.Option.{some}
use Rattle.std.proofs.lemmas.List.{set-get_or}
use Rattle.floats.specs.Num.{choose, ◌⊕◌, ◌⊖◌}
use Rattle.tolerances.specs.Tol.{Term}
use Rattle.definition.specs.declared.Activity.{Activity}
use Rattle.definition.specs.Model.{Model, Row, Binding, with_touched, with_range, with_binding, rewrote}
use Rattle.definition.specs.Work.{Work, with_marks, with_row, with_counts, fixed, no_row, no_term, with_rows}
use Rattle.definition.specs.Folds.{fold_term, fold_step, fold_loop, gives_back, given_back}
use Rattle.definition.specs.Rewrites.{Form, le_form, ge_form, no_form, Rewrite, keeps, coeff_only, coeff_bound, rewrites, act_after}
use Rattle.definition.specs.Bindings.{rewrite_binding, growth}
use Rattle.definition.specs.Tighten.{Rewriting, set_coeff, queued, binary, rewrite_of, rebound_row, row_after, rewrite_step, rewrite_loop}
use Rattle.view.specs.Lists.{either}
use Rattle.readers.specs.Reading.{row_of}
use Rattle.tighten.specs.Rebinding.{besides_row}
use Rattle.tighten.specs.Staying.{row_again}

-- a function of a choice is the choice of what it gives
pub choose_map : {A B : Type 0} (g : A → B) (b : Bool) (x y : A) → choose b (g x) (g y) ≡ g (choose b x y)
unfolding choose
choose_map g true x y = refl
choose_map g false x y = refl

-- ---- what is read of the state
module _ (r : ℕ) (z : Row) (w : Work) where
  binding_over : (M : Model) (row : Row) (v : ℕ) (a b bp : Float) → rewrite_binding M (with_row r z w) row v a b bp ≡ rewrite_binding M w row v a b bp
  unfolding rewrite_binding
  binding_over M row v a b bp = simp besides_row

  rebound_over : (M : Model) (f : Form) (row : Row) (i v : ℕ) (a na bp : Float) → rebound_row M f (with_row r z w) row i v a na bp ≡ rebound_row M f w row i v a na bp
  unfolding rebound_row
  rebound_over M le_form row i v a na bp =
      ap (λ (b : Binding). with_binding (some b) (with_range row.lo (bp ⊕ growth M row.hi row b) (set_coeff i v na row))) (binding_over M (set_coeff i v na row) v a row.hi bp)
  rebound_over M ge_form row i v a na bp =
      ap (λ (b : Binding). with_binding (some b) (with_range (bp ⊖ growth M row.lo row b) row.hi (set_coeff i v na row))) (binding_over M (set_coeff i v na row) v a row.lo bp)
  rebound_over M no_form row i v a na bp = refl

  pub after_over : (M : Model) (f : Form) (row : Row) (i : ℕ) (t : Term) (x : Rewrite) → row_after M f (with_row r z w) row i t x ≡ row_after M f w row i t x
  unfolding row_after
  after_over M f row i t keeps = refl
  after_over M f row i t (coeff_only na) = refl
  after_over M f row i t (coeff_bound na bp d) = rebound_over M f row i t.var t.coeff na bp

  fold_over : (s : ℕ × Row) → fold_step (with_row r z w) s ≡ fold_step w s
  unfolding fold_step fold_term fixed
  fold_over s = refl

  loop_folds_over : (n : ℕ) (s : ℕ × Row) → fold_loop n (with_row r z w) s ≡ fold_loop n w s
  unfolding fold_loop
  loop_folds_over zero s = refl
  loop_folds_over (suc n) s = ap (fold_loop n (with_row r z w)) (fold_over s) ∙ loop_folds_over n (fold_step w s)

  pub given_over : (M : Model) → given_back M r (with_row r z w) ≡ given_back M r w
  unfolding given_back
  given_over M = ap (λ (y : ℕ × Row). y.1) (loop_folds_over _ _)

  rewrite_over : (M : Model) (f : Form) (nz : Float) (row : Row) (act : Activity) (t : Term) → rewrite_of M f nz (with_row r z w) row act t ≡ rewrite_of M f nz w row act t
  unfolding rewrite_of binary
  rewrite_over M f nz row act t = refl

  pub queued_over : queued r (with_row r z w) ≡ with_row r z (queued r w)
  unfolding queued
  queued_over = choose_map (with_row r z) (get_or w.dirty r true) w (with_marks (set w.dirty r true) w.coeff_dirty (w.queue ++ (r ∷ [])) w)

-- queueing leaves the rows
pub queued_rows : (r : ℕ) (w : Work) → (queued r w).rows ≡ w.rows
unfolding queued
queued_rows r w = either (λ (y : Work). y.rows ≡ w.rows) (get_or w.dirty r true) (λ e. refl) (λ e. refl)

-- ---- a step, once its term is rewritten: the row is given back, or goes on
abbrev pub back : Row → Activity → Work → Rewriting
back row act w = record { row = row; act = act; work = w; changed = true; broke = true }

abbrev pub on : Row → Activity → Work → Rewriting
on row act w = record { row = with_touched true row; act = act; work = with_counts (rewrote w.counts) w; changed = true; broke = false }

abbrev pub ended : Model → ℕ → Row → Activity → Activity → Work → Rewriting
ended M r row old act w = choose (gives_back row) (back (given_back M r w) old w) (on row act w)

-- the term at place i, and its rewrite
abbrev pub term_here : ℕ → Rewriting → Term
term_here i s = get_or s.row.terms i no_term

abbrev pub rewrite_here : Model → Form → Float → ℕ → Rewriting → Rewrite
rewrite_here M f nz i s = rewrite_of M f nz s.work s.row s.act (term_here i s)

abbrev pub end_of : Model → Form → Float → ℕ → ℕ → Rewriting → Rewriting
end_of M f nz r i s =
    ended M r (row_after M f s.work s.row i (term_here i s) (rewrite_here M f nz i s)) s.act (act_after f (term_here i s).coeff (rewrite_here M f nz i s) s.act) (queued r s.work)

pub step_is : (M : Model) (f : Form) (nz : Float) (r i : ℕ) (s : Rewriting) → rewrite_step M f nz r i s ≡ choose (s.broke || eqb (rewrites (rewrite_here M f nz i s)) 0) s (end_of M f nz r i s)
unfolding rewrite_step
step_is M f nz r i s = refl

-- ---- row r of the carried state is z
abbrev pub over : ℕ → Row → Rewriting → Rewriting
over r z s = record { row = s.row; act = s.act; work = with_row r z s.work; changed = s.changed; broke = s.broke }

pub ended_over : (M : Model) (r : ℕ) (z row : Row) (old act : Activity) (w : Work) → ended M r row old act (with_row r z w) ≡ over r z (ended M r row old act w)
ended_over M r z row old act w =
    ap (λ (y : Row). choose (gives_back row) (back y old (with_row r z w)) (on row act (with_row r z w))) (given_over r z w M)
    ∙ choose_map (over r z) (gives_back row) (back (given_back M r w) old w) (on row act w)

end_over : (M : Model) (f : Form) (nz : Float) (r i : ℕ) (z : Row) (s : Rewriting) → end_of M f nz r i (over r z s) ≡ over r z (end_of M f nz r i s)
end_over M f nz r i z s =
    let t = term_here i s in
    let x = rewrite_here M f nz i s in
    let w = with_row r z s.work in
    let act = act_after f t.coeff x s.act in
    let row1 = row_after M f s.work s.row i t x in
    ap (λ (y : Rewrite). ended M r (row_after M f w s.row i t y) s.act (act_after f t.coeff y s.act) (queued r w)) (rewrite_over r z s.work M f nz s.row s.act t)
    ∙ ap (λ (y : Row). ended M r y s.act act (queued r w)) (after_over r z s.work M f s.row i t x)
    ∙ ap (ended M r row1 s.act act) (queued_over r z s.work)
    ∙ ended_over M r z row1 s.act act (queued r s.work)

pub step_over : (M : Model) (f : Form) (nz : Float) (r i : ℕ) (z : Row) (s : Rewriting) → rewrite_step M f nz r i (over r z s) ≡ over r z (rewrite_step M f nz r i s)
step_over M f nz r i z s =
    step_is M f nz r i (over r z s)
    ∙ ap (λ (x : Rewrite). choose (s.broke || eqb (rewrites x) 0) (over r z s) (end_of M f nz r i (over r z s))) (rewrite_over r z s.work M f nz s.row s.act (term_here i s))
    ∙ ap (choose (s.broke || eqb (rewrites (rewrite_here M f nz i s)) 0) (over r z s)) (end_over M f nz r i z s)
    ∙ choose_map (over r z) _ s (end_of M f nz r i s)
    ∙ ap (over r z) (sym (step_is M f nz r i s))

pub loop_over : (M : Model) (n : ℕ) (f : Form) (nz : Float) (r i : ℕ) (z : Row) (s : Rewriting) → rewrite_loop M n f nz r i (over r z s) ≡ over r z (rewrite_loop M n f nz r i s)
unfolding rewrite_loop
loop_over M zero f nz r i z s = refl
loop_over M (suc n) f nz r i z s = ap (rewrite_loop M n f nz r (suc i)) (step_over M f nz r i z s) ∙ loop_over M n f nz r (suc i) z (rewrite_step M f nz r i s)

-- ---- something changed before: the flag is all that it makes another
abbrev pub or_changed : Bool → Rewriting → Rewriting
or_changed b s = record { row = s.row; act = s.act; work = s.work; changed = b || s.changed; broke = s.broke }

end_changed : (M : Model) (r : ℕ) (row : Row) (old act : Activity) (w : Work) → ended M r row old act w ≡ or_changed true (ended M r row old act w)
end_changed M r row old act w = choose_map (or_changed true) (gives_back row) (back (given_back M r w) old w) (on row act w)

pub step_changed : (M : Model) (f : Form) (nz : Float) (r i : ℕ) (b : Bool) (s : Rewriting) → rewrite_step M f nz r i (or_changed b s) ≡ or_changed b (rewrite_step M f nz r i s)
step_changed M f nz r i true s =
    let t = term_here i s in
    let x = rewrite_here M f nz i s in
    let b = s.broke || eqb (rewrites x) 0 in
    step_is M f nz r i (or_changed true s)
    ∙ ap (choose b (or_changed true s)) (end_changed M r (row_after M f s.work s.row i t x) s.act (act_after f t.coeff x s.act) (queued r s.work))
    ∙ choose_map (or_changed true) b s (end_of M f nz r i s)
    ∙ ap (or_changed true) (sym (step_is M f nz r i s))
step_changed M f nz r i false s = refl

pub loop_changed : (M : Model) (n : ℕ) (f : Form) (nz : Float) (r i : ℕ) (b : Bool) (s : Rewriting) → rewrite_loop M n f nz r i (or_changed b s) ≡ or_changed b (rewrite_loop M n f nz r i s)
unfolding rewrite_loop
loop_changed M zero f nz r i b s = refl
loop_changed M (suc n) f nz r i b s = ap (rewrite_loop M n f nz r (suc i)) (step_changed M f nz r i b s) ∙ loop_changed M n f nz r (suc i) b (rewrite_step M f nz r i s)

-- ---- what the slices show of it: the carried row is stored
abbrev pub shown : ℕ → Rewriting → Work
shown r s = with_row r s.row s.work

abbrev pub closed : ℕ → Rewriting → Work × Bool
closed r s = (shown r s, s.changed)

-- to store the row that is there changes nothing
pub stored_is : (r : ℕ) (w : Work) → with_row r (row_of w r) w ≡ w
stored_is r w = ap (λ (l : List Row). with_rows l w) (set-get_or w.rows r no_row)

pub shown_over : (r : ℕ) (z : Row) (s : Rewriting) → shown r (over r z s) ≡ shown r s
shown_over r z s = row_again r z s.row s.work
