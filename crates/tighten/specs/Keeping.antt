-- Rewriting keeps the invariant, of the state and of the carried row; and a row that is not given back keeps its length.
use Prim.Native.Nat.{ℕ, zero, suc, ◌+◌, ◌≤◌, ◌<◌}
use Rattle.std.proofs.Common.{arith, sym, ◌∙◌, subst, length-set}
use Rattle.std.specs.Prelude.{◌≡◌, Bool, ◌||◌, eqb, length, Float}
use Rattle.std.proofs.Math.Path.{refl, ap}
use Rattle.std.proofs.Math.Bool.{true, false}
use Rattle.tolerances.specs.Tol.{Term}
use Rattle.definition.specs.declared.Activity.{Activity}
use Rattle.definition.specs.Model.{Model, Row, with_touched}
use Rattle.definition.specs.Work.{Work}
use Rattle.definition.specs.Folds.{gives_back, given_back, hold_rewrites}
use Rattle.definition.specs.Rewrites.{Form, le_form, ge_form, no_form, Rewrite, keeps, coeff_only, coeff_bound, rewrites}
use Rattle.definition.specs.Tighten.{Rewriting, set_coeff, queued, rebound_row, row_after, rewrite_step, rewrite_loop}
use Rattle.definition.specs.Choices.{or_left, or_true_left}
use Rattle.space.specs.declared.Context.{Context}
use Rattle.view.specs.Call.{Call}
use Rattle.view.specs.Inv.{RowInv, Inv}
use Rattle.view.specs.Lists.{yes, either}
use Rattle.view.specs.Rows.{inv_row}
use Rattle.bounds.specs.Queued.{inv_queued}
use Rattle.folds.specs.Counting.{true_false}
use Rattle.folds.specs.Kept.{Kept, hold_kept}
use Rattle.coeffs.specs.Keeping.{binding_by, after_inv}
use Rattle.tighten.specs.Nonzero.{rewrite_nonzero}
use Rattle.tighten.specs.After.{after_alive}
use Rattle.tighten.specs.Over.{ended, term_here, rewrite_here, step_is, shown}
use Rattle.tighten.specs.Counted.{inv_rewrote}

-- ---- a row after a rewrite is as long
rebound_length : (M : Model) (f : Form) (w : Work) (row : Row) (i v : ℕ) (a na bp : Float) → length (rebound_row M f w row i v a na bp).terms ≡ length row.terms
unfolding rebound_row set_coeff
rebound_length M le_form w row i v a na bp = length-set row.terms i _
rebound_length M ge_form w row i v a na bp = length-set row.terms i _
rebound_length M no_form w row i v a na bp = refl

after_length : (M : Model) (f : Form) (w : Work) (row : Row) (i : ℕ) (t : Term) (x : Rewrite) → length (row_after M f w row i t x).terms ≡ length row.terms
unfolding row_after set_coeff
after_length M f w row i t keeps = refl
after_length M f w row i t (coeff_only na) = length-set row.terms i _
after_length M f w row i t (coeff_bound na bp d) = rebound_length M f w row i t.var t.coeff na bp

pub touched_inv : {M : Model} {r : ℕ} (x : Row) → RowInv M r x → RowInv M r (with_touched true x)
touched_inv x n = record { distinct = n.distinct; all_in = n.all_in; binaries = binding_by (λ v h. h) n.binaries }

-- ---- a row given back
module _ {M : Model} {s : Context} (c : Call M s) (r : ℕ) (p : r < length M.rhs) (w : Work) (x : Row) (e : gives_back x ≡ true) where
  pub given_is : hold_rewrites M r w x ≡ given_back M r w
  unfolding hold_rewrites
  given_is = yes _ _ e

  given_kept : Kept M r x (given_back M r w)
  given_kept = subst (Kept M r x) given_is (hold_kept r w c p x)

-- ---- the state and the carried row have the invariant
pub record RewritingInv (M : Model) (k r : ℕ) (x : Rewriting) : Type 0 where
  pub inv : Inv M k x.work
  pub alive : x.row.alive ≡ true
  pub row : RowInv M r x.row

pub good_shown : {M : Model} {k : ℕ} (r : ℕ) (x : Rewriting) → RewritingInv M k r x → Inv M k (shown r x)
good_shown r x g = inv_row r x.row x.work g.inv (λ _. g.row)

module _ {M : Model} {s : Context} {k : ℕ} (c : Call M s) (r : ℕ) (p : r < length M.rhs) where
  ended_good : (row : Row) (old act : Activity) (w : Work) → Inv M k w → row.alive ≡ true → RowInv M r row → RewritingInv M k r (ended M r row old act w)
  ended_good row old act w i a n =
      either (RewritingInv M k r) (gives_back row)
      (λ e.
      let g = given_kept c r p w row e in
      let b = g.alive a in
      record { inv = i; alive = b; row = g.inv (λ _. n) b })
      (λ e. record { inv = inv_rewrote w i; alive = a; row = touched_inv row n })

  module _ (f : Form) (nz : Float) where
    pub step_good : (i : ℕ) (x : Rewriting) → (x.broke ≡ false → i < length x.row.terms) → RewritingInv M k r x → RewritingInv M k r (rewrite_step M f nz r i x)
    step_good i x l g =
        subst (RewritingInv M k r) (sym (step_is M f nz r i x))
        (either (RewritingInv M k r) (x.broke || eqb (rewrites (rewrite_here M f nz i x)) 0) (λ e. g)
        (λ e.
        let t = term_here i x in
        let y = rewrite_here M f nz i x in
        ended_good (row_after M f x.work x.row i t y) x.act _ (queued r x.work) (inv_queued r x.work g.inv) (after_alive M f x.work x.row i t y ∙ g.alive)
        (after_inv f x.work x.row i y (l (or_left x.broke _ e)) (rewrite_nonzero M nz f x.work x.row x.act t) g.row)))

-- ---- a row that is not given back is as long as before
module _ (M : Model) (f : Form) (nz : Float) (r : ℕ) where
  pub step_length : (i : ℕ) (x : Rewriting) → (rewrite_step M f nz r i x).broke ≡ false → length (rewrite_step M f nz r i x).row.terms ≡ length x.row.terms
  step_length i x e =
      let q = step_is M f nz r i x in
      subst (λ (y : Rewriting). y.broke ≡ false → length y.row.terms ≡ length x.row.terms) (sym q)
      (either (λ (y : Rewriting). y.broke ≡ false → length y.row.terms ≡ length x.row.terms) (x.broke || eqb (rewrites (rewrite_here M f nz i x)) 0) (λ _ _. refl)
      (λ _. either (λ (y : Rewriting). y.broke ≡ false → length y.row.terms ≡ length x.row.terms) (gives_back (row_after M f x.work x.row i (term_here i x) (rewrite_here M f nz i x)))
      (λ _ d. true_false d)
      (λ _ _. after_length M f x.work x.row i (term_here i x) (rewrite_here M f nz i x))))
      e

  -- a broken loop is over
  step_broke : (i : ℕ) (x : Rewriting) → x.broke ≡ true → rewrite_step M f nz r i x ≡ x
  step_broke i x e = step_is M f nz r i x ∙ yes _ _ (or_true_left x.broke _ e)

  pub loop_broke : (n i : ℕ) (x : Rewriting) → x.broke ≡ true → rewrite_loop M n f nz r i x ≡ x
  unfolding rewrite_loop
  loop_broke zero i x e = refl
  loop_broke (suc n) i x e = ap (rewrite_loop M n f nz r (suc i)) (step_broke i x e) ∙ loop_broke n (suc i) x e

module _ {M : Model} {s : Context} {k : ℕ} (c : Call M s) (r : ℕ) (p : r < length M.rhs) (f : Form) (nz : Float) where
  pub loop_good : (n i : ℕ) (x : Rewriting) → (x.broke ≡ false → i + n ≤ length x.row.terms) → RewritingInv M k r x → RewritingInv M k r (rewrite_loop M n f nz r i x)
  unfolding rewrite_loop
  loop_good zero i x l g = g
  loop_good (suc n) i x l g =
      loop_good n (suc i) (rewrite_step M f nz r i x)
      (λ e.
      let b : x.broke ≡ false = stays e x.broke refl in
      let z = step_length M f nz r i x e in
      omega (arith, l b, z))
      (step_good c r p f nz i x (λ e. omega (arith, l e)) g)
    where
      stays : (rewrite_step M f nz r i x).broke ≡ false → (b : Bool) → x.broke ≡ b → b ≡ false
      stays e true h = true_false (sym (ap (λ (y : Rewriting). y.broke) (step_broke M f nz r i x h) ∙ h) ∙ e)
      stays e false h = refl
