-- What `fold_fixed` keeps: a row that is alive stays alive, its invariant, and its room in its span.
use Rattle.std.specs.Prelude.{ℕ, ◌+◌, ◌≤◌, ◌<◌, ◌≡◌, refl, Bool, true, false, ltb, get_or, Float}
use Rattle.std.proofs.Common.{arith, sym, ◌∙◌}
use Rattle.std.proofs.Math.Path.{ap, subst}
use Rattle.std.proofs.Math.Option.{Option, none, some}
use Rattle.std.proofs.Math.ListN.{length}
use Rattle.floats.specs.Num.{choose, ◌⊕◌, ◌⊖◌, gt, is_finite}
use Rattle.definition.specs.Model.{Model, nnz, Row, Binding, with_range, with_binding, as_written}
use Rattle.definition.specs.Work.{Work, with_row, no_row}
use Rattle.definition.specs.Folds.{fold_loop, bound?, gives_back, with_kept, widen, rewrite_room, fixed_besides, relax_with, relax_binding, given_back, hold_rewrites, fold_fixed}
use Rattle.space.specs.declared.Context.{Context}
use Rattle.view.specs.Call.{Call}
use Rattle.view.specs.Inv.{BinariesIn, BindingIn, some_in, RowInv}
use Rattle.view.specs.Acts.{Keeps}
use Rattle.view.specs.Lists.{no, either}
use Rattle.view.specs.Rows.{inv_row}
use Rattle.folds.specs.Written.{written_length}
use Rattle.folds.specs.Keeping.{FoldsTo, folds_inv, binaries_too, loop_folds}
use Rattle.folds.specs.Relaxing.{relax_unbound}
use Rattle.folds.specs.WrittenInv.{as_written_inv, as_written_alive, as_written_room, as_written_terms, as_written_unbound}

pub record Kept (M : Model) (r : ℕ) (x y : Row) : Type 0 where
  pub alive : x.alive ≡ true → y.alive ≡ true
  pub inv : (x.alive ≡ true → RowInv M r x) → y.alive ≡ true → RowInv M r y
  pub room : length x.terms + length x.folded ≤ nnz M r → length y.terms + length y.folded ≤ nnz M r

pub kept_same : {M : Model} {r : ℕ} {x : Row} → Kept M r x x
kept_same = record { alive = λ a. a; inv = λ i a. i a; room = λ l. l }

pub kept_then : {M : Model} {r : ℕ} {x y z : Row} → Kept M r x y → Kept M r y z → Kept M r x z
kept_then a b = record { alive = λ h. b.alive (a.alive h); inv = λ i h. b.inv (a.inv i) h; room = λ l. b.room (a.room l) }

pub folds_kept : {M : Model} {r : ℕ} {x y : Row} → FoldsTo x y → Kept M r x y
folds_kept d = record { alive = λ a. d.alive ∙ a; inv = λ i a. folds_inv d (i (sym d.alive ∙ a)); room = λ l. omega (arith, l, d.room) }

-- ---- relax_binding
some_in_lem : {M : Model} {r : ℕ} {x : Row} {b : Binding} → BindingIn M r x (some b) → BinariesIn M r x b.binaries
some_in_lem (some_in i) = i

relax_with_kept : (M : Model) (r : ℕ) (w : Work) (x : Row) (o : Option Binding) → x.binding ≡ o → Kept M r x (relax_with M w x o)
unfolding relax_with widen
relax_with_kept M r w x none e = kept_same
relax_with_kept M r w x (some b) e =
    let k = rewrite_room M b.written b.rewritten (fixed_besides w x b.binaries) in
    either (Kept M r x) (gt k b.kept)
    (λ _. either (λ (u : Row). Kept M r x (with_binding (some (with_kept k b)) u)) (is_finite x.hi)
    (λ _. record { alive = λ a. a; inv = λ i a. wider x.lo (x.hi ⊕ (k ⊖ b.kept)) k (i a); room = λ l. l })
    (λ _. record { alive = λ a. a; inv = λ i a. wider (x.lo ⊖ (k ⊖ b.kept)) x.hi k (i a); room = λ l. l }))
    (λ _. kept_same)
  where
    wider : (lo hi k : Float) → RowInv M r x → RowInv M r (with_binding (some (with_kept k b)) (with_range lo hi x))
    wider lo hi k i = record { distinct = i.distinct; all_in = i.all_in; binaries = some_in {b = with_kept k b} (binaries_too (λ v. omega arith) (some_in_lem (subst (BindingIn M r x) e i.binaries))) }

pub relax_kept : (M : Model) (r : ℕ) (w : Work) (x : Row) → Kept M r x (relax_binding M w x)
unfolding relax_binding
relax_kept M r w x = relax_with_kept M r w x x.binding refl

-- ---- hold_rewrites and fold_fixed
pub gives_none : (x : Row) → x.binding ≡ none → gives_back x ≡ false
unfolding gives_back bound?
gives_none x e = rw e

hold_unbound : (M : Model) (r : ℕ) (w : Work) (x : Row) → x.binding ≡ none → hold_rewrites M r w (relax_binding M w x) ≡ x
unfolding hold_rewrites
hold_unbound M r w x e = let z = relax_unbound M w x e in rw z (no _ _ (gives_none x e))

choose_same : {A : Type 0} (b : Bool) (x : A) → choose b x x ≡ x
unfolding choose
choose_same true x = refl
choose_same false x = refl

module _ {M : Model} {s : Context} (r : ℕ) (w : Work) (c : Call M s) (p : r < length M.rhs) where
  given_folds : FoldsTo (as_written M r) (given_back M r w)
  unfolding given_back as_written
  given_folds = subst (λ (k : ℕ). FoldsTo (as_written M r) (fold_loop k w (0, as_written M r)).1) (written_length c p) (loop_folds w (as_written M r))

  given_kept : (x : Row) → Kept M r x (given_back M r w)
  given_kept x =
      record {
        alive = λ _. given_folds.alive ∙ as_written_alive M r;
        inv = λ _ _. folds_inv given_folds (as_written_inv c p);
        room = λ _. omega (arith, given_folds.room, as_written_room M r, written_length c p);
      }

  pub hold_kept : (x : Row) → Kept M r x (hold_rewrites M r w x)
  unfolding hold_rewrites
  hold_kept x = either (Kept M r x) (gives_back x) (λ _. given_kept x) (λ _. kept_same)

  pub fold_fixed_kept : (x : Row) → Kept M r x (fold_fixed M r w x)
  unfolding fold_fixed
  fold_fixed_kept x =
      let row1 = (fold_loop (length x.terms) w (0, x)).1 in
      let a = folds_kept (loop_folds w x) in
      either (Kept M r x) (ltb (length x.folded) (length row1.folded)) (λ _. kept_then a (kept_then (relax_kept M r w row1) (hold_kept (relax_binding M w row1)))) (λ _. a)

  loop_given : (fold_loop (length (as_written M r).terms) w (0, as_written M r)).1 ≡ given_back M r w
  unfolding given_back
  loop_given = ap (λ (k : ℕ). (fold_loop k w (0, as_written M r)).1) (ap length (as_written_terms M r) ∙ written_length c p)

  -- the row as written is folded to the row given back: it has no binding, so nothing relaxes or gives back again
  pub given_again : fold_fixed M r w (as_written M r) ≡ given_back M r w
  unfolding fold_fixed
  given_again =
      let row1 = (fold_loop (length (as_written M r).terms) w (0, as_written M r)).1 in
      let u : row1.binding ≡ none = (loop_folds w (as_written M r)).binding ∙ as_written_unbound M r in
      ap (λ (x : Row). choose (ltb (length (as_written M r).folded) (length row1.folded)) x row1) (hold_unbound M r w row1 u)
      ∙ choose_same (ltb (length (as_written M r).folded) (length row1.folded)) row1 ∙ loop_given

pub fold_fixed_keeps : {P : Model → Type 0} {s : Context} (r : ℕ) → r < s.rows → Keeps P s (λ M w. with_row r (fold_fixed M r w (get_or w.rows r no_row)) w)
fold_fixed_keeps r p =
    record {
      keeps = λ M k w h c i.
          let l : r < length M.rhs = omega (arith, p, c.rows) in
          inv_row r (fold_fixed M r w (get_or w.rows r no_row)) w i ((fold_fixed_kept r w c l (get_or w.rows r no_row)).inv (i.rows r l));
    }
