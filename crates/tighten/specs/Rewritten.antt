-- The end of a rewrite: the row is queued, and given back or marked as rewritten and counted.
use Rattle.std.specs.Prelude.{ℕ, ◌+◌, ◌%◌, ◌^◌, ◌<◌, ◌≡◌, refl, ◌≢◌, Bool, true, false, List, length, get_or}
use Rattle.std.proofs.Common.{arith, ap, sym, ◌∙◌, subst, get_or-set_same}
use Rattle.std.proofs.Math.Option.{Option}
use Rattle.std.specs.Float.{nan}
use Rattle.definition.specs.declared.Activity.{Activity}
use Rattle.definition.specs.Model.{Model, Row, Binding, with_touched}
use Rattle.definition.specs.Work.{Work, with_row, no_row}
use Rattle.definition.specs.Folds.{gives_back, given_back, hold_rewrites}
use Rattle.definition.specs.Tighten.{Rewriting, queued}
use Rattle.space.specs.declared.Context.{Context}
use Rattle.space.specs.Store.{Floats, Numbers, put_touched, put_rewrote}
use Rattle.view.specs.Call.{Call}
use Rattle.view.specs.Shows.{is_one, Shows, parts_of, BindingShown, unbound, is_bound, RowShown}
use Rattle.view.specs.Inv.{Inv}
use Rattle.view.specs.Lists.{yes, no, one_is}
use Rattle.view.specs.Acts.{Ready, ActsN, Any}
use Rattle.view.specs.Rows.{row_now, inv_row}
use Rattle.bounds.specs.Queued.{inv_queued}
use Rattle.readers.specs.Reading.{row_of, Alive}
use Rattle.readers.specs.RowAt.{row_alive, row_inv, alive_of}
use Rattle.folds.specs.Apart.{elsewhere, untouched, outside, other_shown}
use Rattle.folds.specs.Stands.{Standing, Turns, turns_acts, tells_reads, standing}
use Rattle.folds.specs.Holding.{HoldsRow}
use Rattle.tighten.specs.Staying.{row_again}
use Rattle.tighten.specs.Over.{back, on, ended, queued_rows, shown}
use Rattle.tighten.specs.Carried.{progress_of, Carries}
use Rattle.tighten.specs.Counted.{rewrote_acts}
use Rattle.tighten.specs.Keeping.{given_is, touched_inv}

-- ---- put_touched: row r, alone, is marked as rewritten
module _ {M : Model} (f : Floats) (n : Numbers) (r : ℕ) where
  bound_same : {q : ℕ} {b : Option Binding} → BindingShown M (parts_of f n) q b → BindingShown M (parts_of f (put_touched r 1 n)) q b
  bound_same (unbound e) = unbound e
  bound_same (is_bound {b} h) =
      is_bound
      {b = b}
      (record { count = h.count; some = h.some; fits = h.fits; binary = h.binary; written = h.written; rewritten = h.rewritten; kept = h.kept })

  now_touched : {x : Row} → r < length n.touched → RowShown M (parts_of f n) r x → RowShown M (parts_of f (put_touched r 1 n)) r (with_touched true x)
  now_touched l h =
      record {
        len = h.len;
        folds = h.folds;
        fits = h.fits;
        terms = λ k q. record { var = (h.terms k q).var; coeff = (h.terms k q).coeff };
        folded = λ k q. record { var = (h.folded k q).var; coeff = (h.folded k q).coeff };
        lo = h.lo;
        hi = h.hi;
        fold_scale = h.fold_scale;
        shift = h.shift;
        touched = ap is_one (get_or-set_same n.touched r 1 0 l) ∙ one_is;
        binding = bound_same h.binding;
      }

  others_same : {s : Context} {y : Row} {q : ℕ} → Call M s → r < length M.rhs → q < length M.rhs → q ≢ r → RowShown M (parts_of f n) q y → RowShown M (parts_of f (put_touched r 1 n)) q y
  others_same c lr lq ne h =
      other_shown c lq lr ne
      (record {
        lo = untouched f.lo nan;
        hi = untouched f.hi nan;
        fold_scale = untouched f.fold_scale nan;
        shift = untouched f.shift nan;
        written = untouched f.written nan;
        rewritten = untouched f.rewritten nan;
        kept = untouched f.kept nan;
        len = untouched n.len 0;
        folded = untouched n.folded 0;
        touched = elsewhere n.touched 0 r 1;
        binaries = untouched n.binaries 0;
        coeffs = outside f.coeffs nan;
        vars = outside n.vars 0;
        binary = outside n.binary 0;
      })
      h

touch_turns : {P : Model → Type 0} {s : Context} {r : ℕ} {f : Floats} {n n' : Numbers} → r < s.rows → length n.touched ≡ s.rows → n' ≡ put_touched r 1 n
    → Turns P s r f n f n' (λ M w. with_touched true)
touch_turns {r = r} {f = f} {n = n} p l e =
    record {
      does = λ M w x q c h.
          rw e
          (record {
            alive = h.flag ∙ sym h.alive;
            now = λ _. now_touched f n r (omega (arith, p, l)) h.shown;
            alive_other = λ j ne. refl;
            other = λ j y lj ne g. others_same f n r c (omega (arith, p, c.rows)) lj ne g;
            wlo = refl;
            whi = refl;
            elo = refl;
            ehi = refl;
            dirty = refl;
            coeff_dirty = refl;
            queued = refl;
            queue = refl;
            tally = refl;
            wave = refl;
          });
    }

-- ---- hold_rewrites, by whether the row is given back
held_is : (M : Model) (r : ℕ) (w : Work) (x : Row) → gives_back x ≡ false → hold_rewrites M r w x ≡ x
unfolding hold_rewrites
held_is M r w x e = no _ _ e

-- what hold_rewrites asks for
pub queued_standing : {P : Model → Type 0} {s : Context} {r : ℕ} {f : Floats} {n n₁ : Numbers} → Ready P s f n → r < s.rows → Alive n r → ActsN Any s n n₁ (λ M. queued r) → Standing P s r f n₁
queued_standing {r = r} {f = f} R p a q =
    let h₁ = q.does R.model f R.other R.left R.work tt R.call R.shows R.inv in
    let e = ap (λ (l : List Row). (get_or l r no_row).alive) (queued_rows r R.work) ∙ row_alive R.call R.shows p a in
    standing
    (record {
      model = R.model;
      other = R.other;
      left = R.left;
      work = queued r R.work;
      known = R.known;
      call = R.call;
      shows = h₁;
      inv = inv_queued r R.work R.inv;
    })
    p (alive_of R.call h₁ p e)

-- the end of a rewrite, in the state as the slices show it
abbrev pub ended_at : ℕ → Activity → Activity → Model → Work → Rewriting
ended_at r old act M w = ended M r (row_of w r) old act (queued r w)

module _ {P : Model → Type 0} {s : Context} (r : ℕ) {f f₂ : Floats} {n n₁ n₂ : Numbers} {z : Bool} (p : r < s.rows) (a : Alive n r)
    (q : ActsN Any s n n₁ (λ M. queued r)) (H : HoldsRow P s r f n₁ f₂ n₂ z) (old act : Activity) where
  module _ (M : Model) (o : List ℕ) (k : ℕ) (w : Work) (m : P M) (c : Call M s) (h : Shows M f n o w) (i : Inv M k w) where
    same_row : row_of (queued r w) r ≡ row_of w r
    same_row = ap (λ (l : List Row). get_or l r no_row) (queued_rows r w)

    h₁ : Shows M f n₁ o (queued r w)
    h₁ = q.does M f o k w tt c h i

    i₁ : Inv M k (queued r w)
    i₁ = inv_queued r w i

    live : (row_of w r).alive ≡ true
    live = row_alive c h p a

    a₁ : Alive n₁ r
    a₁ = alive_of c h₁ p (ap (λ (y : Row). y.alive) same_row ∙ live)

    gives : gives_back (row_of w r) ≡ z
    gives = ap gives_back (sym same_row) ∙ (tells_reads p a₁ H.back).reads M o k (queued r w) m c h₁ i₁

    h₂ : Shows M f₂ n₂ o (with_row r (hold_rewrites M r (queued r w) (row_of w r)) (queued r w))
    h₂ = subst (λ (y : Row). Shows M f₂ n₂ o (with_row r (hold_rewrites M r (queued r w) y) (queued r w))) same_row ((turns_acts p a₁ H.row).does M o k (queued r w) m c h₁ i₁)

    module _ (e : z ≡ true) where
      back_is : ended M r (row_of w r) old act (queued r w) ≡ back (given_back M r (queued r w)) old (queued r w)
      back_is = yes _ _ (gives ∙ e)

      back_shown : Shows M f₂ n₂ o (shown r (ended_at r old act M w))
      back_shown =
          subst (λ (y : Rewriting). Shows M f₂ n₂ o (shown r y)) (sym back_is)
          (subst (λ (y : Row). Shows M f₂ n₂ o (with_row r y (queued r w))) (given_is c r (omega (arith, p, c.rows)) (queued r w) (row_of w r) (gives ∙ e)) h₂)

    module _ (e : z ≡ false) where
      on_is : ended M r (row_of w r) old act (queued r w) ≡ on (row_of w r) act (queued r w)
      on_is = no _ _ (gives ∙ e)

      -- the row as it was
      abbrev same : Work
      same = with_row r (row_of w r) (queued r w)

      h₃ : Shows M f₂ n₂ o same
      h₃ = subst (λ (y : Row). Shows M f₂ n₂ o (with_row r y (queued r w))) (held_is M r (queued r w) (row_of w r) (gives ∙ e)) h₂

      i₃ : Inv M k same
      i₃ = inv_row r (row_of w r) (queued r w) i₁ (λ _. row_inv c h p a i)

      row₃ : row_of same r ≡ row_of w r
      row₃ = row_now r (row_of w r) (queued r w) (omega (arith, p, c.rows, i₁.rowses))

      a₃ : Alive n₂ r
      a₃ = alive_of c h₃ p (ap (λ (y : Row). y.alive) row₃ ∙ live)

      abbrev touched : Work
      touched = with_row r (with_touched true (row_of w r)) (queued r w)

      touched_is : with_row r (with_touched true (row_of same r)) same ≡ touched
      touched_is = ap (λ (y : Row). with_row r (with_touched true y) same) row₃ ∙ row_again r (row_of w r) (with_touched true (row_of w r)) (queued r w)

      on_shown : {n₃ n₄ : Numbers} → length n₂.touched ≡ s.rows → n₃ ≡ put_touched r 1 n₂ → length n₃.rewrote ≡ 1
          → n₄ ≡ put_rewrote 0 ((get_or n₃.rewrote 0 0 + 1) % 2 ^ 64) n₃ → Shows M f₂ n₄ o (shown r (ended_at r old act M w))
      on_shown {n₃} {n₄} lt e₃ lr e₄ =
          let h₄ : Shows M f₂ n₃ o touched = subst (Shows M f₂ n₃ o) touched_is ((turns_acts {P = P} p a₃ (touch_turns p lt e₃)).does M o k same m c h₃ i₃) in
          let i₄ : Inv M k touched = inv_row r (with_touched true (row_of w r)) (queued r w) i₁ (λ _. touched_inv (row_of w r) (row_inv c h p a i)) in
          subst (λ (y : Rewriting). Shows M f₂ n₄ o (shown r y)) (sym on_is) ((rewrote_acts {P = Any} lr e₄).does M f₂ o k touched tt c h₄ i₄)

  pub rewritten_back : z ≡ true → Carries P s r f n f₂ n₂ (record { act = old; changed = true; broke = true }) (ended_at r old act)
  rewritten_back e =
      record {
        does = λ M o k w m c h i. back_shown M o k w m c h i e;
        says = λ M o k w m c h i. ap progress_of (back_is M o k w m c h i e);
      }

  pub rewritten_on : {n₃ n₄ : Numbers} → z ≡ false → length n₂.touched ≡ s.rows → n₃ ≡ put_touched r 1 n₂ → length n₃.rewrote ≡ 1 → n₄ ≡ put_rewrote 0 ((get_or n₃.rewrote 0 0 + 1) % 2 ^ 64) n₃
      → Carries P s r f n f₂ n₄ (record { act = act; changed = true; broke = false }) (ended_at r old act)
  rewritten_on e lt e₃ lr e₄ =
      record {
        does = λ M o k w m c h i. on_shown M o k w m c h i e lt e₃ lr e₄;
        says = λ M o k w m c h i. ap progress_of (on_is M o k w m c h i e);
      }
