-- One row of a wave: its mark is cleared, so that one row less is still to come; then it is folded and handled.
use Rattle.std.specs.Prelude.{ℕ, suc, ◌-◌, ◌<◌, ◌≡◌, refl, Bool, true, false, List, length, get_or, set, Ok}
use Rattle.std.proofs.Common.{arith, ap, sym, ◌∙◌, subst, length-set}
use Rattle.definition.specs.Model.{Model, Row}
use Rattle.definition.specs.Work.{Work, with_marks, with_row, Step, next}
use Rattle.definition.specs.Folds.{fold_fixed}
use Rattle.definition.specs.Wave.{by_count, wave_row}
use Rattle.space.specs.declared.Context.{Context}
use Rattle.space.specs.Store.{Floats, Numbers, put_dirty}
use Rattle.view.specs.declared.Lists.{Lists}
use Rattle.view.specs.Call.{Call}
use Rattle.view.specs.Shows.{is_one, Shows, StepShown, Outcome}
use Rattle.view.specs.Inv.{Inv}
use Rattle.view.specs.Lists.{yes, no, either, one_not, zero_is, map_set, marked_clear}
use Rattle.view.specs.Acts.{Ready, Acts, Tries, Any, ready_after}
use Rattle.view.specs.Steps.{InvStep, goes, acts_under}
use Rattle.view.specs.Known.{Written, Known, known_written}
use Rattle.view.specs.Bounds.{went_by}
use Rattle.view.specs.Rows.{row_now}
use Rattle.readers.specs.Reading.{row_of, Alive}
use Rattle.readers.specs.RowAt.{row_alive, alive_of}
use Rattle.bounds.specs.Same.{passes_of, Leaves, same, same_after}
use Rattle.folds.specs.Stands.{Turns, turns_acts}
use Rattle.folds.specs.Kept.{fold_fixed_kept, fold_fixed_keeps}
use Rattle.wave.specs.ByCount.{inv_count, passes_count}

-- what a wave's row asks: one row of the wave, this one, is still to come
pub record ReadyRow (P : Model → Type 0) (s : Context) (f : Floats) (n : Numbers) : Type 0 where
  pub ready : Ready P s f n
  pub left : 0 < ready.left

pub record TriesRow (P : Model → Type 0) (s : Context) (f : Floats) (n : Numbers) (f' : Floats) (n' : Numbers) (z : Outcome) (F : Model → Work → Step) : Type 0 where
  pub does : (M : Model) (o : List ℕ) (k : ℕ) (w : Work) → P M → Call M s → Shows M f n o w → Inv M (suc k) w → StepShown M f' n' o z (F M w)

pub row_is : {P : Model → Type 0} {s : Context} {f f' : Floats} {n n' : Numbers} {z y : Outcome} {F : Model → Work → Step} → TriesRow P s f n f' n' z F → z ≡ y → TriesRow P s f n f' n' y F
row_is {P} {s} {f} {f'} {n} {n'} {F = F} t e = subst (λ (x : Outcome). TriesRow P s f n f' n' x F) e t

-- ---- its mark is cleared
abbrev cleared : ℕ → Work → Work
cleared r w = with_marks (set w.dirty r false) w.coeff_dirty w.queue w

shows_clear : {M : Model} {f : Floats} {n n' : Numbers} {o : List ℕ} {w : Work} (r : ℕ) → n' ≡ put_dirty r 0 n → Shows M f n o w → Shows M f n' o (cleared r w)
shows_clear {n = n} r e h =
    rw e
    (record {
      wlo = h.wlo;
      whi = h.whi;
      elo = h.elo;
      ehi = h.ehi;
      dirty = map_set is_one n.dirty r 0 ∙ rw zero_is (ap (λ (l : List Bool). set l r false) h.dirty);
      coeff_dirty = h.coeff_dirty;
      queued = h.queued;
      queue = h.queue;
      counts = h.counts;
      wave = h.wave;
      alive = h.alive;
      rows = h.rows;
    })

inv_clear : {M : Model} {k : ℕ} (r : ℕ) (w : Work) → Inv M (suc k) w → Inv M k (cleared r w)
inv_clear r w i =
    let z = marked_clear w.dirty r in
    record {
      wlos = i.wlos;
      whis = i.whis;
      elos = i.elos;
      ehis = i.ehis;
      dirties = length-set w.dirty r false ∙ i.dirties;
      coeff_dirties = i.coeff_dirties;
      rowses = i.rowses;
      queue = i.queue;
      room = omega (arith, z, i.room);
      rows = i.rows;
    }

-- ---- the definition, by whether the row is alive
row_dead_is : (M : Model) (r : ℕ) (w : Work) → (row_of w r).alive ≡ false → wave_row M r w ≡ next (cleared r w)
unfolding wave_row
row_dead_is M r w e = no _ _ e

abbrev folded : Model → ℕ → Work → Row
folded M r w = fold_fixed M r (cleared r w) (row_of w r)

row_live_is : (M : Model) (r : ℕ) (w : Work) → (row_of w r).alive ≡ true → wave_row M r w ≡ by_count M r (folded M r w) (folded M r w).terms (with_row r (folded M r w) (cleared r w))
unfolding wave_row
row_live_is M r w e = yes _ _ e

-- ---- it keeps the invariant
pub inv_wave_row : {M : Model} {s : Context} {k : ℕ} (r : ℕ) (w : Work) → Call M s → r < s.rows → Inv M (suc k) w → InvStep M k (wave_row M r w)
unfolding wave_row
inv_wave_row {M} {s} {k} r w c p i =
    let j = inv_clear r w i in
    either (InvStep M k) _ (λ e. inv_count r _ _ _ ((fold_fixed_keeps {P = Any} {s = s} r p).keeps M k (cleared r w) tt c j)) (λ e. goes j)

-- ---- wave_row
module _ {P : Model → Type 0} {s : Context} {f : Floats} {n n₁ : Numbers} (r : ℕ) (p : r < s.rows) (e₁ : n₁ ≡ put_dirty r 0 n) where
  pub ready_clear : ReadyRow P s f n → Ready P s f n₁
  ready_clear R =
      let q = R.ready in
      record {
        model = q.model;
        other = q.other;
        left = q.left - 1;
        work = cleared r q.work;
        known = q.known;
        call = q.call;
        shows = shows_clear r e₁ q.shows;
        inv = inv_clear r q.work (subst (λ (j : ℕ). Inv q.model j q.work) (omega (arith, R.left)) q.inv);
      }

  pub row_dead : {v : ℕ} → v ≡ get_or n₁.alive r 0 → (v ≡ 1 → ⊥) → TriesRow P s f n f n₁ (Ok tt) (λ M. wave_row M r)
  row_dead ev ne =
      record {
        does = λ M o k w q c h i.
            let g = shows_clear r e₁ h in
            went_by (row_dead_is M r w (sym (g.alive r (omega (arith, p, c.rows))) ∙ one_not (get_or n₁.alive r 0) (λ z. ne (ev ∙ z)))) g;
      }

folds_acts : {lists : Lists} {s : Context} {f f' : Floats} {n n' : Numbers} (r : ℕ)
    → r < s.rows → Alive n r → Turns (Written lists.rows) s r f n f' n' (λ M. fold_fixed M r)
    → Acts (Known lists) s f n f' n' (λ M w. with_row r (fold_fixed M r w (row_of w r)) w)
folds_acts r p a T = acts_under known_written (turns_acts p a T)

module _ {lists : Lists} {s : Context} {f : Floats} {n n₁ : Numbers} {f₂ : Floats}
    {n₂ : Numbers} (r : ℕ) (p : r < s.rows) (e₁ : n₁ ≡ put_dirty r 0 n) {v : ℕ} (ev : v ≡ get_or n₁.alive r 0)
    (one : v ≡ 1) (T : Turns (Written lists.rows) s r f n₁ f₂ n₂ (λ M. fold_fixed M r)) where
  pub ready_folded : ReadyRow (Known lists) s f n → Ready (Known lists) s f₂ n₂
  ready_folded R = ready_after (ready_clear r p e₁ R) (folds_acts r p (sym ev ∙ one) T) (fold_fixed_keeps r p)

  pub alive_folded : ReadyRow (Known lists) s f n → Alive n₂ r
  alive_folded R =
      let q = ready_clear r p e₁ R in
      let w = q.work in
      let h = (folds_acts r p (sym ev ∙ one) T).does q.model q.other q.left w q.known q.call q.shows q.inv in
      let y = fold_fixed q.model r w (row_of w r) in
      let l : r < length w.rows = omega (arith, p, q.call.rows, q.inv.rowses) in
      alive_of q.call h p (ap (λ (x : Row). x.alive) (row_now r y w l) ∙ (fold_fixed_kept r w q.call (omega (arith, p, q.call.rows)) (row_of w r)).alive
      (row_alive q.call q.shows p (sym ev ∙ one)))

  pub row_live : {f₃ : Floats} {n₃ : Numbers} {z : Outcome} → Tries (Known lists) s f₂ n₂ f₃ n₃ z
      (λ M w. by_count M r (row_of w r) (row_of w r).terms w) → TriesRow (Known lists) s f n f₃ n₃ z (λ M. wave_row M r)
  row_live {f₃} {n₃} {z} t =
      record {
        does = λ M o k w q c h i.
            let u = cleared r w in
            let g = shows_clear r e₁ h in
            let j = inv_clear r w i in
            let y = folded M r w in
            let l : r < length u.rows = omega (arith, p, c.rows, j.rowses) in
            let h₂ = (folds_acts r p (sym ev ∙ one) T).does M o k u q c g j in
            let i₂ = (fold_fixed_keeps {P = Any} {s = s} r p).keeps M k u tt c j in
            let e : row_of (with_row r y u) r ≡ y = row_now r y u l in
            let a : (row_of w r).alive ≡ true = row_alive c g p (sym ev ∙ one) in
            subst (λ (x : Step). StepShown M f₃ n₃ o z x)
            (ap (λ (x : Row). by_count M r x x.terms (with_row r y u)) e ∙ sym (row_live_is M r w a))
            (t.does M o k (with_row r y u) q c h₂ i₂);
      }

-- ---- the count of waves is left
pub passes_row : (M : Model) (r : ℕ) (w : Work) → Leaves passes_of w (wave_row M r w)
unfolding wave_row
passes_row M r w = either (Leaves passes_of w) _ (λ e. same_after refl (passes_count M r _ _ (with_row r (folded M r w) (cleared r w)))) (λ e. same refl)
