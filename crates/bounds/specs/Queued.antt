-- A row is queued, with its mark for the coefficient step or without: the definition's `mark_row` is its `queued` once the mark is set.
use Rattle.std.specs.Prelude.{ℕ, ◌+◌, ◌<◌, ◌≡◌, refl, Bool, true, false, List, [], ◌∷◌, ◌++◌, map, length, get_or, set, take}
use Rattle.std.proofs.Common.{arith, add-one, ap, sym, ◌∙◌, subst, length-set, length-append, take-suc-set, get_or-set_same}
use Rattle.definition.specs.Model.{Model}
use Rattle.definition.specs.Work.{Work, with_marks}
use Rattle.definition.specs.Marks.{mark_row}
use Rattle.definition.specs.Tighten.{queued}
use Rattle.space.specs.declared.Context.{Context}
use Rattle.space.specs.Store.{Floats, Numbers, put_dirty, put_coeff_dirty, put_queue, put_queued}
use Rattle.view.specs.Call.{Call}
use Rattle.view.specs.Shows.{is_one, Shows}
use Rattle.view.specs.Inv.{Inv}
use Rattle.view.specs.Acts.{ReadyN, ActsN, Any, Keeps, then_numbers, ready_next}
use Rattle.view.specs.Lists.{yes, no, either, one_is, one_not, map_set, marked_le, clear_in, marked_set, below_add}
use Rattle.view.specs.Marks.{flag_of}

-- ---- queued, by whether the row is queued
was_queued : (r : ℕ) (w : Work) → get_or w.dirty r true ≡ true → queued r w ≡ w
unfolding queued
was_queued r w e = yes _ _ e

now_queued : (r : ℕ) (w : Work) → get_or w.dirty r true ≡ false → queued r w ≡ with_marks (set w.dirty r true) w.coeff_dirty (w.queue ++ (r ∷ [])) w
unfolding queued
now_queued r w e = no _ _ e

pub inv_queued : {M : Model} {k : ℕ} (r : ℕ) (w : Work) → Inv M k w → Inv M k (queued r w)
unfolding queued
inv_queued {M} {k} r w i =
    either (Inv M k) (get_or w.dirty r true) (λ e. i)
    (λ e.
    let z = marked_set w.dirty r e in
    let y = clear_in w.dirty r e in
    let x = length-append w.queue (r ∷ []) in
    record {
      wlos = i.wlos;
      whis = i.whis;
      elos = i.elos;
      ehis = i.ehis;
      dirties = length-set w.dirty r true ∙ i.dirties;
      coeff_dirties = i.coeff_dirties;
      rowses = i.rowses;
      queue = below_add i.queue (omega (arith, y, i.dirties));
      room = omega (arith, z, x, i.room);
      rows = i.rows;
    })

-- ---- requeue
was : (n : Numbers) (r : ℕ) {n₁ : Numbers} {q : ℕ} → n₁ ≡ put_dirty r 1 n → q ≡ get_or n₁.queued 0 0 → q ≡ get_or n.queued 0 0
was n r e₂ e₃ = e₃ ∙ ap (λ (z : Numbers). get_or z.queued 0 0) e₂

module _ {s : Context} {n : Numbers} {r : ℕ} {d : ℕ} (p : r < s.rows) (e₁ : d ≡ get_or n.dirty r 0) where
  pub requeue_old : d ≡ 1 → ActsN Any s n n (λ M. queued r)
  requeue_old one =
      record {
        does = λ M f o k w a c h i.
            let g : get_or w.dirty r true ≡ true = flag_of h i (omega (arith, p, c.rows)) ∙ ap is_one (sym e₁ ∙ one) ∙ one_is in
            rw (was_queued r w g) h;
      }

  module _ (ne : d ≡ 1 → ⊥) where
    clear_flag : {M : Model} {f : Floats} {k : ℕ} {o : List ℕ} {w : Work} → Call M s → Shows M f n o w → Inv M k w → get_or w.dirty r true ≡ false
    clear_flag c h i = flag_of h i (omega (arith, p, c.rows)) ∙ one_not (get_or n.dirty r 0) (λ z. ne (e₁ ∙ z))

    -- there is room for a row that is not queued
    room_of : {M : Model} {f : Floats} {k : ℕ} {o : List ℕ} {w : Work} → Call M s → Shows M f n o w → Inv M k w → get_or n.queued 0 0 < s.rows
    room_of {w = w} c h i =
        let z = marked_set w.dirty r (clear_flag c h i) in
        let y = marked_le (set w.dirty r true) in
        let x = length-set w.dirty r true in
        omega (arith, z, y, x, h.queued, i.room, i.dirties, c.rows)

    module _ {n₁ : Numbers} {q : ℕ} (e₂ : n₁ ≡ put_dirty r 1 n) (e₃ : q ≡ get_or n₁.queued 0 0) where
      pub requeue_room : ReadyN Any s n → q < s.rows
      requeue_room R = omega (arith, was n r e₂ e₃, room_of R.ready.call R.ready.shows R.ready.inv)

      pub requeue_new : {n₂ n₃ : Numbers} → length n.queue ≡ s.rows → length n.queued ≡ 1 → n₂ ≡ put_queue q r n₁ → n₃ ≡ put_queued 0 (q + 1) n₂ → ActsN Any s n n₃ (λ M. queued r)
      requeue_new l u e₄ e₅ =
          record {
            does = λ M f o k w a c h i.
                let t : take (q + 1) (set n.queue q r) ≡ w.queue ++ (r ∷ []) =
                rw add-one (take-suc-set n.queue q r (omega (arith, room_of c h i, was n r e₂ e₃, l)) ∙ ap
                (λ (z : List ℕ). z ++ (r ∷ [])) (ap (λ (j : ℕ). take j n.queue) (was n r e₂ e₃) ∙ h.queue)) in
                let x : get_or (set n.queued 0 (q + 1)) 0 0 ≡ q + 1 = get_or-set_same n.queued 0 (q + 1) 0 (omega (arith, u)) in
                rw (now_queued r w (clear_flag c h i), e₅, e₄, e₂)
                (record {
                  wlo = h.wlo;
                  whi = h.whi;
                  elo = h.elo;
                  ehi = h.ehi;
                  dirty = map_set is_one n.dirty r 1 ∙ ap (set (map is_one n.dirty) r) one_is ∙ ap (λ (y : List Bool). set y r true) h.dirty;
                  coeff_dirty = h.coeff_dirty;
                  queued = x ∙ omega (arith, was n r e₂ e₃, h.queued, length-append w.queue (r ∷ []));
                  queue = ap (λ (j : ℕ). take j (set n.queue q r)) x ∙ t;
                  counts = h.counts;
                  wave = h.wave;
                  alive = h.alive;
                  rows = h.rows;
                });
          }

-- ---- a row's mark for the coefficient step
abbrev pub flagged : Bool → ℕ → Work → Work
flagged b r w = with_marks w.dirty (set w.coeff_dirty r b) w.queue w

pub inv_flagged : {M : Model} {k : ℕ} (b : Bool) (r : ℕ) (w : Work) → Inv M k w → Inv M k (flagged b r w)
inv_flagged b r w i =
    record {
      wlos = i.wlos;
      whis = i.whis;
      elos = i.elos;
      ehis = i.ehis;
      dirties = i.dirties;
      coeff_dirties = length-set w.coeff_dirty r b ∙ i.coeff_dirties;
      rowses = i.rowses;
      queue = i.queue;
      room = i.room;
      rows = i.rows;
    }

pub flagged_keeps : {P : Model → Type 0} {s : Context} (b : Bool) (r : ℕ) → Keeps P s (λ M. flagged b r)
flagged_keeps b r = record { keeps = λ M k w p c i. inv_flagged b r w i }

pub flagged_acts : {P : Model → Type 0} {s : Context} {n n' : Numbers} {b : Bool} (r v : ℕ) → is_one v ≡ b → n' ≡ put_coeff_dirty r v n → ActsN P s n n' (λ M. flagged b r)
flagged_acts {n = n} {b = b} r v t e =
    record {
      does = λ M f o k w p c h i.
          rw e
          (record {
            wlo = h.wlo;
            whi = h.whi;
            elo = h.elo;
            ehi = h.ehi;
            dirty = h.dirty;
            coeff_dirty = map_set is_one n.coeff_dirty r v ∙ rw t (ap (λ (l : List Bool). set l r b) h.coeff_dirty);
            queued = h.queued;
            queue = h.queue;
            counts = h.counts;
            wave = h.wave;
            alive = h.alive;
            rows = h.rows;
          });
    }

-- ---- mark_row
mark_is : (r : ℕ) (w : Work) → queued r (flagged true r w) ≡ mark_row r w
unfolding queued mark_row
mark_is r w = refl

module _ {P : Model → Type 0} {s : Context} (r : ℕ) {n n₁ : Numbers} (e : n₁ ≡ put_coeff_dirty r 1 n) where
  pub mark_ready : ReadyN P s n → ReadyN P s n₁
  mark_ready R = ready_next R (flagged_acts r 1 one_is e) (flagged_keeps true r)

  pub mark_acts : {n' : Numbers} → ActsN P s n₁ n' (λ M. queued r) → ActsN P s n n' (λ M. mark_row r)
  mark_acts {n'} q =
      let b = then_numbers (flagged_acts r 1 one_is e) (flagged_keeps true r) q in
      record { does = λ M f o k w p c h i. subst (λ (y : Work). Shows M f n' o y) (mark_is r w) (b.does M f o k w p c h i) }
