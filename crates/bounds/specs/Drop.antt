-- A row leaves.
use Rattle.std.specs.Prelude.{ℕ, ◌+◌, ◌%◌, ◌^◌, ◌<◌, ◌≡◌, refl, true, false, length, get_or}
use Rattle.std.proofs.Common.{arith, ap, ◌∙◌, get_or-set_same, get_or-set_other}
use Rattle.definition.specs.Model.{Model, Row, with_alive}
use Rattle.definition.specs.Work.{Work, drop_row}
use Rattle.space.specs.declared.Context.{Context}
use Rattle.space.specs.Store.{Floats, Numbers, put_alive, put_dropped}
use Rattle.view.specs.Shows.{is_one}
use Rattle.view.specs.Inv.{Inv}
use Rattle.view.specs.Lists.{zero_is, count_mod}
use Rattle.view.specs.Acts.{ActsN, Any}
use Rattle.view.specs.Rows.{OneRow, shows_row, inv_row}
use Rattle.readers.specs.Reading.{row_of}

never : false ≡ true → {A : Type 0} → A
never e = absurd (let z : ◌≡◌ {A = ℕ} 0 1 = cc in omega arith)

one_dropped : {M : Model} {f : Floats} {n n₁ : Numbers} (r : ℕ) (x : Row) → r < length n.alive → n₁ ≡ put_alive r 0 n → OneRow M r (with_alive false x) f n f n₁
one_dropped {n = n} r x l e =
    rw e
    (record {
      alive = ap is_one (get_or-set_same n.alive r 0 0 l) ∙ zero_is;
      now = λ z. never z;
      alive_other = λ q ne. get_or-set_other n.alive r q 0 0 ne;
      other = λ q y p ne h. h;
      wlo = refl;
      whi = refl;
      elo = refl;
      ehi = refl;
      dirty = refl;
      coeff_dirty = refl;
      queued = refl;
      queue = refl;
      tally = refl;
      wave = refl;
    })

pub drop_acts : {s : Context} {n n₁ n₂ : Numbers} (r : ℕ) → r < s.rows → length n.alive ≡ s.rows → length n.dropped ≡ 1 → n₁ ≡ put_alive r 0 n
    → n₂ ≡ put_dropped 0 ((get_or n₁.dropped 0 0 + 1) % 2 ^ 64) n₁
    → ActsN Any s n n₂ (λ M w. drop_row r (row_of w r) w)
unfolding drop_row
drop_acts {n = n} {n₁} r p la ld e₁ e₂ =
    record {
      does = λ M f o k w a c h i.
          let g = shows_row r (with_alive false (row_of w r)) w (omega (arith, p, c.rows)) h i (one_dropped r (row_of w r) (omega (arith, p, la)) e₁) in
          let l : length n₁.dropped ≡ 1 = ap (λ (x : Numbers). length x.dropped) e₁ ∙ ld in
          let z = get_or-set_same n₁.dropped 0 ((get_or n₁.dropped 0 0 + 1) % 2 ^ 64) 0 (omega (arith, l)) ∙ count_mod w.counts.rowsDropped (get_or n₁.dropped 0 0) g.counts.dropped in
          rw e₂
          (record {
            wlo = g.wlo;
            whi = g.whi;
            elo = g.elo;
            ehi = g.ehi;
            dirty = g.dirty;
            coeff_dirty = g.coeff_dirty;
            queued = g.queued;
            queue = g.queue;
            counts = record { dropped = z; tightened = g.counts.tightened; fixed = g.counts.fixed; rewrote = g.counts.rewrote; passes = g.counts.passes };
            wave = g.wave;
            alive = g.alive;
            rows = g.rows;
          });
    }

-- any row that is dropped keeps the invariant
pub inv_drop : {M : Model} {k : ℕ} (r : ℕ) (x : Row) (w : Work) → Inv M k w → Inv M k (drop_row r x w)
unfolding drop_row
inv_drop r x w i =
    let j = inv_row r (with_alive false x) w i (λ z. never z) in
    record {
      wlos = j.wlos;
      whis = j.whis;
      elos = j.elos;
      ehis = j.ehis;
      dirties = j.dirties;
      coeff_dirties = j.coeff_dirties;
      rowses = j.rowses;
      queue = j.queue;
      room = j.room;
      rows = j.rows;
    }

-- the count of waves is another
pub drop_passes : (r : ℕ) (x : Row) (w : Work) → (drop_row r x w).counts.passes ≡ w.counts.passes
unfolding drop_row
drop_passes r x w = refl
