-- A rewrite more is counted; a row's mark for the coefficient step is cleared.
use Rattle.std.specs.Prelude.{ℕ, ◌+◌, ◌%◌, ◌^◌, ◌≡◌, false, length, get_or}
use Rattle.std.proofs.Common.{arith, ◌∙◌, get_or-set_same}
use Rattle.definition.specs.Model.{Model, rewrote}
use Rattle.definition.specs.Work.{Work, with_counts}
use Rattle.space.specs.declared.Context.{Context}
use Rattle.space.specs.Store.{Numbers, put_rewrote, put_coeff_dirty}
use Rattle.view.specs.Inv.{Inv}
use Rattle.view.specs.Acts.{ActsN, Keeps}
use Rattle.view.specs.Lists.{count_mod, zero_is}
use Rattle.bounds.specs.Queued.{flagged, inv_flagged, flagged_keeps, flagged_acts}

-- ---- a rewrite more
abbrev pub count_rewrote : Work → Work
count_rewrote w = with_counts (rewrote w.counts) w

pub inv_rewrote : {M : Model} {k : ℕ} (w : Work) → Inv M k w → Inv M k (count_rewrote w)
inv_rewrote w i = record {
  wlos = i.wlos;
  whis = i.whis;
  elos = i.elos;
  ehis = i.ehis;
  dirties = i.dirties;
  coeff_dirties = i.coeff_dirties;
  rowses = i.rowses;
  queue = i.queue;
  room = i.room;
  rows = i.rows;
}

pub rewrote_acts : {P : Model → Type 0} {s : Context} {n n' : Numbers} → length n.rewrote ≡ 1 → n' ≡ put_rewrote 0 ((get_or n.rewrote 0 0 + 1) % 2 ^ 64) n → ActsN P s n n' (λ M. count_rewrote)
rewrote_acts {n = n} l e =
    record {
      does = λ M f o k w p c h i.
          let z = get_or-set_same n.rewrote 0 ((get_or n.rewrote 0 0 + 1) % 2 ^ 64) 0 (omega (arith, l)) ∙ count_mod w.counts.coeffsTightened (get_or n.rewrote 0 0) h.counts.rewrote in
          rw e
          (record {
            wlo = h.wlo;
            whi = h.whi;
            elo = h.elo;
            ehi = h.ehi;
            dirty = h.dirty;
            coeff_dirty = h.coeff_dirty;
            queued = h.queued;
            queue = h.queue;
            counts = record { dropped = h.counts.dropped; tightened = h.counts.tightened; fixed = h.counts.fixed; rewrote = z; passes = h.counts.passes };
            wave = h.wave;
            alive = h.alive;
            rows = h.rows;
          });
    }

-- ---- the coefficient step has looked at row r
abbrev pub looked : ℕ → Work → Work
looked r = flagged false r

pub inv_looked : {M : Model} {k : ℕ} (r : ℕ) (w : Work) → Inv M k w → Inv M k (looked r w)
inv_looked = inv_flagged false

pub looked_keeps : {P : Model → Type 0} {s : Context} (r : ℕ) → Keeps P s (λ M. looked r)
looked_keeps = flagged_keeps false

pub looked_acts : {P : Model → Type 0} {s : Context} {n n' : Numbers} (r : ℕ) → n' ≡ put_coeff_dirty r 0 n → ActsN P s n n' (λ M. looked r)
looked_acts r = flagged_acts r 0 zero_is
