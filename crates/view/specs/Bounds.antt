-- Bounds and counts: what one store to a bound or a count does to the state.
use Rattle.std.specs.Prelude.{ℕ, ◌+◌, ◌%◌, ◌^◌, ◌≡◌, List, length, get_or, set, Float, Ok, Err}
use Rattle.std.proofs.Common.{arith, ap, sym, ◌∙◌, subst, length-set, get_or-set_same}
use Rattle.std.specs.Float.{nan}
use Rattle.tolerances.specs.Tol.{at}
use Rattle.definition.specs.declared.Infeasible.{Infeasible}
use Rattle.definition.specs.Model.{Model, tightened, fixed_one}
use Rattle.definition.specs.Work.{Work, with_bounds, with_counts, Step, stop, next}
use Rattle.definition.specs.Marks.{mark_var}
use Rattle.definition.specs.Bounds.{fix, mark_tightened}
use Rattle.space.specs.declared.Context.{Context}
use Rattle.space.specs.Store.{Floats, Numbers, put_wlo, put_whi, put_elo, put_ehi, put_fixed, put_tightened}
use Rattle.view.specs.Shows.{Shows, StepShown, stopped, went}
use Rattle.view.specs.Inv.{Inv}
use Rattle.view.specs.Acts.{Acts, ActsN, Keeps, acts_then, then_numbers, of_numbers}
use Rattle.view.specs.Lists.{count_mod}
use Rattle.view.specs.Marks.{inv_mark_var}
use Rattle.view.specs.Adjacency.{Adj}

-- ---- one bound of v is x now
abbrev pub set_wlo : ℕ → Float → Work → Work
set_wlo v x w = with_bounds (set w.wlo v x) w.whi w.elo w.ehi w

abbrev pub set_whi : ℕ → Float → Work → Work
set_whi v x w = with_bounds w.wlo (set w.whi v x) w.elo w.ehi w

abbrev pub set_elo : ℕ → Float → Work → Work
set_elo v x w = with_bounds w.wlo w.whi (set w.elo v x) w.ehi w

abbrev pub set_ehi : ℕ → Float → Work → Work
set_ehi v x w = with_bounds w.wlo w.whi w.elo (set w.ehi v x) w

module _ {P : Model → Type 0} {s : Context} (v : ℕ) (x : Float) where
  pub wlo_keeps : Keeps P s (λ M. set_wlo v x)
  wlo_keeps = record {
    keeps = λ M k w p c i. record {
      wlos = length-set w.wlo v x ∙ i.wlos;
      whis = i.whis;
      elos = i.elos;
      ehis = i.ehis;
      dirties = i.dirties;
      coeff_dirties = i.coeff_dirties;
      rowses = i.rowses;
      queue = i.queue;
      room = i.room;
      rows = i.rows;
    };
  }

  pub whi_keeps : Keeps P s (λ M. set_whi v x)
  whi_keeps = record {
    keeps = λ M k w p c i. record {
      wlos = i.wlos;
      whis = length-set w.whi v x ∙ i.whis;
      elos = i.elos;
      ehis = i.ehis;
      dirties = i.dirties;
      coeff_dirties = i.coeff_dirties;
      rowses = i.rowses;
      queue = i.queue;
      room = i.room;
      rows = i.rows;
    };
  }

  pub elo_keeps : Keeps P s (λ M. set_elo v x)
  elo_keeps = record {
    keeps = λ M k w p c i. record {
      wlos = i.wlos;
      whis = i.whis;
      elos = length-set w.elo v x ∙ i.elos;
      ehis = i.ehis;
      dirties = i.dirties;
      coeff_dirties = i.coeff_dirties;
      rowses = i.rowses;
      queue = i.queue;
      room = i.room;
      rows = i.rows;
    };
  }

  pub ehi_keeps : Keeps P s (λ M. set_ehi v x)
  ehi_keeps = record {
    keeps = λ M k w p c i. record {
      wlos = i.wlos;
      whis = i.whis;
      elos = i.elos;
      ehis = length-set w.ehi v x ∙ i.ehis;
      dirties = i.dirties;
      coeff_dirties = i.coeff_dirties;
      rowses = i.rowses;
      queue = i.queue;
      room = i.room;
      rows = i.rows;
    };
  }

module _ {P : Model → Type 0} {s : Context} {f f' : Floats} {n : Numbers} {v : ℕ} {x : Float} where
  pub wlo_acts : f' ≡ put_wlo v x f → Acts P s f n f' n (λ M. set_wlo v x)
  wlo_acts e =
      record {
        does = λ M o k w p c h i. rw e (record {
          wlo = ap (λ (l : List Float). set l v x) h.wlo;
          whi = h.whi;
          elo = h.elo;
          ehi = h.ehi;
          dirty = h.dirty;
          coeff_dirty = h.coeff_dirty;
          queued = h.queued;
          queue = h.queue;
          counts = h.counts;
          wave = h.wave;
          alive = h.alive;
          rows = h.rows;
        });
      }

  pub whi_acts : f' ≡ put_whi v x f → Acts P s f n f' n (λ M. set_whi v x)
  whi_acts e =
      record {
        does = λ M o k w p c h i. rw e (record {
          wlo = h.wlo;
          whi = ap (λ (l : List Float). set l v x) h.whi;
          elo = h.elo;
          ehi = h.ehi;
          dirty = h.dirty;
          coeff_dirty = h.coeff_dirty;
          queued = h.queued;
          queue = h.queue;
          counts = h.counts;
          wave = h.wave;
          alive = h.alive;
          rows = h.rows;
        });
      }

  pub elo_acts : f' ≡ put_elo v x f → Acts P s f n f' n (λ M. set_elo v x)
  elo_acts e =
      record {
        does = λ M o k w p c h i. rw e (record {
          wlo = h.wlo;
          whi = h.whi;
          elo = ap (λ (l : List Float). set l v x) h.elo;
          ehi = h.ehi;
          dirty = h.dirty;
          coeff_dirty = h.coeff_dirty;
          queued = h.queued;
          queue = h.queue;
          counts = h.counts;
          wave = h.wave;
          alive = h.alive;
          rows = h.rows;
        });
      }

  pub ehi_acts : f' ≡ put_ehi v x f → Acts P s f n f' n (λ M. set_ehi v x)
  ehi_acts e =
      record {
        does = λ M o k w p c h i. rw e (record {
          wlo = h.wlo;
          whi = h.whi;
          elo = h.elo;
          ehi = ap (λ (l : List Float). set l v x) h.ehi;
          dirty = h.dirty;
          coeff_dirty = h.coeff_dirty;
          queued = h.queued;
          queue = h.queue;
          counts = h.counts;
          wave = h.wave;
          alive = h.alive;
          rows = h.rows;
        });
      }

-- ---- one more counted
abbrev pub count_fixed : Work → Work
count_fixed w = with_counts (fixed_one w.counts) w

abbrev pub count_tightened : Work → Work
count_tightened w = with_counts (tightened w.counts) w

module _ {P : Model → Type 0} {s : Context} where
  pub fixed_keeps : Keeps P s (λ M. count_fixed)
  fixed_keeps = record {
    keeps = λ M k w p c i. record {
      wlos = i.wlos;
      whis = i.whis;
      elos = i.elos;
      ehis = i.ehis;
      dirties = i.dirties;
      coeff_dirties = i.coeff_dirties;
      rowses = i.rowses;
      queue = i.queue;
      room = i.room;
      rows = i.rows;
    };
  }

  pub tightened_keeps : Keeps P s (λ M. count_tightened)
  tightened_keeps = record {
    keeps = λ M k w p c i. record {
      wlos = i.wlos;
      whis = i.whis;
      elos = i.elos;
      ehis = i.ehis;
      dirties = i.dirties;
      coeff_dirties = i.coeff_dirties;
      rowses = i.rowses;
      queue = i.queue;
      room = i.room;
      rows = i.rows;
    };
  }

module _ {P : Model → Type 0} {s : Context} {n n' : Numbers} where
  pub fixed_acts : length n.fixed ≡ 1 → n' ≡ put_fixed 0 ((get_or n.fixed 0 0 + 1) % 2 ^ 64) n → ActsN P s n n' (λ M. count_fixed)
  fixed_acts l e =
      record {
        does = λ M f o k w p c h i.
            let z = get_or-set_same n.fixed 0 ((get_or n.fixed 0 0 + 1) % 2 ^ 64) 0 (omega (arith, l)) ∙ count_mod w.counts.varsFixed (get_or n.fixed 0 0) h.counts.fixed in
            rw e
            (record {
              wlo = h.wlo;
              whi = h.whi;
              elo = h.elo;
              ehi = h.ehi;
              dirty = h.dirty;
              coeff_dirty = h.coeff_dirty;
              queued = h.queued;
              queue = h.queue;
              counts = record { dropped = h.counts.dropped; tightened = h.counts.tightened; fixed = z; rewrote = h.counts.rewrote; passes = h.counts.passes };
              wave = h.wave;
              alive = h.alive;
              rows = h.rows;
            });
      }

  pub tightened_acts : length n.tightened ≡ 1 → n' ≡ put_tightened 0 ((get_or n.tightened 0 0 + 1) % 2 ^ 64) n → ActsN P s n n' (λ M. count_tightened)
  tightened_acts l e =
      record {
        does = λ M f o k w p c h i.
            let z = get_or-set_same n.tightened 0 ((get_or n.tightened 0 0 + 1) % 2 ^ 64) 0 (omega (arith, l))
            ∙ count_mod w.counts.boundsTightened (get_or n.tightened 0 0) h.counts.tightened in
            rw e
            (record {
              wlo = h.wlo;
              whi = h.whi;
              elo = h.elo;
              ehi = h.ehi;
              dirty = h.dirty;
              coeff_dirty = h.coeff_dirty;
              queued = h.queued;
              queue = h.queue;
              counts = record { dropped = h.counts.dropped; tightened = z; fixed = h.counts.fixed; rewrote = h.counts.rewrote; passes = h.counts.passes };
              wave = h.wave;
              alive = h.alive;
              rows = h.rows;
            });
      }

-- ---- fix, and a bound that was tightened
module _ {s : Context} {adjacency : List ℕ} (v : ℕ) where
  pub fix_end : (x : Float) {f f₁ f₂ f₃ f₄ : Floats} {n n₁ n₂ : Numbers} → length n.fixed ≡ 1 → f₁ ≡ put_wlo v x f → f₂ ≡ put_whi v x f₁ → f₃ ≡ put_elo v x f₂ → f₄ ≡ put_ehi v x f₃
      → n₁ ≡ put_fixed 0 ((get_or n.fixed 0 0 + 1) % 2 ^ 64) n → ActsN (Adj adjacency) s n₁ n₂ (λ M. mark_var M v) → Acts (Adj adjacency) s f n f₄ n₂ (λ M. fix M v x)
  unfolding fix
  fix_end x l e₁ e₂ e₃ e₄ e₅ m =
      let a = acts_then (wlo_acts e₁) (wlo_keeps v x) (acts_then (whi_acts e₂) (whi_keeps v x) (acts_then (elo_acts e₃) (elo_keeps v x) (acts_then (ehi_acts e₄) (ehi_keeps v x)
      (of_numbers (then_numbers (fixed_acts l e₅) fixed_keeps m))))) in
      record { does = a.does }

  pub tighten_end : {n n₁ n₂ : Numbers} → length n.tightened ≡ 1 → n₁ ≡ put_tightened 0 ((get_or n.tightened 0 0 + 1) % 2 ^ 64) n → ActsN (Adj adjacency) s n₁ n₂ (λ M. mark_var M v)
      → ActsN (Adj adjacency) s n n₂ (λ M. mark_tightened M v)
  unfolding mark_tightened
  tighten_end l e m = let a = then_numbers (tightened_acts l e) tightened_keeps m in record { does = a.does }

pub inv_tighten : {M : Model} {k : ℕ} (v : ℕ) (w : Work) → Inv M k w → Inv M k (mark_tightened M v w)
unfolding mark_tightened
inv_tighten v w i =
    inv_mark_var v (count_tightened w)
    (record {
      wlos = i.wlos;
      whis = i.whis;
      elos = i.elos;
      ehis = i.ehis;
      dirties = i.dirties;
      coeff_dirties = i.coeff_dirties;
      rowses = i.rowses;
      queue = i.queue;
      room = i.room;
      rows = i.rows;
    })

-- ---- a bound as the slices have it is the state's
module _ {M : Model} {f : Floats} {n : Numbers} {o : List ℕ} {w : Work} (v : ℕ) {x : Float} (h : Shows M f n o w) where
  pub wlo_is : x ≡ get_or f.wlo v nan → x ≡ at w.wlo v
  wlo_is e = e ∙ ap (λ (l : List Float). get_or l v nan) h.wlo

  pub whi_is : x ≡ get_or f.whi v nan → x ≡ at w.whi v
  whi_is e = e ∙ ap (λ (l : List Float). get_or l v nan) h.whi

  pub elo_is : x ≡ get_or f.elo v nan → x ≡ at w.elo v
  elo_is e = e ∙ ap (λ (l : List Float). get_or l v nan) h.elo

  pub ehi_is : x ≡ get_or f.ehi v nan → x ≡ at w.ehi v
  ehi_is e = e ∙ ap (λ (l : List Float). get_or l v nan) h.ehi

-- ---- a step that goes on, or stops
pub went_by : {M : Model} {f : Floats} {n : Numbers} {o : List ℕ} {w : Work} {z : Step} → z ≡ next w → Shows M f n o w → StepShown M f n o (Ok tt) z
went_by {M} {f} {n} {o} e h = subst (λ (y : Step). StepShown M f n o (Ok tt) y) (sym e) (went h)

pub stopped_by : {M : Model} {f : Floats} {n : Numbers} {o : List ℕ} {w : Work} {z : Step} {x : Infeasible} → z ≡ stop w.counts → Shows M f n o w → StepShown M f n o (Err x) z
stopped_by {M} {f} {n} {o} {x = x} e h = subst (λ (y : Step). StepShown M f n o (Err x) y) (sym e) (stopped h.counts)
