-- A wave begins: the queued rows are copied to the wave's block, the queue is empty, and the wave is counted.
use Rattle.std.specs.Prelude.{ℕ, suc, ◌+◌, ◌≤◌, ◌<◌, ◌≡◌, refl, List, [], ◌∷◌, ◌++◌, length, get_or, set, take, Ok}
use Rattle.std.proofs.Common.{arith, add-one, ap, sym, ◌∙◌, subst, take-suc, take-suc-set, get_or-set_same}
use Rattle.definition.specs.Model.{Model, passed}
use Rattle.definition.specs.Work.{Work, with_marks, with_counts, Step, next}
use Rattle.definition.specs.Wave.{wave_rows, wave}
use Rattle.space.specs.declared.Context.{Context}
use Rattle.space.specs.Store.{Floats, Numbers, put_wave, put_queued, put_passes}
use Rattle.view.specs.Call.{Call}
use Rattle.view.specs.Shows.{Shows, StepShown, Outcome}
use Rattle.view.specs.Inv.{Inv, Below}
use Rattle.view.specs.Lists.{marked_le}
use Rattle.view.specs.Acts.{Ready}
use Rattle.view.specs.Steps.{KeepsStep, went_is}
use Rattle.bounds.specs.Same.{same_next}
use Rattle.view.specs.Renamed.{inv_next}
use Rattle.wave.specs.Rows.{ReadyWave, TriesWave, inv_rows, passes_rows}

abbrev with_wave : List ℕ → Numbers → Numbers
with_wave o f = record {
  queued = f.queued;
  dropped = f.dropped;
  tightened = f.tightened;
  fixed = f.fixed;
  rewrote = f.rewrote;
  passes = f.passes;
  dirty = f.dirty;
  coeff_dirty = f.coeff_dirty;
  queue = f.queue;
  wave = o;
  len = f.len;
  folded = f.folded;
  alive = f.alive;
  touched = f.touched;
  binaries = f.binaries;
  fate = f.fate;
  slot = f.slot;
  bad_dec = f.bad_dec;
  bad_inc = f.bad_inc;
  vars = f.vars;
  binary = f.binary;
}

-- ---- copy_queue
pub record QueueCopied (n n' : Numbers) (cnt : ℕ) : Type 0 where
  pub same : n' ≡ with_wave n'.wave n
  pub taken : take cnt n'.wave ≡ take cnt n.queue

pub copied_start : {n : Numbers} → QueueCopied n n 0
copied_start = record { same = refl; taken = refl }

pub copied_turn : {n₀ n n₁ : Numbers} {m cnt i r : ℕ} → QueueCopied n₀ n i → length n.wave ≡ m → length n₀.queue ≡ m → cnt ≤ m → i < cnt
    → r ≡ get_or n.queue i 0 → n₁ ≡ put_wave i r n → QueueCopied n₀ n₁ (i + 1)
copied_turn {n₀} {n} {n₁} {m} {cnt} {i} {r} C lw lq lc il er e =
    let ew : n₁.wave ≡ set n.wave i r = ap (λ (x : Numbers). x.wave) e in
    let eq : n.queue ≡ n₀.queue = ap (λ (x : Numbers). x.queue) C.same in
    record {
      same = e ∙ ap (λ (x : Numbers). with_wave (set n.wave i r) x) C.same ∙ ap (λ (o : List ℕ). with_wave o n₀) (sym ew);
      taken =
          ap (λ (o : List ℕ). take (i + 1) o) ew
          ∙ rw add-one
          (take-suc-set n.wave i r (omega (arith, lw, lc, il))
          ∙ ap (λ (d : List ℕ). d ++ (r ∷ [])) C.taken
          ∙ ap (λ (x : ℕ). take i n₀.queue ++ (x ∷ [])) (er ∙ ap (λ (d : List ℕ). get_or d i 0) eq)
          ∙ sym (take-suc n₀.queue i 0 (omega (arith, lq, lc, il))));
    }

pub copied_end : {n₀ n : Numbers} {cnt i : ℕ} → QueueCopied n₀ n i → i ≤ cnt → cnt ≤ i → QueueCopied n₀ n cnt
copied_end {n₀} {n} C p q = subst (QueueCopied n₀ n) (omega (arith, p, q)) C

-- ---- primal_wave: the block of the wave's rows is another after it
pub record Afresh (M : Model) (f : Floats) (n : Numbers) (z : Outcome) (y : Step) : Type 0 where
  pub other : List ℕ
  pub step : StepShown M f n other z y

pub record Waves (P : Model → Type 0) (s : Context) (f : Floats) (n : Numbers) (f' : Floats) (n' : Numbers) (z : Outcome) (F : Model → Work → Step) : Type 0 where
  pub does : (M : Model) (o : List ℕ) (k : ℕ) (w : Work) → P M → Call M s → Shows M f n o w → Inv M k w → Afresh M f' n' z (F M w)

pub waves_is : {P : Model → Type 0} {s : Context} {f f' : Floats} {n n' : Numbers} {z y : Outcome} {F : Model → Work → Step} → Waves P s f n f' n' z F → z ≡ y → Waves P s f n f' n' y F
waves_is {P} {s} {f} {f'} {n} {n'} {F = F} t e = subst (λ (x : Outcome). Waves P s f n f' n' x F) e t

abbrev begun : Work → Work
begun w = with_counts (passed w.counts) (with_marks w.dirty w.coeff_dirty [] w)

wave_of : (M : Model) (w : Work) → wave M w ≡ wave_rows M w.queue (begun w)
unfolding wave
wave_of M w = refl

inv_begun : {M : Model} {k : ℕ} (w : Work) → Inv M k w → Inv M (k + length w.queue) (begun w)
inv_begun w i =
    record {
      wlos = i.wlos;
      whis = i.whis;
      elos = i.elos;
      ehis = i.ehis;
      dirties = i.dirties;
      coeff_dirties = i.coeff_dirties;
      rowses = i.rowses;
      queue = record { below = λ j p. absurd (omega arith) };
      room = omega (arith, i.room);
      rows = i.rows;
    }

below_rows : {M : Model} {s : Context} {l : List ℕ} → Call M s → Below (length M.rhs) l → Below s.rows l
below_rows c b = record { below = λ i p. let z = b.below i p in omega (arith, z, c.rows) }

pub wave_keeps : {P : Model → Type 0} {s : Context} → KeepsStep P s wave
wave_keeps = record { keeps = λ M k w p c i. rw (wave_of M w) (inv_rows w.queue (begun w) c (below_rows c i.queue) (inv_begun w i)) }

-- one wave more is counted
pub wave_passes : (M : Model) (w u : Work) → wave M w ≡ next u → u.counts.passes ≡ suc w.counts.passes
wave_passes M w u e = same_next (passes_rows M w.queue (begun w)) (sym (wave_of M w) ∙ e)

queue_fits : {M : Model} {s : Context} {k : ℕ} {w : Work} → Call M s → Inv M k w → length w.queue ≤ s.rows
queue_fits {w = w} c i = omega (arith, i.room, marked_le w.dirty, i.dirties, c.rows)

pub queued_fits : {P : Model → Type 0} {s : Context} {f : Floats} {n : Numbers} {cnt : ℕ} → Ready P s f n → cnt ≡ get_or n.queued 0 0 → cnt ≤ s.rows
queued_fits R e = omega (arith, e, R.shows.queued, queue_fits R.call R.inv)

pub passes_small : {n n₁ n₂ : Numbers} {cnt p : ℕ} → QueueCopied n n₁ cnt → n₂ ≡ put_queued 0 0 n₁ → p ≡ get_or n₂.passes 0 0 → get_or n.passes 0 0 < 30 → p < 30
passes_small {n} {p = p} C e₂ ep h =
    let b : p ≡ get_or n.passes 0 0 = ep ∙ ap (λ (x : Numbers). get_or x.passes 0 0) (e₂ ∙ ap (put_queued 0 0) C.same) in
    omega (arith, b, h)

-- the state with which the wave's rows begin
module _ {f : Floats} {n n₁ n₂ n₃ : Numbers} {cnt p : ℕ} (lq : length n.queued ≡ 1) (lp : length n.passes ≡ 1) (ec : cnt ≡ get_or n.queued 0 0)
    (C : QueueCopied n n₁ cnt) (e₂ : n₂ ≡ put_queued 0 0 n₁) (ep : p ≡ get_or n₂.passes 0 0) (e₃ : n₃ ≡ put_passes 0 (p + 1) n₂) where
  shows_begun : {M : Model} {o : List ℕ} {w : Work} → Shows M f n o w → Shows M f n₃ n₁.wave (begun w)
  shows_begun {w = w} h =
      let b : p ≡ get_or n.passes 0 0 = ep ∙ ap (λ (x : Numbers). get_or x.passes 0 0) (e₂ ∙ ap (put_queued 0 0) C.same) in
      let e : n₃ ≡ put_passes 0 (p + 1) (put_queued 0 0 (with_wave n₁.wave n)) = e₃ ∙ ap (put_passes 0 (p + 1)) (e₂ ∙ ap (put_queued 0 0) C.same) in
      let q : get_or (set n.queued 0 0) 0 0 ≡ 0 = get_or-set_same n.queued 0 0 0 (omega (arith, lq)) in
      let z : get_or (set n.passes 0 (p + 1)) 0 0 ≡ suc w.counts.passes = get_or-set_same n.passes 0 (p + 1) 0 (omega (arith, lp)) ∙ omega (arith, b, h.counts.passes) in
      rw e
      (record {
        wlo = h.wlo;
        whi = h.whi;
        elo = h.elo;
        ehi = h.ehi;
        dirty = h.dirty;
        coeff_dirty = h.coeff_dirty;
        queued = q;
        queue = ap (λ (j : ℕ). take j n.queue) q;
        counts = record { dropped = h.counts.dropped; tightened = h.counts.tightened; fixed = h.counts.fixed; rewrote = h.counts.rewrote; passes = z };
        wave = refl;
        alive = h.alive;
        rows = h.rows;
      })

rows_are_lem : {M : Model} {f : Floats} {n n₁ : Numbers} {o : List ℕ} {w : Work} {cnt : ℕ} → cnt ≡ get_or n.queued 0 0 → QueueCopied n n₁ cnt → Shows M f n o w → take cnt n₁.wave ≡ w.queue
rows_are_lem {n = n} ec C h = C.taken ∙ ap (λ (j : ℕ). take j n.queue) ec ∙ h.queue

module _ {P : Model → Type 0} {s : Context} {f : Floats} {n n₁ n₂ n₃ : Numbers} {cnt p : ℕ} (lq : length n.queued ≡ 1) (lp : length n.passes ≡ 1)
    (ec : cnt ≡ get_or n.queued 0 0) (C : QueueCopied n n₁ cnt) (e₂ : n₂ ≡ put_queued 0 0 n₁) (ep : p ≡ get_or n₂.passes 0 0)
    (e₃ : n₃ ≡ put_passes 0 (p + 1) n₂) where
  pub ready_wave : Ready P s f n → ReadyWave P s f n₃ cnt
  ready_wave R =
      let w = R.work in
      let x : n₃.wave ≡ n₁.wave = ap (λ (y : Numbers). y.wave) (e₃ ∙ ap (put_passes 0 (p + 1)) e₂) in
      record {
        ready =
            record {
              model = R.model;
              other = n₁.wave;
              left = R.left + length w.queue;
              work = begun w;
              known = R.known;
              call = R.call;
              shows = shows_begun lq lp ec C e₂ ep e₃ R.shows;
              inv = inv_begun w R.inv;
            };
        left = omega (arith, ec, R.shows.queued);
        below = subst (Below s.rows) (sym (ap (take cnt) x ∙ rows_are_lem ec C R.shows)) (below_rows R.call R.inv.queue);
        fits = queued_fits R ec;
      }

  pub wave_tries : {f' : Floats} {n' : Numbers} {z : Outcome} → TriesWave P s f n₃ f' n' z cnt → Waves P s f n f' n' z wave
  wave_tries {f'} {n'} {z} t =
      record {
        does = λ M o k w q c h i.
            record {
              other = n₁.wave;
              step =
                  subst (λ (y : Step). StepShown M f' n' n₁.wave z y) (ap (λ (rs : List ℕ). wave_rows M rs (begun w)) (rows_are_lem ec C h) ∙ sym (wave_of M w))
                  (t.does M n₁.wave k (begun w) q c (shows_begun lq lp ec C e₂ ep e₃ h) (subst (λ (j : ℕ). Inv M (k + j) (begun w)) (sym (ec ∙ h.queued)) (inv_begun w i)));
            };
      }

-- ---- the next wave's state
pub ready_afresh : {P : Model → Type 0} {s : Context} {f f' : Floats} {n n' : Numbers} {F : Model → Work → Step} → Ready P s f n → Waves P s f n f' n' (Ok tt) F → KeepsStep P s F → Ready P s f' n'
ready_afresh r t k =
    let a = t.does r.model r.other r.left r.work r.known r.call r.shows r.inv in
    let g = went_is a.step in
    record {
      model = r.model;
      other = a.other;
      left = r.left;
      work = g.work;
      known = r.known;
      call = r.call;
      shows = g.shows;
      inv = inv_next (k.keeps r.model r.left r.work r.known r.call r.inv) g.is;
    }
