-- A row that stands in the slices as x, and functions that change that row alone: their contracts, one after the other, and what they do to the whole state.
use Rattle.std.specs.Prelude.{ℕ, ◌<◌, ◌≡◌, refl, List, true, length, get_or}
use Rattle.std.proofs.Common.{arith, ap, sym, ◌∙◌}
use Rattle.definition.specs.Model.{Model, Row}
use Rattle.definition.specs.Work.{Work, with_row, no_row}
use Rattle.space.specs.declared.Context.{Context}
use Rattle.space.specs.Store.{Floats, Numbers}
use Rattle.view.specs.Call.{Call}
use Rattle.view.specs.Shows.{is_one, Shows, parts_of, RowShown}
use Rattle.view.specs.Inv.{RowInv}
use Rattle.view.specs.Acts.{Ready, Acts, Reads}
use Rattle.view.specs.Lists.{one_is}
use Rattle.view.specs.Rows.{OneRow, shows_row}

-- the emitted bounds are w's, and row r, which is alive, is x
pub record Stands (M : Model) (r : ℕ) (f : Floats) (n : Numbers) (w : Work) (x : Row) : Type 0 where
  pub alive : x.alive ≡ true
  pub flag : is_one (get_or n.alive r 0) ≡ true
  pub elo : f.elo ≡ w.elo
  pub ehi : f.ehi ≡ w.ehi
  pub shown : RowShown M (parts_of f n) r x

-- what a function on one row asks: some row of some such model stands there
pub record Standing (P : Model → Type 0) (s : Context) (r : ℕ) (f : Floats) (n : Numbers) : Type 0 where
  pub model : Model
  pub work : Work
  pub row : Row
  pub known : P model
  pub call : Call model s
  pub stands : Stands model r f n work row
  pub inv : RowInv model r row

-- what it promises: whatever row stands there, F of it stands there after, and the rest is as it was
pub record Turns (P : Model → Type 0) (s : Context) (r : ℕ) (f : Floats) (n : Numbers) (f' : Floats) (n' : Numbers) (F : Model → Work → Row → Row) : Type 0 where
  pub does : (M : Model) (w : Work) (x : Row) → P M → Call M s → Stands M r f n w x → OneRow M r (F M w x) f n f' n'

-- what it tells of the row
pub record TellsRow {A : Type 0} (P : Model → Type 0) (s : Context) (r : ℕ) (f : Floats) (n : Numbers) (z : A) (F : Model → Work → Row → A) : Type 0 where
  pub tells : (M : Model) (w : Work) (x : Row) → P M → Call M s → Stands M r f n w x → F M w x ≡ z

-- what a function asks and tells of a row that has the numbers alone: whatever the floats are
pub record StandingN (P : Model → Type 0) (s : Context) (r : ℕ) (n : Numbers) : Type 0 where
  pub floats : Floats
  pub standing : Standing P s r floats n

pub record TellsN {A : Type 0} (P : Model → Type 0) (s : Context) (r : ℕ) (n : Numbers) (z : A) (F : Model → Work → Row → A) : Type 0 where
  pub tells : (f : Floats) (M : Model) (w : Work) (x : Row) → P M → Call M s → Stands M r f n w x → F M w x ≡ z

-- ---- one row and then again
pub one_then : {M : Model} {r : ℕ} {x y : Row} {f f₁ f₂ : Floats} {n n₁ n₂ : Numbers} → OneRow M r x f n f₁ n₁ → OneRow M r y f₁ n₁ f₂ n₂ → OneRow M r y f n f₂ n₂
one_then a b =
    record {
      alive = b.alive;
      now = b.now;
      alive_other = λ q ne. b.alive_other q ne ∙ a.alive_other q ne;
      other = λ q y l ne h. b.other q y l ne (a.other q y l ne h);
      wlo = b.wlo ∙ a.wlo;
      whi = b.whi ∙ a.whi;
      elo = b.elo ∙ a.elo;
      ehi = b.ehi ∙ a.ehi;
      dirty = b.dirty ∙ a.dirty;
      coeff_dirty = b.coeff_dirty ∙ a.coeff_dirty;
      queued = b.queued ∙ a.queued;
      queue = b.queue ∙ a.queue;
      tally = b.tally ∙ a.tally;
      wave = b.wave ∙ a.wave;
    }

-- nothing is done
pub one_none : {M : Model} {r : ℕ} {x : Row} {f : Floats} {n : Numbers} {w : Work} → Stands M r f n w x → OneRow M r x f n f n
one_none h =
    record {
      alive = h.flag ∙ sym h.alive;
      now = λ _. h.shown;
      alive_other = λ q ne. refl;
      other = λ q y l ne g. g;
      wlo = refl;
      whi = refl;
      elo = refl;
      ehi = refl;
      dirty = refl;
      coeff_dirty = refl;
      queued = refl;
      queue = refl;
      tally = refl;
      wave = refl;
    }

pub stands_after : {M : Model} {r : ℕ} {x y : Row} {f f₁ : Floats} {n n₁ : Numbers} {w : Work} → Stands M r f n w x → OneRow M r y f n f₁ n₁ → y.alive ≡ true → Stands M r f₁ n₁ w y
stands_after h o a = record { alive = a; flag = o.alive ∙ a; elo = o.elo ∙ h.elo; ehi = o.ehi ∙ h.ehi; shown = o.now a }

-- ---- from the state, and back
pub stands_in : {M : Model} {s : Context} {f : Floats} {n : Numbers} {r : ℕ} {o : List ℕ} {w : Work} → Call M s → r < s.rows → get_or n.alive r 0 ≡ 1
    → Shows M f n o w → Stands M r f n w (get_or w.rows r no_row)
stands_in {M} {s} {f} {n} {r} {o} {w} c p e h =
    let l : r < length M.rhs = omega (arith, p, c.rows) in
    let t : is_one (get_or n.alive r 0) ≡ true = ap is_one e ∙ one_is in
    let a : (get_or w.rows r no_row).alive ≡ true = sym (h.alive r l) ∙ t in
    record { alive = a; flag = t; elo = h.elo; ehi = h.ehi; shown = h.rows r l a }

pub standing : {P : Model → Type 0} {s : Context} {f : Floats} {n : Numbers} {r : ℕ} → Ready P s f n → r < s.rows → get_or n.alive r 0 ≡ 1 → Standing P s r f n
standing {r = r} R p e =
    let h = stands_in R.call p e R.shows in
    record {
      model = R.model;
      work = R.work;
      row = get_or R.work.rows r no_row;
      known = R.known;
      call = R.call;
      stands = h;
      inv = R.inv.rows r (omega (arith, p, R.call.rows)) h.alive;
    }

pub turns_acts : {P : Model → Type 0} {s : Context} {r : ℕ} {f f' : Floats} {n n' : Numbers} {F : Model → Work → Row → Row} → r < s.rows → get_or n.alive r 0 ≡ 1 → Turns P s r f n f' n' F
    → Acts P s f n f' n' (λ M w. with_row r (F M w (get_or w.rows r no_row)) w)
turns_acts {r = r} {F = F} p e t =
    record {
      does = λ M o k w x c h i.
          shows_row r (F M w (get_or w.rows r no_row)) w (omega (arith, p, c.rows)) h i (t.does M w (get_or w.rows r no_row) x c (stands_in c p e h));
    }

pub tells_reads : {A : Type 0} {P : Model → Type 0} {s : Context} {r : ℕ} {f : Floats} {n : Numbers} {z : A} {F : Model → Work → Row → A} → r < s.rows → get_or n.alive r 0 ≡ 1 → TellsRow P s r f n z F
    → Reads P s f n z (λ M w. F M w (get_or w.rows r no_row))
tells_reads {r = r} p e t = record { reads = λ M o k w x c h i. t.tells M w (get_or w.rows r no_row) x c (stands_in c p e h) }

-- ---- a contract that asks for P holds where Q, which says more, is known
module _ {P Q : Model → Type 0} {s : Context} {r : ℕ} (q : (M : Model) → Q M → P M) where
  pub standing_under : {f : Floats} {n : Numbers} → Standing Q s r f n → Standing P s r f n
  standing_under G = record { model = G.model; work = G.work; row = G.row; known = q G.model G.known; call = G.call; stands = G.stands; inv = G.inv }

  pub turns_under : {f f' : Floats} {n n' : Numbers} {F : Model → Work → Row → Row} → Turns P s r f n f' n' F → Turns Q s r f n f' n' F
  turns_under t = record { does = λ M w x p c h. t.does M w x (q M p) c h }

pub standing_numbers : {P : Model → Type 0} {s : Context} {r : ℕ} {f : Floats} {n : Numbers} → Standing P s r f n → StandingN P s r n
standing_numbers {f = f} G = record { floats = f; standing = G }
