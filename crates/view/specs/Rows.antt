-- One row changes: what shows the others still shows them, since spans do not overlap.
use Rattle.std.specs.Prelude.{ℕ, zero, suc, ◌<◌, ◌≡◌, refl, ◌≢◌, ◌⊎◌, true, List, length, get_or, set}
use Rattle.std.proofs.Common.{arith, ap, sym, ◌∙◌, inl, inr, length-set, get_or-set_same, get_or-set_other}
use Rattle.definition.specs.Model.{Model, Row}
use Rattle.definition.specs.Work.{Work, with_row, no_row}
use Rattle.space.specs.Store.{Floats, Numbers}
use Rattle.view.specs.Shows.{is_one, Shows, tally_of, parts_of, RowShown}
use Rattle.view.specs.Inv.{Inv, RowInv}

-- two numbers are equal or not
pub same? : (a b : ℕ) → (a ≡ b) ⊎ (a ≢ b)
same? zero zero = inl refl
same? zero (suc b) = inr (λ e. omega arith)
same? (suc a) zero = inr (λ e. omega arith)
same? (suc a) (suc b) = again (same? a b)
  where
    again : (a ≡ b) ⊎ (a ≢ b) → (suc a ≡ suc b) ⊎ (suc a ≢ suc b)
    again (inl e) = inl (ap suc e)
    again (inr n) = inr (λ e. n (omega arith))

-- ---- the rows after row r became x
pub row_now : (r : ℕ) (x : Row) (w : Work) → r < length w.rows → get_or (set w.rows r x) r no_row ≡ x
row_now r x w p = get_or-set_same w.rows r x no_row p

pub row_other : (r : ℕ) (x : Row) (w : Work) (q : ℕ) → q ≢ r → get_or (set w.rows r x) q no_row ≡ get_or w.rows q no_row
row_other r x w q ne = get_or-set_other w.rows r q x no_row ne

-- the invariant, with row r become x
pub inv_row : {M : Model} {k : ℕ} (r : ℕ) (x : Row) (w : Work) → Inv M k w → (x.alive ≡ true → RowInv M r x) → Inv M k (with_row r x w)
inv_row {M} {k} r x w i y =
    record {
      wlos = i.wlos;
      whis = i.whis;
      elos = i.elos;
      ehis = i.ehis;
      dirties = i.dirties;
      coeff_dirties = i.coeff_dirties;
      rowses = length-set w.rows r x ∙ i.rowses;
      queue = i.queue;
      room = i.room;
      rows = λ q p a. go q p a (same? q r);
    }
  where
    go : (q : ℕ) → q < length M.rhs → (get_or (set w.rows r x) q no_row).alive ≡ true → (q ≡ r) ⊎ (q ≢ r) → RowInv M q (get_or (set w.rows r x) q no_row)
    go q p a (inl e) =
        let l : r < length w.rows = omega (arith, p, e, i.rowses) in
        let z : get_or (set w.rows r x) q no_row ≡ x = ap (λ (j : ℕ). get_or (set w.rows r x) j no_row) e ∙ row_now r x w l in
        rw (z, e) (y (rw z at a))
    go q p a (inr n) = let z : get_or (set w.rows r x) q no_row ≡ get_or w.rows q no_row = row_other r x w q n in rw z (i.rows q p (rw z at a))

-- the slices, with row r become x: everything but the rows' blocks is as it was, row r shows x, and the others show what they did
pub record OneRow (M : Model) (r : ℕ) (x : Row) (f : Floats) (n : Numbers) (f' : Floats) (n' : Numbers) : Type 0 where
  pub alive : is_one (get_or n'.alive r 0) ≡ x.alive
  pub now : x.alive ≡ true → RowShown M (parts_of f' n') r x
  pub alive_other : (q : ℕ) → q ≢ r → get_or n'.alive q 0 ≡ get_or n.alive q 0
  pub other : (q : ℕ) (y : Row) → q < length M.rhs → q ≢ r → RowShown M (parts_of f n) q y → RowShown M (parts_of f' n') q y
  pub wlo : f'.wlo ≡ f.wlo
  pub whi : f'.whi ≡ f.whi
  pub elo : f'.elo ≡ f.elo
  pub ehi : f'.ehi ≡ f.ehi
  pub dirty : n'.dirty ≡ n.dirty
  pub coeff_dirty : n'.coeff_dirty ≡ n.coeff_dirty
  pub queued : n'.queued ≡ n.queued
  pub queue : n'.queue ≡ n.queue
  pub tally : tally_of n' ≡ tally_of n
  pub wave : n'.wave ≡ n.wave

pub shows_row : {M : Model} {k : ℕ} {f f' : Floats} {n n' : Numbers} {o : List ℕ} (r : ℕ) (x : Row) (w : Work) → r < length M.rhs → Shows M f n o w
    → Inv M k w → OneRow M r x f n f' n' → Shows M f' n' o (with_row r x w)
shows_row {M} {k} {f} {f'} {n} {n'} {o} r x w l h i d =
    record {
      wlo = d.wlo ∙ h.wlo;
      whi = d.whi ∙ h.whi;
      elo = d.elo ∙ h.elo;
      ehi = d.ehi ∙ h.ehi;
      dirty = rw d.dirty h.dirty;
      coeff_dirty = rw d.coeff_dirty h.coeff_dirty;
      queued = rw d.queued h.queued;
      queue = rw (d.queued, d.queue) h.queue;
      counts = rw d.tally h.counts;
      wave = d.wave ∙ h.wave;
      alive = λ q p. live q p (same? q r);
      rows = λ q p a. row q p a (same? q r);
    }
  where
    in_rows : r < length w.rows
    in_rows = omega (arith, l, i.rowses)

    live : (q : ℕ) → q < length M.rhs → (q ≡ r) ⊎ (q ≢ r) → is_one (get_or n'.alive q 0) ≡ (get_or (set w.rows r x) q no_row).alive
    live q p (inl e) = rw e (d.alive ∙ ap (λ (y : Row). y.alive) (sym (row_now r x w in_rows)))
    live q p (inr ne) = ap is_one (d.alive_other q ne) ∙ h.alive q p ∙ ap (λ (y : Row). y.alive) (sym (row_other r x w q ne))

    row : (q : ℕ) → q < length M.rhs → (get_or (set w.rows r x) q no_row).alive ≡ true → (q ≡ r) ⊎ (q ≢ r) → RowShown M (parts_of f' n') q (get_or (set w.rows r x) q no_row)
    row q p a (inl e) =
        let z : get_or (set w.rows r x) q no_row ≡ x = ap (λ (j : ℕ). get_or (set w.rows r x) j no_row) e ∙ row_now r x w in_rows in
        rw (z, e) (d.now (rw z at a))
    row q p a (inr ne) =
        let z : get_or (set w.rows r x) q no_row ≡ get_or w.rows q no_row = row_other r x w q ne in
        rw z (d.other q (get_or w.rows q no_row) p ne (h.rows q p (rw z at a)))
