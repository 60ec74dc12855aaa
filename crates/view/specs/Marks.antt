-- Requeueing: what mark_row, mark_rows and mark_var leave, and that the definition's requeueing keeps the invariant.
use Prim.Native.Nat.{ℕ, zero, suc, ◌+◌, ◌-◌, ◌≤◌, ◌<◌}
use Rattle.std.proofs.Common.{arith, add-one, ap, sym, ◌∙◌, subst, take-suc, get_or-take, get_or-drop, take-suc-set, get_or-set_same, length-take-le}
use Rattle.std.specs.Prelude.{◌≡◌, refl, ◌≢◌, Bool, false, List, [], ◌∷◌, ◌++◌, map, length, get_or, set, take, drop}
use Rattle.std.proofs.Math.Bool.{true}
use Rattle.std.proofs.Math.ListN.{length-set, length-append}
use Rattle.std.proofs.lemmas.List.{drop-append-le}
use Rattle.std.proofs.Math.Seq.{length-slice, slice, slice_empty}
use Rattle.definition.specs.Model.{Model}
use Rattle.definition.specs.Work.{Work, with_marks}
use Rattle.definition.specs.Marks.{mark_row, adjacent, mark_from, mark_var}
use Rattle.space.specs.declared.Context.{Context}
use Rattle.space.specs.Store.{Floats, Numbers, put_dirty, put_coeff_dirty, put_queue, put_queued}
use Rattle.view.specs.Call.{Call}
use Rattle.view.specs.Shows.{is_one, Shows}
use Rattle.view.specs.Inv.{Inv, Below}
use Rattle.view.specs.Acts.{ReadyN, ActsN, Any, Keeps, then_numbers, ready_next}
use Rattle.view.specs.Lists.{yes, no, either, one_is, one_not, map_set, get_d_map, length_map, marked_le, clear_in, marked_set, below_add}

-- ---- the definition's mark_row, by whether the row is queued
def_old : (r : ℕ) (w : Work) → get_or w.dirty r true ≡ true → mark_row r w ≡ with_marks w.dirty (set w.coeff_dirty r true) w.queue w
unfolding mark_row
def_old r w e = yes _ _ e

def_new : (r : ℕ) (w : Work) → get_or w.dirty r true ≡ false → mark_row r w ≡ with_marks (set w.dirty r true) (set w.coeff_dirty r true) (w.queue ++ (r ∷ [])) w
unfolding mark_row
def_new r w e = no _ _ e

-- ---- it keeps the invariant
module _ {M : Model} {k : ℕ} where
  pub inv_mark_row : (r : ℕ) (w : Work) → Inv M k w → Inv M k (mark_row r w)
  unfolding mark_row
  inv_mark_row r w i =
      either (Inv M k) (get_or w.dirty r true)
      (λ e. record {
        wlos = i.wlos;
        whis = i.whis;
        elos = i.elos;
        ehis = i.ehis;
        dirties = i.dirties;
        coeff_dirties = length-set w.coeff_dirty r true ∙ i.coeff_dirties;
        rowses = i.rowses;
        queue = i.queue;
        room = i.room;
        rows = i.rows;
      })
      (λ e.
      let z = marked_set w.dirty r e in
      let y = clear_in w.dirty r e in
      let x = length-append w.queue (r ∷ []) in
      record {
        wlos = i.wlos;
        whis = i.whis;
        elos = i.elos;
        ehis = i.ehis;
        dirties = length-set w.dirty r true ∙ i.dirties;
        coeff_dirties = length-set w.coeff_dirty r true ∙ i.coeff_dirties;
        rowses = i.rowses;
        queue = below_add i.queue (omega (arith, y, i.dirties));
        room = omega (arith, z, x, i.room);
        rows = i.rows;
      })

  inv_mark_from : (n r v : ℕ) (w : Work) → Inv M k w → Inv M k (mark_from M n r v w)
  unfolding mark_from
  inv_mark_from zero r v w i = i
  inv_mark_from (suc n) r v w i = inv_mark_from n (suc r) v _ (either (Inv M k) (adjacent M v r) (λ e. inv_mark_row r w i) (λ e. i))

  pub inv_mark_var : (v : ℕ) (w : Work) → Inv M k w → Inv M k (mark_var M v w)
  unfolding mark_var
  inv_mark_var v w i = inv_mark_from (length M.rhs) 0 v w i

pub mark_row_keeps : {P : Model → Type 0} {s : Context} (r : ℕ) → Keeps P s (λ M. mark_row r)
mark_row_keeps r = record { keeps = λ M k w p c i. inv_mark_row r w i }

-- a row's flag, in the blocks and in the state
pub flag_of : {M : Model} {f : Floats} {n : Numbers} {r k : ℕ} {o : List ℕ} {w : Work} → Shows M f n o w → Inv M k w → r < length M.rhs → get_or w.dirty r true ≡ is_one (get_or n.dirty r 0)
flag_of {n = n} {r = r} {w = w} h i p =
    let l : length n.dirty ≡ length w.dirty = sym (length_map is_one n.dirty) ∙ ap length h.dirty in
    ap (λ (b : List Bool). get_or b r true) (sym h.dirty) ∙ get_d_map is_one n.dirty r 0 true (omega (arith, l, i.dirties))

-- ---- mark_row
module _ {s : Context} {n : Numbers} {r : ℕ} where
  -- there is room for a row that is not queued
  room_of : {M : Model} {f : Floats} {k : ℕ} {o : List ℕ} {w : Work} → Call M s → Shows M f n o w → Inv M k w → r < s.rows → get_or n.dirty r 0 ≢ 1 → get_or n.queued 0 0 < s.rows
  room_of {w = w} c h i p ne =
      let g : get_or w.dirty r true ≡ false = flag_of h i (omega (arith, p, c.rows)) ∙ one_not (get_or n.dirty r 0) ne in
      let z = marked_set w.dirty r g in
      let y = marked_le (set w.dirty r true) in
      let x = length-set w.dirty r true in
      omega (arith, z, y, x, h.queued, i.room, i.dirties, c.rows)

  pub mark_room : {P : Model → Type 0} {n₁ n₂ : Numbers} {d q : ℕ} → ReadyN P s n → r < s.rows → n₁ ≡ put_coeff_dirty r 1 n → d ≡ get_or n₁.dirty r 0 → (d ≡ 1 → ⊥) → n₂ ≡ put_dirty r 1 n₁
      → q ≡ get_or n₂.queued 0 0 → q < s.rows
  mark_room {n₁ = n₁} {n₂} {d} {q} R p e₁ e₂ ne e₃ e₄ =
      let a : d ≡ get_or n.dirty r 0 = e₂ ∙ ap (λ (z : Numbers). get_or z.dirty r 0) e₁ in
      let b : q ≡ get_or n.queued 0 0 = e₄ ∙ ap (λ (z : Numbers). get_or z.queued 0 0) (e₃ ∙ ap (put_dirty r 1) e₁) in
      omega (arith, b, room_of R.ready.call R.ready.shows R.ready.inv p (λ z. ne (a ∙ z)))

  pub mark_old : {n₁ : Numbers} {d : ℕ} → r < s.rows → n₁ ≡ put_coeff_dirty r 1 n → d ≡ get_or n₁.dirty r 0 → d ≡ 1 → ActsN Any s n n₁ (λ M. mark_row r)
  mark_old {n₁} {d} p e₁ e₂ one =
      record {
        does = λ M f o k w a c h i.
            let g : get_or w.dirty r true ≡ true =
            flag_of h i (omega (arith, p, c.rows)) ∙ ap is_one (ap (λ (z : Numbers). get_or z.dirty r 0) (sym e₁) ∙ sym e₂ ∙ one) ∙ one_is in
            rw (def_old r w g, e₁)
            (record {
              wlo = h.wlo;
              whi = h.whi;
              elo = h.elo;
              ehi = h.ehi;
              dirty = h.dirty;
              coeff_dirty = map_set is_one n.coeff_dirty r 1 ∙ ap (set (map is_one n.coeff_dirty) r) one_is ∙ ap (λ (l : List Bool). set l r true) h.coeff_dirty;
              queued = h.queued;
              queue = h.queue;
              counts = h.counts;
              wave = h.wave;
              alive = h.alive;
              rows = h.rows;
            });
      }

  pub mark_new : {n₁ n₂ n₃ n₄ : Numbers} {d q : ℕ} → r < s.rows → length n.queue ≡ s.rows → length n.queued ≡ 1 → n₁ ≡ put_coeff_dirty r 1 n
      → d ≡ get_or n₁.dirty r 0 → (d ≡ 1 → ⊥) → n₂ ≡ put_dirty r 1 n₁
      → q ≡ get_or n₂.queued 0 0 → n₃ ≡ put_queue q r n₂ → n₄ ≡ put_queued 0 (q + 1) n₃ → ActsN Any s n n₄ (λ M. mark_row r)
  mark_new {n₁} {n₂} {n₃} {n₄} {d} {q} p l u e₁ e₂ ne e₃ e₄ e₅ e₆ =
      let b : q ≡ get_or n.queued 0 0 = e₄ ∙ ap (λ (z : Numbers). get_or z.queued 0 0) (e₃ ∙ ap (put_dirty r 1) e₁) in
      record {
        does = λ M f o k w a c h i.
            let nd : get_or n.dirty r 0 ≢ 1 = λ z. ne (e₂ ∙ ap (λ (x : Numbers). get_or x.dirty r 0) e₁ ∙ z) in
            let room = room_of c h i p nd in
            let g : get_or w.dirty r true ≡ false = flag_of h i (omega (arith, p, c.rows)) ∙ one_not (get_or n.dirty r 0) nd in
            let t : take (q + 1) (set n.queue q r) ≡ w.queue ++ (r ∷ []) =
            rw add-one (take-suc-set n.queue q r (omega (arith, room, b, l)) ∙ ap (λ (z : List ℕ). z ++ (r ∷ [])) (ap (λ (j : ℕ). take j n.queue) b ∙ h.queue)) in
            let s₁ : get_or (set n.queued 0 (q + 1)) 0 0 ≡ q + 1 = get_or-set_same n.queued 0 (q + 1) 0 (omega (arith, u)) in
            rw (def_new r w g, e₆, e₅, e₃, e₁)
            (record {
              wlo = h.wlo;
              whi = h.whi;
              elo = h.elo;
              ehi = h.ehi;
              dirty = map_set is_one n.dirty r 1 ∙ ap (set (map is_one n.dirty) r) one_is ∙ ap (λ (x : List Bool). set x r true) h.dirty;
              coeff_dirty = map_set is_one n.coeff_dirty r 1 ∙ ap (set (map is_one n.coeff_dirty) r) one_is ∙ ap (λ (x : List Bool). set x r true) h.coeff_dirty;
              queued = s₁ ∙ omega (arith, b, h.queued, length-append w.queue (r ∷ []));
              queue = ap (λ (j : ℕ). take j (set n.queue q r)) s₁ ∙ t;
              counts = h.counts;
              wave = h.wave;
              alive = h.alive;
              rows = h.rows;
            });
      }

-- ---- mark_rows: the rows of a list, one after the other
unfoldable pub mark_all : List ℕ → Work → Work
mark_all [] w = w
mark_all (r ∷ rs) w = mark_all rs (mark_row r w)

mark_snoc : (rs : List ℕ) (r : ℕ) (w : Work) → mark_all (rs ++ (r ∷ [])) w ≡ mark_row r (mark_all rs w)
unfolding mark_all
mark_snoc [] r w = refl
mark_snoc (x ∷ rs) r w = mark_snoc rs r (mark_row x w)

pub slice_snoc : (i e : ℕ) (l : List ℕ) (d : ℕ) → i ≤ e → e < length l → slice i (suc e) l ≡ slice i e l ++ (get_or l e d ∷ [])
slice_snoc i e l d p q =
    let b : i ≤ length (take e l) = let z = length-take-le e l (omega arith) in omega arith in
    ap (drop i) (take-suc l e d q) ∙ drop-append-le i (take e l) (get_or l e d ∷ []) b

inv_mark_all : {M : Model} {k : ℕ} (rs : List ℕ) (w : Work) → Inv M k w → Inv M k (mark_all rs w)
unfolding mark_all
inv_mark_all [] w i = i
inv_mark_all (r ∷ rs) w i = inv_mark_all rs (mark_row r w) (inv_mark_row r w i)

pub mark_all_keeps : {P : Model → Type 0} {s : Context} (rs : List ℕ) → Keeps P s (λ M. mark_all rs)
mark_all_keeps rs = record { keeps = λ M k w p c i. inv_mark_all rs w i }

-- after the rows from a up to i
pub record RowsInv (s : Context) (adjacency : List ℕ) (a e i : ℕ) (n₀ n : Numbers) : Type 0 where
  pub upto : i ≤ e
  pub from : a ≤ i
  pub rows : Below s.rows (slice a e adjacency)
  pub long : e ≤ length adjacency
  pub ready : ReadyN Any s n
  pub acts : ActsN Any s n₀ n (λ M. mark_all (slice a i adjacency))

module _ {s : Context} {adjacency : List ℕ} {a e i : ℕ} {n₀ n : Numbers} (v : RowsInv s adjacency a e i n₀ n) where
  pub rows_row : {r : ℕ} → i < e → r ≡ get_or adjacency i 0 → r < s.rows
  rows_row {r} p q =
      let b : i - a < length (slice a e adjacency) = let z = length-slice a e adjacency v.long in omega (arith, z, p, v.from) in
      let j : a + (i - a) ≡ i = omega (arith, v.from) in
      let x : get_or (slice a e adjacency) (i - a) 0 ≡ get_or adjacency i 0 = get_or-drop a (take e adjacency) (i - a) 0 ∙ ap (λ (k : ℕ). get_or (take e adjacency) k 0) j
      ∙ get_or-take e adjacency i 0 p in
      omega (arith, q, x, v.rows.below (i - a) b)

  pub rows_turn : {r : ℕ} {n' : Numbers} → i < e → r ≡ get_or adjacency i 0 → ActsN Any s n n' (λ M. mark_row r) → RowsInv s adjacency a e (i + 1) n₀ n'
  rows_turn {r} {n'} p q t =
      let z : (w : Work) → mark_all (slice a (i + 1) adjacency) w ≡ mark_row r (mark_all (slice a i adjacency) w) =
      λ w. rw (add-one, slice_snoc a i adjacency 0 v.from (omega (arith, p, v.long)), ← q) (mark_snoc (slice a i adjacency) r w) in
      let b = then_numbers v.acts (mark_all_keeps (slice a i adjacency)) t in
      record {
        upto = omega (arith, p);
        from = omega (arith, v.from);
        rows = v.rows;
        long = v.long;
        ready = ready_next v.ready t (mark_row_keeps r);
        acts = record { does = λ M f o k w x c h j. subst (λ (y : Work). Shows M f n' o y) (sym (z w)) (b.does M f o k w x c h j) };
      }

  pub rows_end : e ≤ i → ActsN Any s n₀ n (λ M. mark_all (slice a e adjacency))
  rows_end p = let z : i ≡ e = omega (arith, p, v.upto) in subst (λ (j : ℕ). ActsN Any s n₀ n (λ M. mark_all (slice a j adjacency))) z v.acts

mark_none : {M : Model} {f : Floats} {n : Numbers} {o : List ℕ} {w : Work} → Shows M f n o w → Shows M f n o (mark_all [] w)
unfolding mark_all
mark_none h = h

pub rows_start : {s : Context} {adjacency : List ℕ} {a e : ℕ} {n : Numbers} → a ≤ e → Below s.rows (slice a e adjacency) → e ≤ length adjacency → ReadyN Any s n → RowsInv s adjacency a e a n n
rows_start {s} {adjacency} {a} {e} {n} p b l R =
    record {
      upto = p;
      from = omega arith;
      rows = b;
      long = l;
      ready = R;
      acts = record { does = λ M f o k w x c h i. subst (λ (rs : List ℕ). Shows M f n o (mark_all rs w)) (sym (slice_empty a adjacency)) (mark_none h) };
    }
