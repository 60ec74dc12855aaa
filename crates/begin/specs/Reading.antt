-- Rows read by their verdicts: what the slices show of the rows below r, and how one row more is shown.
use Prim.Native.Nat.{ℕ, zero, suc, ◌+◌, ◌-◌, ◌%◌, ◌^◌, ◌≤◌, ◌<◌}
use native.Mathlib.Omega.{arith}
use Rattle.std.proofs.Math.Numerals.{add-one}
use Rattle.std.specs.Prelude.{◌≡◌, refl, ◌≢◌, ◌⊎◌, Bool, false, set, Float}
use Rattle.std.proofs.Math.Path.{ap, sym, subst}
use Rattle.std.proofs.Common.{◌∙◌, inl, inr, get_or-set_other}
use Rattle.std.proofs.Math.Bool.{true}
use mathlib.Core.List.{List, [], ◌∷◌, ◌++◌, map}
use Rattle.std.proofs.Math.Option.{Option}
use Rattle.std.proofs.Math.ListN.{length, get_or, take, length-append, get_or-append}
use Rattle.std.proofs.lemmas.List.{get_or_at}
use Rattle.std.proofs.Math.Seq.{get_or-set_same, take-suc-set}
use Rattle.tolerances.specs.Tol.{at, trivial_verdict}
use Rattle.std.specs.Prelude as std
use Rattle.std.specs.Prelude.{Some, None, Ok, Err}
use Rattle.tolerances.specs.Answers.{option_of}
use Rattle.definition.specs.declared.Infeasible.{Infeasible}
use Rattle.definition.specs.declared.Rows as lent
use Rattle.definition.specs.Model.{Model, from, upto, nnz, op_of, rhs_of, Row, with_alive, as_written, counts}
use Rattle.definition.specs.Work.{no_row}
use Rattle.definition.specs.Begin.{Rows, false_row, rows_are, add_row, read_row, read_from}
use Rattle.space.specs.declared.Context.{Context}
use Rattle.space.specs.Store.{Floats, Numbers, numbers_of, HoldsN, put_queued, put_dropped, put_tightened, put_fixed, put_rewrote, put_passes, put_alive, put_dirty, put_coeff_dirty, put_queue}
use Rattle.space.specs.Blocks.{queued_length, dropped_length, tightened_length, fixed_length, rewrote_length, passes_length, dirty_length, coeff_dirty_length, queue_length, alive_length}
use Rattle.view.specs.Call.{Call}
use Rattle.view.specs.Shows.{is_one, Tally, CountsShown, tally_of, parts_of, RowShown, Outcome}
use Rattle.view.specs.Inv.{RowInv, Below, marked}
use Rattle.view.specs.Lists.{one_is, zero_is, marked_le, below_add, count_mod}
use Rattle.view.specs.Rows.{same?, OneRow}
use Rattle.view.specs.Known.{Written}
use Rattle.folds.specs.Written.{Described, WritesRow}
use Rattle.folds.specs.WrittenInv.{as_written_inv}

-- ---- the stores
-- nothing is queued, and nothing is counted
abbrev pub cleared : Numbers → Numbers
cleared n = put_passes 0 0 (put_rewrote 0 0 (put_fixed 0 0 (put_tightened 0 0 (put_dropped 0 0 (put_queued 0 0 n)))))

-- row r is trivially true: it is never at work
abbrev pub skipped : ℕ → Numbers → Numbers
skipped r n = put_dropped 0 ((get_or n.dropped 0 0 + 1) % 2 ^ 64) (put_coeff_dirty r 0 (put_dirty r 0 (put_alive r 0 n)))

-- row r joins the queue
abbrev pub joined : ℕ → Numbers → Numbers
joined r n = put_queued 0 (get_or n.queued 0 0 + 1) (put_queue (get_or n.queued 0 0) r (put_coeff_dirty r 1 (put_dirty r 1 n)))

-- the blocks are as long as they are
pub record RowsLong (s : Context) (n : Numbers) : Type 0 where
  pub queued : length n.queued ≡ 1
  pub dropped : length n.dropped ≡ 1
  pub tightened : length n.tightened ≡ 1
  pub fixed : length n.fixed ≡ 1
  pub rewrote : length n.rewrote ≡ 1
  pub passes : length n.passes ≡ 1
  pub dirty : length n.dirty ≡ s.rows
  pub coeff_dirty : length n.coeff_dirty ≡ s.rows
  pub queue : length n.queue ≡ s.rows
  pub alive : length n.alive ≡ s.rows

-- n is cleared
pub record Cleared (s : Context) (n : Numbers) : Type 0 where
  pub before : Numbers
  pub long : RowsLong s before
  pub is : n ≡ cleared before

-- ---- what the slices show of the rows below r
pub record Front (M : Model) (r : ℕ) (f : Floats) (n : Numbers) (rows : List Row) (queue : List ℕ) (dirty : List Bool) (drops : ℕ) : Type 0 where
  pub rowses : length rows ≡ r
  pub dirties : length dirty ≡ r
  pub room : length queue ≡ marked dirty
  pub below : Below (length M.rhs) queue
  pub flags : map is_one (take r n.dirty) ≡ dirty
  pub coeff_flags : map is_one (take r n.coeff_dirty) ≡ dirty
  pub queued : get_or n.queued 0 0 ≡ length queue
  pub queues : take (get_or n.queued 0 0) n.queue ≡ queue
  pub counted : CountsShown (tally_of n) (counts drops 0 0 0 0)
  pub alive : (i : ℕ) → i < r → is_one (get_or n.alive i 0) ≡ (get_or rows i no_row).alive
  pub shown : (i : ℕ) → i < r → (get_or rows i no_row).alive ≡ true → RowShown M (parts_of f n) i (get_or rows i no_row)
  pub inv : (i : ℕ) → i < r → (get_or rows i no_row).alive ≡ true → RowInv M i (get_or rows i no_row)

-- ---- lists with one element more
marked_snoc : (l : List Bool) → marked (l ++ (true ∷ [])) ≡ suc (marked l)
unfolding marked
marked_snoc [] = refl
marked_snoc (true ∷ l) = ap suc (marked_snoc l)
marked_snoc (false ∷ l) = marked_snoc l

marked_same : (l : List Bool) → marked (l ++ (false ∷ [])) ≡ marked l
unfolding marked
marked_same [] = refl
marked_same (true ∷ l) = ap suc (marked_same l)
marked_same (false ∷ l) = marked_same l

map_snoc : {A B : Type 0} (g : A → B) (l : List A) (x : A) → map g (l ++ (x ∷ [])) ≡ map g l ++ (g x ∷ [])
map_snoc g [] x = refl
map_snoc {A} {B} g (y ∷ l) x = ap (λ (t : List B). g y ∷ t) (map_snoc g l x)

-- a flag more
flag_more : (l : List ℕ) (r x : ℕ) {b : Bool} {ds : List Bool} → r < length l → is_one x ≡ b → map is_one (take r l) ≡ ds → map is_one (take (suc r) (set l r x)) ≡ ds ++ (b ∷ [])
flag_more l r x p e h = rw (take-suc-set l r x p, map_snoc is_one (take r l) x, e, h)

-- a row more: what the old ones have, and what the new one has
module _ (rows : List Row) (x : Row) {r : ℕ} (e : length rows ≡ r) (P : ℕ → Row → Type 0) where
  row_more : ((i : ℕ) → i < r → P i (get_or rows i no_row)) → P r x → (i : ℕ) → i < suc r → P i (get_or (rows ++ (x ∷ [])) i no_row)
  row_more h z i p = go (same? i r)
    where
      go : (i ≡ r) ⊎ (i ≢ r) → P i (get_or (rows ++ (x ∷ [])) i no_row)
      go (inl q) = rw (q, get_or_at rows x [] no_row r e) z
      go (inr q) = let l : i < r = omega arith in rw (get_or-append rows (x ∷ []) no_row i (omega arith)) (h i l)

-- ---- one row more
module _ {M : Model} {s : Context} {r : ℕ} {f : Floats} {n : Numbers} {rows : List Row} {queue : List ℕ} {dirty : List Bool} {drops : ℕ} (c : Call M s)
    (h : Front M r f n rows queue dirty drops) (p : r < s.rows) (b : RowsLong s n) where
  front_skip : {n' : Numbers} → n' ≡ skipped r n → Front M (suc r) f n' (rows ++ (with_alive false (as_written M r) ∷ [])) queue (dirty ++ (false ∷ [])) (suc drops)
  front_skip e =
      rw e
      (record {
        rowses = let z = length-append rows (with_alive false (as_written M r) ∷ []) in omega (arith, z, h.rowses);
        dirties = let z = length-append dirty (false ∷ []) in omega (arith, z, h.dirties);
        room = h.room ∙ sym (marked_same dirty);
        below = h.below;
        flags = flag_more n.dirty r 0 (omega (arith, p, b.dirty)) zero_is h.flags;
        coeff_flags = flag_more n.coeff_dirty r 0 (omega (arith, p, b.coeff_dirty)) zero_is h.coeff_flags;
        queued = h.queued;
        queues = h.queues;
        counted =
            record {
              dropped = get_or-set_same n.dropped 0 _ 0 (omega (arith, b.dropped)) ∙ count_mod drops (get_or n.dropped 0 0) h.counted.dropped;
              tightened = h.counted.tightened;
              fixed = h.counted.fixed;
              rewrote = h.counted.rewrote;
              passes = h.counted.passes;
            };
        alive = row_more rows (with_alive false (as_written M r)) h.rowses (λ i x. is_one (get_or (set n.alive r 0) i 0) ≡ x.alive)
            (λ i q. ap is_one (get_or-set_other n.alive r i 0 0 (λ z. omega arith)) ∙ h.alive i q)
            (ap is_one (get_or-set_same n.alive r 0 0 (omega (arith, p, b.alive))) ∙ zero_is);
        shown = row_more rows (with_alive false (as_written M r)) h.rowses (λ i x. x.alive ≡ true → RowShown M (parts_of f n) i x) h.shown
            (λ z. absurd (let y : ◌≡◌ {A = ℕ} 0 1 = cc in omega arith));
        inv = row_more rows (with_alive false (as_written M r)) h.rowses (λ i x. x.alive ≡ true → RowInv M i x) h.inv (λ z. absurd (let y : ◌≡◌ {A = ℕ} 0 1 = cc in omega arith));
      })

  front_room : get_or n.queued 0 0 ≤ r
  front_room = let z = marked_le dirty in omega (arith, z, h.queued, h.room, h.dirties)

  front_add : {f₁ : Floats} {n₁ n₂ : Numbers} → OneRow M r (as_written M r) f n f₁ n₁ → n₂ ≡ joined r n₁
      → Front M (suc r) f₁ n₂ (rows ++ (as_written M r ∷ [])) (queue ++ (r ∷ [])) (dirty ++ (true ∷ [])) drops
  unfolding as_written
  front_add {f₁} {n₁} {n₂} d e =
      let rr : r < length M.rhs = omega (arith, p, c.rows) in
      let qs : take (get_or n₁.queued 0 0) n₁.queue ≡ queue = rw (d.queue, d.queued) h.queues in
      let q₁ : get_or n₁.queued 0 0 ≡ get_or n.queued 0 0 = ap (λ (l : List ℕ). get_or l 0 0) d.queued in
      let one : get_or (set n₁.queued 0 (get_or n₁.queued 0 0 + 1)) 0 0 ≡ suc (get_or n₁.queued 0 0) =
      get_or-set_same n₁.queued 0 _ 0 (omega (arith, ap length d.queued, b.queued)) ∙ add-one (get_or n₁.queued 0 0) in
      rw e
      (record {
        rowses = let z = length-append rows (as_written M r ∷ []) in omega (arith, z, h.rowses);
        dirties = let z = length-append dirty (true ∷ []) in omega (arith, z, h.dirties);
        room = let z = length-append queue (r ∷ []) in let y = marked_snoc dirty in omega (arith, z, y, h.room);
        below = below_add h.below rr;
        flags = flag_more n₁.dirty r 1 (omega (arith, p, b.dirty, ap length d.dirty)) one_is (ap (λ (l : List ℕ). map is_one (take r l)) d.dirty ∙ h.flags);
        coeff_flags = flag_more n₁.coeff_dirty r 1 (omega (arith, p, b.coeff_dirty, ap length d.coeff_dirty)) one_is (ap (λ (l : List ℕ). map is_one (take r l)) d.coeff_dirty ∙ h.coeff_flags);
        queued = let z = length-append queue (r ∷ []) in omega (arith, z, one, q₁, h.queued);
        queues =
            ap (λ (k : ℕ). take k (set n₁.queue (get_or n₁.queued 0 0) r)) one
            ∙ take-suc-set n₁.queue (get_or n₁.queued 0 0) r (omega (arith, p, q₁, front_room, b.queue, ap length d.queue))
            ∙ ap (λ (l : List ℕ). l ++ (r ∷ [])) qs;
        counted = subst (λ (t : Tally). CountsShown t (counts drops 0 0 0 0)) (sym d.tally) h.counted;
        alive = row_more rows (as_written M r) h.rowses (λ i x. is_one (get_or n₁.alive i 0) ≡ x.alive) (λ i q. ap is_one (d.alive_other i (λ z. omega arith)) ∙ h.alive i q) d.alive;
        shown = row_more rows (as_written M r) h.rowses (λ i x. x.alive ≡ true → RowShown M (parts_of f₁ n₁) i x)
            (λ i q a. d.other i (get_or rows i no_row) (omega (arith, q, rr)) (λ z. omega arith) (h.shown i q a)) d.now;
        inv = row_more rows (as_written M r) h.rowses (λ i x. x.alive ≡ true → RowInv M i x) h.inv (λ z. as_written_inv c rr);
      })

-- ---- the rows below r, read: one failed, or all are shown
pub data RowsShown (M : Model) (r : ℕ) (f : Floats) (n : Numbers) : Outcome → Rows → Type 0 where
  failed : {e : Infeasible} {k : ℕ} → CountsShown (tally_of n) (counts k 0 0 0 0) → RowsShown M r f n (Err e) (false_row k)
  shown : {rows : List Row} {queue : List ℕ} {dirty : List Bool} {drops : ℕ} → Front M r f n rows queue dirty drops → RowsShown M r f n (Ok tt) (rows_are rows queue dirty drops)

-- no row is read yet
no_rows : {M : Model} {s : Context} {f : Floats} {n n' : Numbers} → RowsLong s n → n' ≡ cleared n → RowsShown M 0 f n' (Ok tt) (rows_are [] [] [] 0)
unfolding marked
no_rows {n = n} b e =
    let z : get_or (set n.queued 0 0) 0 0 ≡ 0 = get_or-set_same n.queued 0 0 0 (omega (arith, b.queued)) in
    rw e
    (shown {rows = []} {queue = []} {dirty = []}
    (record {
      rowses = refl;
      dirties = refl;
      room = refl;
      below = record { below = λ i y. absurd (omega arith) };
      flags = refl;
      coeff_flags = refl;
      queued = z;
      queues = rw z;
      counted =
          record {
            dropped = get_or-set_same n.dropped 0 0 0 (omega (arith, b.dropped));
            tightened = get_or-set_same n.tightened 0 0 0 (omega (arith, b.tightened));
            fixed = get_or-set_same n.fixed 0 0 0 (omega (arith, b.fixed));
            rewrote = get_or-set_same n.rewrote 0 0 0 (omega (arith, b.rewrote));
            passes = get_or-set_same n.passes 0 0 0 (omega (arith, b.passes));
          };
      alive = λ i y. absurd (omega arith);
      shown = λ i y. absurd (omega arith);
      inv = λ i y. absurd (omega arith);
    }))

-- ---- read_row
pub record SameBounds (f f' : Floats) : Type 0 where
  pub wlo : f'.wlo ≡ f.wlo
  pub whi : f'.whi ≡ f.whi
  pub elo : f'.elo ≡ f.elo
  pub ehi : f'.ehi ≡ f.ehi

pub same_bounds_lem : {f : Floats} → SameBounds f f
same_bounds_lem = record { wlo = refl; whi = refl; elo = refl; ehi = refl }

then_bounds : {f f₁ f₂ : Floats} → SameBounds f f₁ → SameBounds f₁ f₂ → SameBounds f f₂
then_bounds a b = record { wlo = b.wlo ∙ a.wlo; whi = b.whi ∙ a.whi; elo = b.elo ∙ a.elo; ehi = b.ehi ∙ a.ehi }

-- row r is read
pub record ReadsOne (P : Model → Type 0) (s : Context) (r : ℕ) (f : Floats) (n : Numbers) (f' : Floats) (n' : Numbers) (z : Outcome) : Type 0 where
  pub does : (M : Model) (x : Rows) → P M → Call M s → RowsShown M r f n (Ok tt) x → RowsShown M (suc r) f' n' z (read_row M r x)
  pub bounds : (M : Model) → P M → Call M s → SameBounds f f'

-- a row's verdict, by the slices of the call
abbrev pub verdict_at : Context → List ℕ → List ℕ → List Float → ℕ → Option Bool
verdict_at s ss os bs r = trivial_verdict s.feas (get_or os r 0) (get_or ss (r + 1) 0 - get_or ss r 0) (at bs r)

pub verdict_is : {ss os : List ℕ} {bs : List Float} {s : Context} (r : ℕ) (M : Model) → M.starts ≡ ss → M.cmp ≡ os → M.rhs ≡ bs → Call M s
    → trivial_verdict M.feas (op_of M r) (nnz M r) (rhs_of M r) ≡ verdict_at s ss os bs r
unfolding op_of rhs_of nnz from upto
verdict_is r M es eo eb c = rw (es, eo, eb, ← c.feas)

module _ {rows : lent.Rows} {s : Context} {r : ℕ} where
  module _ {f : Floats} {n : Numbers} (p : r < s.rows) (b : RowsLong s n) {z : std.Option Bool} (t : option_of z ≡ verdict_at s rows.starts.now rows.cmp.now rows.rhs.now r) where
    pub read_skip : {n' : Numbers} → z ≡ Some true → n' ≡ skipped r n → ReadsOne (Written rows) s r f n f n' (Ok tt)
    unfolding read_row add_row
    read_skip {n'} e g = record { does = λ M x k c h. go M k c h; bounds = λ M k c. same_bounds_lem }
      where
        go : (M : Model) {x : Rows} → Written rows M → Call M s → RowsShown M r f n (Ok tt) x → RowsShown M (suc r) f n' (Ok tt) (read_row M r x)
        go M k c (shown h) = rw (verdict_is r M k.starts k.cmp k.rhs c, ← t, e) (shown (front_skip c h p b g))

    pub read_fail : {u : Infeasible} → z ≡ Some false → ReadsOne (Written rows) s r f n f n (Err u)
    unfolding read_row add_row
    read_fail {u} e = record { does = λ M x k c h. go M k c h; bounds = λ M k c. same_bounds_lem }
      where
        go : (M : Model) {x : Rows} → Written rows M → Call M s → RowsShown M r f n (Ok tt) x → RowsShown M (suc r) f n (Err u) (read_row M r x)
        go M k c (shown h) = rw (verdict_is r M k.starts k.cmp k.rhs c, ← t, e) (failed h.counted)

    pub read_add : {f₁ : Floats} {n₁ n₂ : Numbers} → z ≡ None → ((M : Model) → Written rows M → Call M s → OneRow M r (as_written M r) f n f₁ n₁)
        → n₂ ≡ joined r n₁ → ReadsOne (Written rows) s r f n f₁ n₂ (Ok tt)
    unfolding read_row add_row
    read_add {f₁} {n₁} {n₂} e o g =
        record {
          does = λ M x k c h. go M k c h;
          bounds = λ M k c. let d = o M k c in record { wlo = d.wlo; whi = d.whi; elo = d.elo; ehi = d.ehi };
        }
      where
        go : (M : Model) {x : Rows} → Written rows M → Call M s → RowsShown M r f n (Ok tt) x → RowsShown M (suc r) f₁ n₂ (Ok tt) (read_row M r x)
        go M k c (shown h) = rw (verdict_is r M k.starts k.cmp k.rhs c, ← t, e) (shown (front_add c h p b (o M k c) g))

-- ---- read_rows
abbrev pub all_rows : Model → Rows
all_rows M = read_from M (length M.rhs) 0 (rows_are [] [] [] 0)

-- the rows below r are read, and from there on the definition reads all
pub record Sofar (M : Model) (r : ℕ) (f : Floats) (n : Numbers) : Type 0 where
  pub got : Rows
  pub rest : read_from M (length M.rhs - r) r got ≡ all_rows M
  pub shown : RowsShown M r f n (Ok tt) got

pub record ReadInv (P : Model → Type 0) (s : Context) (r : ℕ) (f₀ : Floats) (f : Floats) (n : Numbers) : Type 0 where
  pub upto : r ≤ s.rows
  pub reads : (M : Model) → P M → Call M s → Sofar M r f n
  pub bounds : (M : Model) → P M → Call M s → SameBounds f₀ f

-- all rows: one fails, and the counts are the definition's; or the slices show all, and the bounds are what they were
pub record RowsRead (P : Model → Type 0) (s : Context) (f : Floats) (f' : Floats) (n' : Numbers) (z : Outcome) : Type 0 where
  pub reads : (M : Model) → P M → Call M s → RowsShown M (length M.rhs) f' n' z (all_rows M)
  pub bounds : (M : Model) → P M → Call M s → SameBounds f f'

read_false : (M : Model) (n r k : ℕ) → read_from M n r (false_row k) ≡ false_row k
unfolding read_from read_row
read_false M zero r k = refl
read_false M (suc n) r k = read_false M n (suc r) k

read_one : (M : Model) (n r : ℕ) (x : Rows) → r < n → read_from M (n - r) r x ≡ read_from M (n - suc r) (suc r) (read_row M r x)
unfolding read_from
read_one M n r x p = let e : n - r ≡ suc (n - suc r) = omega arith in rw e

stays : {M : Model} {r q : ℕ} {f : Floats} {n : Numbers} {u : Infeasible} {x : Rows} (m : ℕ) → RowsShown M r f n (Err u) x → RowsShown M q f n (Err u) (read_from M m r x)
stays {M} {r} m (failed {k} h) = rw (read_false M m r k) (failed h)

module _ {P : Model → Type 0} {s : Context} where
  pub read_start : {f : Floats} {n : Numbers} → Cleared s n → ReadInv P s 0 f f n
  read_start z =
      record {
        upto = omega arith;
        reads = λ M k c. let y : length M.rhs - 0 ≡ length M.rhs = omega arith in record { got = rows_are [] [] [] 0; rest = rw y; shown = no_rows z.long z.is };
        bounds = λ M k c. same_bounds_lem;
      }

  module _ {r : ℕ} {f₀ f : Floats} {n : Numbers} (i : ReadInv P s r f₀ f n) where
    -- the queue has room
    pub read_room : (M : Model) → P M → Call M s → get_or n.queued 0 0 ≤ r
    read_room M k c = go (i.reads M k c).shown
      where
        go : {x : Rows} → RowsShown M r f n (Ok tt) x → get_or n.queued 0 0 ≤ r
        go (shown {dirty = d} h) = let z = marked_le d in omega (arith, z, h.queued, h.room, h.dirties)

    read_more : {f' : Floats} {n' : Numbers} {z : Outcome} → r < s.rows → ReadsOne P s r f n f' n' z → (M : Model) (k : P M) (c : Call M s)
        → RowsShown M (suc r) f' n' z (read_row M r (i.reads M k c).got) × (read_from M (length M.rhs - suc r) (suc r) (read_row M r (i.reads M k c).got) ≡ all_rows M)
    read_more p g M k c =
        let x = i.reads M k c in
        (g.does M x.got k c x.shown, sym (read_one M (length M.rhs) r x.got (omega (arith, p, c.rows))) ∙ x.rest)

    pub read_turn : {f' : Floats} {n' : Numbers} {z : Outcome} → r < s.rows → ReadsOne P s r f n f' n' z → z ≡ Ok tt → ReadInv P s (r + 1) f₀ f' n'
    read_turn p g e =
        rw add-one
        (record {
          upto = omega (arith, p);
          reads = λ M k c. let y = read_more p g M k c in record { got = read_row M r (i.reads M k c).got; rest = y.1; shown = rw e at y.0 };
          bounds = λ M k c. then_bounds (i.bounds M k c) (g.bounds M k c);
        })

    pub read_stop : {f' : Floats} {n' : Numbers} {z : Outcome} {u : Infeasible} → r < s.rows → ReadsOne P s r f n f' n' z → z ≡ Err u → RowsRead P s f₀ f' n' (Err u)
    read_stop {f'} {n'} {u = u} p g e =
        record {
          reads = λ M k c. let y = read_more p g M k c in subst (λ (x : Rows). RowsShown M (length M.rhs) f' n' (Err u) x) y.1 (stays (length M.rhs - suc r) (rw e at y.0));
          bounds = λ M k c. then_bounds (i.bounds M k c) (g.bounds M k c);
        }

    pub read_end : s.rows ≤ r → RowsRead P s f₀ f n (Ok tt)
    unfolding read_from
    read_end p =
        record {
          reads = λ M k c.
              let q : r ≡ length M.rhs = omega (arith, p, i.upto, c.rows) in
              let z : length M.rhs - r ≡ 0 = omega arith in
              let x = i.reads M k c in
              let y : x.got ≡ all_rows M = sym (ap (λ (j : ℕ). read_from M j r x.got) z) ∙ x.rest in
              subst (λ (j : ℕ). RowsShown M j f n (Ok tt) (all_rows M)) q (subst (λ (t : Rows). RowsShown M r f n (Ok tt) t) y x.shown);
          bounds = i.bounds;
        }

pub rows_long : {s : Context} (l : List ℕ) → HoldsN s l → RowsLong s (numbers_of s l)
rows_long {s} l h =
    record {
      queued = queued_length s l h;
      dropped = dropped_length s l h;
      tightened = tightened_length s l h;
      fixed = fixed_length s l h;
      rewrote = rewrote_length s l h;
      passes = passes_length s l h;
      dirty = dirty_length s l h;
      coeff_dirty = coeff_dirty_length s l h;
      queue = queue_length s l h;
      alive = alive_length s l h;
    }

pub cleared_now : {s : Context} (l : List ℕ) {n : Numbers} → HoldsN s l → n ≡ cleared (numbers_of s l) → Cleared s n
cleared_now l h e = record { before = _; long = rows_long l h; is = e }

-- there is room for row r once it is written
pub queue_room : {P : Model → Type 0} {s : Context} {r : ℕ} {f f₁ : Floats} {n n₁ : Numbers} {X : Model → Row} → Described P s → WritesRow P s r f n f₁ n₁ X
    → r < s.rows → get_or n.queued 0 0 ≤ r → get_or n₁.queued 0 0 < s.rows
queue_room G h p q = omega (arith, p, q, ap (λ (l : List ℕ). get_or l 0 0) (h.does G.model G.known G.call).queued)

-- the queue's room in a turn
pub turn_room : {P : Model → Type 0} {s : Context} {r : ℕ} {f₀ f : Floats} {n : Numbers} → Described P s → ReadInv P s r f₀ f n → get_or n.queued 0 0 ≤ r
turn_room G i = read_room i G.model G.known G.call

-- ---- the stores, one after the other
pub clear_end : (n : Numbers) {n₁ n₂ n₃ n₄ n₅ n₆ : Numbers} → n₁ ≡ put_queued 0 0 n → n₂ ≡ put_dropped 0 0 n₁ → n₃ ≡ put_tightened 0 0 n₂
    → n₄ ≡ put_fixed 0 0 n₃ → n₅ ≡ put_rewrote 0 0 n₄ → n₆ ≡ put_passes 0 0 n₅ → n₆ ≡ cleared n
clear_end n e₁ e₂ e₃ e₄ e₅ e₆ = rw (e₆, e₅, e₄, e₃, e₂, e₁)

pub skip_end : (r : ℕ) (n : Numbers) {n₁ n₂ n₃ n₄ : Numbers} → n₁ ≡ put_alive r 0 n → n₂ ≡ put_dirty r 0 n₁ → n₃ ≡ put_coeff_dirty r 0 n₂
    → n₄ ≡ put_dropped 0 ((get_or n₃.dropped 0 0 + 1) % 2 ^ 64) n₃ → n₄ ≡ skipped r n
skip_end r n e₁ e₂ e₃ e₄ = rw (e₄, e₃, e₂, e₁)

pub queue_end : (r : ℕ) (n : Numbers) {q : ℕ} {n₁ n₂ n₃ n₄ : Numbers} → q ≡ get_or n.queued 0 0 → n₁ ≡ put_dirty r 1 n → n₂ ≡ put_coeff_dirty r 1 n₁
    → n₃ ≡ put_queue q r n₂ → n₄ ≡ put_queued 0 (q + 1) n₃ → n₄ ≡ joined r n
queue_end r n e e₁ e₂ e₃ e₄ = rw (e₄, e₃, e₂, e₁, e)
