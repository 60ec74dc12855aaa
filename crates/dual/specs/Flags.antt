-- Dual fixing's flags in the working numbers: two blocks that no state shows, so that writing them leaves the state shown as it is.
use Rattle.std.specs.Prelude.{ℕ, zero, suc, ◌+◌, ◌≤◌, ◌<◌, ◌≡◌, refl, Bool, true, false, List, [], ◌∷◌, ◌++◌, map, length, set, take}
use Rattle.std.proofs.Common.{arith, add-one, ap, sym, ◌∙◌, length-set, take-suc-set}
use Rattle.floats.specs.Num.{choose}
use Rattle.definition.specs.Model.{Model}
use Rattle.definition.specs.Work.{Work}
use Rattle.definition.specs.Dual.{none_bad}
use Rattle.space.specs.declared.Context.{Context}
use Rattle.space.specs.Store.{Floats, Numbers, put_bad_dec, put_bad_inc}
use Rattle.view.specs.Shows.{is_one, Shows}
use Rattle.view.specs.Lists.{yes, no, one_is, zero_is, map_set}
use Rattle.view.specs.Acts.{Ready}

-- the two blocks, replaced
abbrev pub with_bad : List ℕ → List ℕ → Numbers → Numbers
with_bad d i n = record {
  queued = n.queued;
  dropped = n.dropped;
  tightened = n.tightened;
  fixed = n.fixed;
  rewrote = n.rewrote;
  passes = n.passes;
  dirty = n.dirty;
  coeff_dirty = n.coeff_dirty;
  queue = n.queue;
  wave = n.wave;
  len = n.len;
  folded = n.folded;
  alive = n.alive;
  touched = n.touched;
  binaries = n.binaries;
  fate = n.fate;
  slot = n.slot;
  bad_dec = d;
  bad_inc = i;
  vars = n.vars;
  binary = n.binary;
}

-- F is done to the flags that keep a variable from falling, G to those that keep it from rising, and nothing else
pub record Flags (n n' : Numbers) (F G : List Bool → List Bool) : Type 0 where
  pub decs : List ℕ
  pub incs : List ℕ
  pub same : n' ≡ with_bad decs incs n
  pub dec : map is_one decs ≡ F (map is_one n.bad_dec)
  pub inc : map is_one incs ≡ G (map is_one n.bad_inc)

module _ {n n' : Numbers} {F G : List Bool → List Bool} (a : Flags n n' F G) where
  pub flags_dec : map is_one n'.bad_dec ≡ F (map is_one n.bad_dec)
  flags_dec = ap (λ (z : Numbers). map is_one z.bad_dec) a.same ∙ a.dec

  pub flags_inc : map is_one n'.bad_inc ≡ G (map is_one n.bad_inc)
  flags_inc = ap (λ (z : Numbers). map is_one z.bad_inc) a.same ∙ a.inc

  pub flags_same : {F₁ G₁ : List Bool → List Bool} → ((l : List Bool) → F l ≡ F₁ l) → ((l : List Bool) → G l ≡ G₁ l) → Flags n n' F₁ G₁
  flags_same e g =
      record { decs = a.decs; incs = a.incs; same = a.same; dec = a.dec ∙ e (map is_one n.bad_dec); inc = a.inc ∙ g (map is_one n.bad_inc) }

  pub flags_then : {n₁ : Numbers} {F₁ G₁ : List Bool → List Bool} → Flags n' n₁ F₁ G₁ → Flags n n₁ (λ l. F₁ (F l)) (λ l. G₁ (G l))
  flags_then {F₁ = F₁} {G₁} b =
      record {
        decs = b.decs;
        incs = b.incs;
        same = b.same ∙ ap (with_bad b.decs b.incs) a.same;
        dec = b.dec ∙ ap F₁ flags_dec;
        inc = b.inc ∙ ap G₁ flags_inc;
      }

  pub shows_flags : {M : Model} {f : Floats} {o : List ℕ} {w : Work} → Shows M f n o w → Shows M f n' o w
  shows_flags h =
      rw a.same
      (record {
        wlo = h.wlo;
        whi = h.whi;
        elo = h.elo;
        ehi = h.ehi;
        dirty = h.dirty;
        coeff_dirty = h.coeff_dirty;
        queued = h.queued;
        queue = h.queue;
        counts = h.counts;
        wave = h.wave;
        alive = h.alive;
        rows = h.rows;
      })

  pub ready_flags : {P : Model → Type 0} {s : Context} {f : Floats} → Ready P s f n → Ready P s f n'
  ready_flags r =
      record {
        model = r.model;
        other = r.other;
        left = r.left;
        work = r.work;
        known = r.known;
        call = r.call;
        shows = shows_flags r.shows;
        inv = r.inv;
      }

pub flags_none : {n : Numbers} {F G : List Bool → List Bool} → ((l : List Bool) → l ≡ F l) → ((l : List Bool) → l ≡ G l) → Flags n n F G
flags_none {n} e g =
    record { decs = n.bad_dec; incs = n.bad_inc; same = refl; dec = e (map is_one n.bad_dec); inc = g (map is_one n.bad_inc) }

-- ---- one variable is kept from moving, or not
abbrev pub barred : Bool → ℕ → List Bool → List Bool
barred b v l = choose b (set l v true) l

set_flag : (b : Bool) (v : ℕ) (l : List ℕ) → b ≡ true → map is_one (set l v 1) ≡ barred b v (map is_one l)
set_flag b v l t = map_set is_one l v 1 ∙ ap (set (map is_one l) v) one_is ∙ sym (yes _ _ t)

module _ {n n₁ : Numbers} {b : Bool} (v : ℕ) where
  pub fall_barred : b ≡ true → n₁ ≡ put_bad_dec v 1 n → Flags n n₁ (barred b v) (λ l. l)
  fall_barred t e = record { decs = set n.bad_dec v 1; incs = n.bad_inc; same = e; dec = set_flag b v n.bad_dec t; inc = refl }

  pub rise_barred : b ≡ true → n₁ ≡ put_bad_inc v 1 n → Flags n n₁ (λ l. l) (barred b v)
  rise_barred t e = record { decs = n.bad_dec; incs = set n.bad_inc v 1; same = e; dec = refl; inc = set_flag b v n.bad_inc t }

pub fall_free : {n : Numbers} {b : Bool} (v : ℕ) → b ≡ false → Flags n n (barred b v) (λ l. l)
fall_free v t = flags_none (λ l. sym (no _ _ t)) (λ l. refl)

pub rise_free : {n : Numbers} {b : Bool} (v : ℕ) → b ≡ false → Flags n n (λ l. l) (barred b v)
rise_free v t = flags_none (λ l. refl) (λ l. sym (no _ _ t))

-- ---- clear_flags: none is kept from moving
none_snoc : (v : ℕ) → none_bad v ++ (false ∷ []) ≡ none_bad (suc v)
unfolding none_bad
none_snoc zero = refl
none_snoc (suc v) = ap (λ (l : List Bool). false ∷ l) (none_snoc v)

map_snoc : (l : List ℕ) (x : ℕ) → map is_one (l ++ (x ∷ [])) ≡ map is_one l ++ (is_one x ∷ [])
map_snoc [] x = refl
map_snoc (y ∷ l) x = ap (λ (t : List Bool). is_one y ∷ t) (map_snoc l x)

none_nil : map is_one [] ≡ none_bad 0
unfolding none_bad
none_nil = refl

clear_one : (l : List ℕ) (v : ℕ) → v < length l → map is_one (take v l) ≡ none_bad v → map is_one (take (v + 1) (set l v 0)) ≡ none_bad (v + 1)
clear_one l v p e =
    rw add-one
    (ap (map is_one) (take-suc-set l v 0 p) ∙ map_snoc (take v l) 0 ∙ ap (λ (b : Bool). map is_one (take v l) ++ (b ∷ [])) zero_is ∙ ap (λ (t : List Bool). t ++ (false ∷ [])) e ∙ none_snoc v)

pub take_whole : {A : Type 0} (l : List A) → take (length l) l ≡ l
take_whole [] = refl
take_whole (x ∷ l) = ap (λ (t : List _). x ∷ t) (take_whole l)

-- the flags of the variables below v are cleared
pub record Clearing (s : Context) (v : ℕ) (n₀ n : Numbers) : Type 0 where
  pub upto : v ≤ s.vars
  pub dec_long : length n.bad_dec ≡ s.vars
  pub inc_long : length n.bad_inc ≡ s.vars
  pub same : n ≡ with_bad n.bad_dec n.bad_inc n₀
  pub dec : map is_one (take v n.bad_dec) ≡ none_bad v
  pub inc : map is_one (take v n.bad_inc) ≡ none_bad v

pub clear_start : {s : Context} {n : Numbers} → length n.bad_dec ≡ s.vars → length n.bad_inc ≡ s.vars → Clearing s 0 n n
clear_start d i = record { upto = omega arith; dec_long = d; inc_long = i; same = refl; dec = none_nil; inc = none_nil }

module _ {s : Context} {v : ℕ} {n₀ n : Numbers} (C : Clearing s v n₀ n) where
  pub clear_turn : {n₁ n₂ : Numbers} → v < s.vars → n₁ ≡ put_bad_dec v 0 n → n₂ ≡ put_bad_inc v 0 n₁ → Clearing s (v + 1) n₀ n₂
  clear_turn {n₁} {n₂} p e₁ e₂ =
      let e : n₂ ≡ with_bad (set n.bad_dec v 0) (set n.bad_inc v 0) n = e₂ ∙ ap (put_bad_inc v 0) e₁ in
      rw e
      (record {
        upto = omega (arith, p);
        dec_long = length-set n.bad_dec v 0 ∙ C.dec_long;
        inc_long = length-set n.bad_inc v 0 ∙ C.inc_long;
        same = ap (with_bad (set n.bad_dec v 0) (set n.bad_inc v 0)) C.same;
        dec = clear_one n.bad_dec v (omega (arith, p, C.dec_long)) C.dec;
        inc = clear_one n.bad_inc v (omega (arith, p, C.inc_long)) C.inc;
      })

  none_all : (l : List ℕ) → length l ≡ s.vars → v ≡ s.vars → map is_one (take v l) ≡ none_bad v → map is_one l ≡ none_bad s.vars
  none_all l a b e = ap (map is_one) (sym (take_whole l) ∙ ap (λ (j : ℕ). take j l) (a ∙ sym b)) ∙ e ∙ ap none_bad b

  pub clear_end : s.vars ≤ v → Flags n₀ n (λ l. none_bad s.vars) (λ l. none_bad s.vars)
  clear_end p =
      let z : v ≡ s.vars = omega (arith, p, C.upto) in
      record { decs = n.bad_dec; incs = n.bad_inc; same = C.same; dec = none_all n.bad_dec C.dec_long z C.dec; inc = none_all n.bad_inc C.inc_long z C.inc }
