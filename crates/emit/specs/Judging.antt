-- Fates written to the slices, row by row: they are those of every state that the slices show, and that state stays shown.
use Rattle.std.specs.Prelude.{ℕ, ◌+◌, ◌<◌, ◌≡◌, ◌≢◌, Bool, true, false, length, get_or, Float}
use Rattle.std.proofs.Common.{arith, ◌∙◌, subst, ⊎_elim}
use Rattle.std.proofs.Math.Path.{refl, ap, sym}
use mathlib.Core.List.{List}
use Rattle.std.proofs.Math.Seq.{get_or-set_same, get_or-set_other}
use Rattle.std.specs.Float.Ieee.{nan}
use Rattle.floats.specs.Num.{is_finite}
use Rattle.tolerances.specs.Tol.{at}
use Rattle.definition.specs.Model.{Model}
use Rattle.definition.specs.Work.{Work, trivial}
use Rattle.definition.specs.Bindings.{rewritten_bound}
use Rattle.space.specs.declared.Context.{Context}
use Rattle.space.specs.Store.{Floats, Numbers, put_fate, put_bound}
use Rattle.view.specs.Call.{Call}
use Rattle.view.specs.Shows.{is_one, Shows}
use Rattle.view.specs.Inv.{Inv}
use Rattle.view.specs.Acts.{Ready, Reads}
use Rattle.view.specs.Lists.{yes, no, one_is, one_not}
use Rattle.view.specs.Rows.{same?}
use Rattle.readers.specs.Reading.{row_of}
use Rattle.readers.specs.RowAt.{row_alive, row_shown}
use Rattle.readers.specs.Trivial.{TellsTrivial}
use Rattle.emit.specs.Fates.{TRIVIAL, WRITTEN, REWRITTEN, DROPPED, is_rewritten, fate_of, Fates}

-- ---- the blocks of fates and bounds, which show nothing
abbrev pub with_fate : List ℕ → Numbers → Numbers
with_fate l f = record {
  queued = f.queued;
  dropped = f.dropped;
  tightened = f.tightened;
  fixed = f.fixed;
  rewrote = f.rewrote;
  passes = f.passes;
  dirty = f.dirty;
  coeff_dirty = f.coeff_dirty;
  queue = f.queue;
  wave = f.wave;
  len = f.len;
  folded = f.folded;
  alive = f.alive;
  touched = f.touched;
  binaries = f.binaries;
  fate = l;
  slot = f.slot;
  bad_dec = f.bad_dec;
  bad_inc = f.bad_inc;
  vars = f.vars;
  binary = f.binary;
}

abbrev pub with_bound : List Float → Floats → Floats
with_bound l f = record {
  wlo = f.wlo;
  whi = f.whi;
  elo = f.elo;
  ehi = f.ehi;
  lo = f.lo;
  hi = f.hi;
  fold_scale = f.fold_scale;
  shift = f.shift;
  written = f.written;
  rewritten = f.rewritten;
  kept = f.kept;
  bound = l;
  coeffs = f.coeffs;
}

shows_with : {M : Model} {f : Floats} {n : Numbers} {o : List ℕ} {w : Work} (b : List Float) (l : List ℕ) → Shows M f n o w → Shows M (with_bound b f) (with_fate l n) o w
shows_with b l h =
    record {
      wlo = h.wlo;
      whi = h.whi;
      elo = h.elo;
      ehi = h.ehi;
      dirty = h.dirty;
      coeff_dirty = h.coeff_dirty;
      queued = h.queued;
      queue = h.queue;
      counts = h.counts;
      wave = h.wave;
      alive = h.alive;
      rows = h.rows;
    }

-- the fates and bounds of the rows below r are set
pub record Judged (P : Model → Type 0) (s : Context) (f : Floats) (n : Numbers) (f' : Floats) (n' : Numbers) (r : ℕ) : Type 0 where
  pub floats : f' ≡ with_bound f'.bound f
  pub numbers : n' ≡ with_fate n'.fate n
  pub fates : (M : Model) (o : List ℕ) (k : ℕ) (w : Work) → P M → Call M s → Shows M f n o w → Inv M k w → Fates M n'.fate f'.bound w.rows r

-- one row's are
pub record JudgedRow (P : Model → Type 0) (s : Context) (f : Floats) (n : Numbers) (f' : Floats) (n' : Numbers) (r : ℕ) : Type 0 where
  pub floats : f' ≡ with_bound f'.bound f
  pub numbers : n' ≡ with_fate n'.fate n
  pub fate_other : (q : ℕ) → q ≢ r → get_or n'.fate q 0 ≡ get_or n.fate q 0
  pub bound_other : (q : ℕ) → q ≢ r → at f'.bound q ≡ at f.bound q
  pub fate : (M : Model) (o : List ℕ) (k : ℕ) (w : Work) → P M → Call M s → Shows M f n o w → Inv M k w → get_or n'.fate r 0 ≡ fate_of M r (row_of w r)
  pub bound : (M : Model) (o : List ℕ) (k : ℕ) (w : Work) → P M → Call M s → Shows M f n o w → Inv M k w → is_rewritten (get_or n'.fate r 0) ≡ true → at f'.bound r ≡ rewritten_bound M (row_of w r) r

-- what the slices show they show still
pub shows_still : {M : Model} {f f' : Floats} {n n' : Numbers} {o : List ℕ} {w : Work} → f' ≡ with_bound f'.bound f → n' ≡ with_fate n'.fate n → Shows M f n o w → Shows M f' n' o w
shows_still {M} {f} {f'} {n} {n'} {o} {w} a b h =
    subst (λ (x : Floats). Shows M x n' o w) (sym a) (subst (λ (x : Numbers). Shows M (with_bound f'.bound f) x o w) (sym b) (shows_with f'.bound n'.fate h))

module _ {P : Model → Type 0} {s : Context} {f f' : Floats} {n n' : Numbers} where
  pub judged_ready : Ready P s f n → f' ≡ with_bound f'.bound f → n' ≡ with_fate n'.fate n → Ready P s f' n'
  judged_ready R a b =
      record {
        model = R.model;
        other = R.other;
        left = R.left;
        work = R.work;
        known = R.known;
        call = R.call;
        shows = shows_still a b R.shows;
        inv = R.inv;
      }

  pub judged_turn : {f₁ : Floats} {n₁ : Numbers} {r : ℕ} → Judged P s f n f' n' r → JudgedRow P s f' n' f₁ n₁ r → Judged P s f n f₁ n₁ (r + 1)
  judged_turn {f₁} {n₁} {r} J R =
      record {
        floats = R.floats ∙ ap (with_bound f₁.bound) J.floats;
        numbers = R.numbers ∙ ap (with_fate n₁.fate) J.numbers;
        fates = λ M o k w p c h i.
            let h' = shows_still J.floats J.numbers h in
            let F = J.fates M o k w p c h i in
            record {
              fate = λ q l.
                  ⊎_elim (λ e. rw e (R.fate M o k w p c h' i)) (λ ne. R.fate_other q ne ∙ F.fate q (omega (arith, l, ne))) (same? q r);
              bound = λ q l t.
                  ⊎_elim (λ e. rw e (R.bound M o k w p c h' i (rw e at t))) (λ ne. R.bound_other q ne ∙ F.bound q (omega (arith, l, ne)) (sym (ap is_rewritten (R.fate_other q ne)) ∙ t)) (same? q r);
            };
      }

pub judged_start : {P : Model → Type 0} {s : Context} {f : Floats} {n : Numbers} → Judged P s f n f n 0
judged_start = record { floats = refl; numbers = refl; fates = λ M o k w p c h i. record { fate = λ q l. absurd (omega (arith, l)); bound = λ q l t. absurd (omega (arith, l)) } }

-- ---- judge_row, by its ways
module _ (n n' : Numbers) (r c : ℕ) (e : n' ≡ put_fate r c n) where
  fate_now : r < length n.fate → get_or n'.fate r 0 ≡ c
  fate_now p = ap (λ (x : Numbers). get_or x.fate r 0) e ∙ get_or-set_same n.fate r c 0 p

  fate_with : n' ≡ with_fate n'.fate n
  fate_with = e ∙ ap (λ (l : List ℕ). with_fate l n) (sym (ap (λ (x : Numbers). x.fate) e))

  fate_other_lem : (q : ℕ) → q ≢ r → get_or n'.fate q 0 ≡ get_or n.fate q 0
  fate_other_lem q ne = ap (λ (x : Numbers). get_or x.fate q 0) e ∙ get_or-set_other n.fate r q c 0 ne

module _ {P : Model → Type 0} (s : Context) (f : Floats) (n n' : Numbers) (r : ℕ) (l : length n.fate ≡ s.rows) (p : r < s.rows) where
  -- a fate with no bound
  judge : (c : ℕ) → is_rewritten c ≡ false → n' ≡ put_fate r c n
      → ((M : Model) (o : List ℕ) (k : ℕ) (w : Work) → P M → Call M s → Shows M f n o w → Inv M k w → fate_of M r (row_of w r) ≡ c) → JudgedRow P s f n f n' r
  judge c d e h =
      let z = fate_now n n' r c e (omega (arith, l, p)) in
      record {
        floats = refl;
        numbers = fate_with n n' r c e;
        fate_other = fate_other_lem n n' r c e;
        bound_other = λ q ne. refl;
        fate = λ M o k w x y g i. z ∙ sym (h M o k w x y g i);
        bound = λ M o k w x y g i t. absurd (let u : ◌≡◌ {A = Bool} true false = sym t ∙ ap is_rewritten z ∙ d in let v : ◌≡◌ {A = ℕ} 0 1 = cc in omega arith);
      }

  module _ {ss os : List ℕ} {bs : List Float} (known : (M : Model) → P M → (M.starts ≡ ss) × (M.cmp ≡ os) × (M.rhs ≡ bs)) {z : Bool} (T : TellsTrivial s ss os bs r z) where
    trivial_is : (M : Model) → P M → Call M s → trivial M r ≡ z
    trivial_is M x y = let a = known M x in T.tells M a.0 a.1 a.2 y

    pub judge_trivial : z ≡ true → n' ≡ put_fate r TRIVIAL n → JudgedRow P s f n f n' r
    unfolding fate_of is_rewritten
    judge_trivial t e = judge TRIVIAL refl e (λ M o k w x y g i. yes _ _ (trivial_is M x y ∙ t))

    module _ (t : z ≡ false) {a : ℕ} (ea : a ≡ get_or n.alive r 0) where
      pub judge_gone : (a ≡ 1 → ⊥) → n' ≡ put_fate r DROPPED n → JudgedRow P s f n f n' r
      unfolding fate_of is_rewritten
      judge_gone b e =
          judge DROPPED refl e
          (λ M o k w x y g i. no _ _ (trivial_is M x y ∙ t) ∙ no _ _ (sym (g.alive r (omega (arith, p, y.rows))) ∙ one_not (get_or n.alive r 0) (λ q. b (ea ∙ q))))

      module _ (b : a ≡ 1) {u : ℕ} (eu : u ≡ get_or n.touched r 0) where
        touched_is : {M : Model} {o : List ℕ} {w : Work} → Call M s → Shows M f n o w → is_one (get_or n.touched r 0) ≡ (row_of w r).touched
        touched_is y g = (row_shown y g p (sym ea ∙ b)).touched

        pub judge_untouched : (u ≡ 1 → ⊥) → n' ≡ put_fate r WRITTEN n → JudgedRow P s f n f n' r
        unfolding fate_of is_rewritten
        judge_untouched d e =
            judge WRITTEN refl e
            (λ M o k w x y g i. no _ _ (trivial_is M x y ∙ t) ∙ yes _ _ (row_alive y g p (sym ea ∙ b)) ∙ no _ _ (sym (touched_is y g) ∙ one_not (get_or n.touched r 0) (λ q. d (eu ∙ q))))

        module _ (d : u ≡ 1) {v : Float} (B : Reads P s f n v (λ M w. rewritten_bound M (row_of w r) r)) where
          touched_one : {M : Model} {o : List ℕ} {w : Work} → Call M s → Shows M f n o w → (row_of w r).touched ≡ true
          touched_one y g = sym (touched_is y g) ∙ ap is_one (sym eu ∙ d) ∙ one_is

          pub judge_infinite : is_finite v ≡ false → n' ≡ put_fate r WRITTEN n → JudgedRow P s f n f n' r
          unfolding fate_of is_rewritten
          judge_infinite j e =
              judge WRITTEN refl e
              (λ M o k w x y g i. no _ _ (trivial_is M x y ∙ t) ∙ yes _ _ (row_alive y g p (sym ea ∙ b)) ∙ yes _ _ (touched_one y g) ∙ no _ _ (ap is_finite (B.reads M o k w x y g i) ∙ j))

          pub judge_finite : {f' : Floats} → length f.bound ≡ s.rows → is_finite v ≡ true → f' ≡ put_bound r v f → n' ≡ put_fate r REWRITTEN n → JudgedRow P s f n f' n' r
          unfolding fate_of
          judge_finite {f'} m j ef e =
              record {
                floats = ef ∙ ap (λ (x : List Float). with_bound x f) (sym (ap (λ (x : Floats). x.bound) ef));
                numbers = fate_with n n' r REWRITTEN e;
                fate_other = fate_other_lem n n' r REWRITTEN e;
                bound_other = λ q ne. ap (λ (x : Floats). at x.bound q) ef ∙ get_or-set_other f.bound r q v nan ne;
                fate = λ M o k w x y g i.
                    fate_now n n' r REWRITTEN e (omega (arith, l, p))
                    ∙ sym (no _ _ (trivial_is M x y ∙ t) ∙ yes _ _ (row_alive y g p (sym ea ∙ b)) ∙ yes _ _ (touched_one y g) ∙ yes _ _ (ap is_finite (B.reads M o k w x y g i) ∙ j));
                bound = λ M o k w x y g i q. ap (λ (h : Floats). at h.bound r) ef ∙ get_or-set_same f.bound r v nan (omega (arith, m, p)) ∙ sym (B.reads M o k w x y g i);
              }
