-- One term of a row at work: it is left alone, or rewritten in the slices.
use Rattle.std.specs.Prelude.{ℕ, zero, suc, ◌+◌, ◌<◌, ◌≡◌, Bool, true, false, ◌||◌, List, eqb, length, get_or, Float, Option, None, Some}
use Rattle.std.proofs.Math.Path.{refl}
use Rattle.std.proofs.Common.{arith, ap, sym, ◌∙◌, subst}
use Rattle.std.proofs.Math.Dec.{eqb-suc-zero}
use Rattle.std.specs.Float.{nan}
use Rattle.tolerances.specs.Tol.{Term, term}
use Rattle.definition.specs.declared.Activity.{Activity}
use Rattle.definition.specs.Model.{Model, Row}
use Rattle.definition.specs.Work.{Work, with_row, no_term}
use Rattle.definition.specs.Rewrites as defs
use Rattle.definition.specs.Tighten.{Rewriting, queued, binary, rewrite_of, row_after, rewrite_step}
use Rattle.formulas.specs.declared.Limits.{Limits}
use Rattle.formulas.specs.Bare.{bare}
use Rattle.formulas.specs.declared.Rebound.{Rebound}
use Rattle.formulas.specs.declared.Rewrite as code
use Rattle.formulas.specs.Rewriting.{bound_is, rewrite_is, maybe_rewrite, rewrite_at, rewrite_of_lem}
use Rattle.space.specs.declared.Context.{Context}
use Rattle.space.specs.Store.{Floats, Numbers}
use Rattle.view.specs.declared.Lists.{Lists}
use Rattle.view.specs.Call.{Call}
use Rattle.view.specs.Shows.{Shows}
use Rattle.view.specs.Inv.{Inv}
use Rattle.view.specs.Lists.{yes, no}
use Rattle.view.specs.Acts.{Ready, Acts}
use Rattle.view.specs.Known.{Spans, Written}
use Rattle.view.specs.Rows.{row_now}
use Rattle.readers.specs.Reading.{row_of, Alive, ReadsF, Domains}
use Rattle.readers.specs.Limits.{ReadsLimits}
use Rattle.readers.specs.RowAt.{row_at, row_alive, alive_of}
use Rattle.coeffs.specs.Keeping.{Nonzero}
use Rattle.tighten.specs.Nonzero.{rewrite_nonzero}
use Rattle.tighten.specs.After.{row_after_keeps, after_alive}
use Rattle.tighten.specs.Tightening.{Tightening, tightening_spans, tightening_written, tightening_domains}
use Rattle.tighten.specs.Over.{ended, end_of, ended_over, step_is, over, queued_over, or_changed, step_changed, shown, stored_is, shown_over}
use Rattle.tighten.specs.Carried.{Progress, progress_of, begun, or_before, carried, Carries}

or_of : (a b : Bool) → a ≡ false → (a || b) ≡ b
or_of a b e = ap (λ (y : Bool). y || b) e

some_rewrite : (n k : ℕ) → n ≡ k → (n ≡ 0 → ⊥) → eqb k 0 ≡ false
some_rewrite n zero e h = absurd (h e)
some_rewrite n (suc k) e h = eqb-suc-zero k

-- the code's answer of a term: nothing, or a rewrite
rewrites_some : (a : Float) (b : Option Rebound) → eqb (defs.rewrites (bound_is a b)) 0 ≡ false
unfolding defs.rewrites
rewrites_some a None = refl
rewrites_some a (Some b) = refl

keeps_none : eqb (defs.rewrites defs.keeps) 0 ≡ true
unfolding defs.rewrites
keeps_none = refl

module _ {ds : List ℕ} {s : Context} {f : Floats} {F : Model → Work → defs.Rewrite} {y : Option code.Rewrite} where
  pub term_some : {z : code.Rewrite} → y ≡ Some z → ReadsF (Domains ds) s f (maybe_rewrite y) F → ReadsF (Domains ds) s f (rewrite_is z) F
  term_some e t = subst (λ (u : Option code.Rewrite). ReadsF (Domains ds) s f (maybe_rewrite u) F) e t

  pub term_none : y ≡ None → ReadsF (Domains ds) s f (maybe_rewrite y) F → ReadsF (Domains ds) s f defs.keeps F
  term_none e t = subst (λ (u : Option code.Rewrite). ReadsF (Domains ds) s f (maybe_rewrite u) F) e t

-- the step in the state as the slices show it
abbrev pub step_at : defs.Form → Float → ℕ → ℕ → Progress → Model → Work → Rewriting
step_at form nz r i x M w = rewrite_step M form nz r i (carried r x w)

-- something changed before
step_before : (form : defs.Form) (nz : Float) (r i : ℕ) (b : Bool) (act : Activity) (M : Model) (w : Work)
    → step_at form nz r i (begun act b) M w ≡ or_changed b (step_at form nz r i (begun act false) M w)
step_before form nz r i true act M w = step_changed M form nz r i true (carried r (begun act false) w)
step_before form nz r i false act M w = refl

pub carries_before : {P : Model → Type 0} {s : Context} {r : ℕ} {f f' : Floats} {n n' : Numbers} {z : Progress} (form : defs.Form) (nz : Float) (i : ℕ) (act : Activity) (b : Bool)
    → Carries P s r f n f' n' z (step_at form nz r i (begun act false)) → Carries P s r f n f' n' (or_before b z) (step_at form nz r i (begun act b))
carries_before {r = r} {f' = f'} {n' = n'} form nz i act b t =
    record {
      does = λ M o k w p c h j. subst (λ (y : Rewriting). Shows M f' n' o (shown r y)) (sym (step_before form nz r i b act M w)) (t.does M o k w p c h j);
      says = λ M o k w p c h j. ap progress_of (step_before form nz r i b act M w) ∙ ap (or_before b) (t.says M o k w p c h j);
    }

-- v and b are the term's as the slices have it, lim the row's four floats, z its rewrite
module _ {lists : Lists} {s : Context} (r i : ℕ) {f : Floats} {n : Numbers} (p : r < s.rows)
    (a : Alive n r) (l : i < get_or n.len r 0) {v : ℕ} {b : Float} (ev : v ≡ get_or n.vars (get_or lists.rows.starts.now r 0 + i) 0)
    (eb : b ≡ get_or f.coeffs (get_or lists.rows.starts.now r 0 + i) nan) (form : defs.Form) (nz : Float) (x : Progress) {lim : Limits} {terms : ℕ} (L : ReadsLimits s f r terms lim)
    {z : defs.Rewrite} (T : ReadsF (Domains lists.domain.now) s f z (λ M w. rewrite_at M (binary M w v) form nz (bare lim) x.act b)) where
  module _ (M : Model) (o : List ℕ) (k : ℕ) (w : Work) (m : Tightening lists M) (c : Call M s) (h : Shows M f n o w) (j : Inv M k w) where
    in_row : i < length (row_of w r).terms
    in_row = omega (arith, l, (row_at c h p a j (tightening_spans M m)).len)

    term_is : get_or (row_of w r).terms i no_term ≡ term v b
    term_is =
        let t = (row_at c h p a j (tightening_spans M m)).terms i in_row in
        let tv : (get_or (row_of w r).terms i no_term).var ≡ v = sym t.var ∙ sym ev in
        let tc : (get_or (row_of w r).terms i no_term).coeff ≡ b = sym t.coeff ∙ sym eb in
        λ y. term (tv y) (tc y)

    rewrite_is_lem : rewrite_of M form nz w (row_of w r) x.act (term v b) ≡ z
    rewrite_is_lem = sym (rewrite_of_lem M form nz w x.act (term v b) (L.has M n o w c h a)) ∙ T.reads M n o k w (tightening_domains M m) c h j

    nonzero : Nonzero z
    nonzero = subst Nonzero rewrite_is_lem (rewrite_nonzero M nz form w (row_of w r) x.act (term v b))

    here_is : rewrite_of M form nz w (row_of w r) x.act (get_or (row_of w r).terms i no_term) ≡ z
    here_is = ap (rewrite_of M form nz w (row_of w r) x.act) term_is ∙ rewrite_is_lem

    -- the new row, in its place
    abbrev next : Row
    next = row_after M form w (row_of w r) i (term v b) z

    next_alive : next.alive ≡ true
    next_alive = after_alive M form w (row_of w r) i (term v b) z ∙ row_alive c h p a

    next_inv : Inv M k (with_row r next w)
    next_inv =
        subst (λ (t : Term). Inv M k (with_row r (row_after M form w (row_of w r) i t z) w)) term_is (row_after_keeps form i z w c p (row_alive c h p a) in_row nonzero j)

    next_row : row_of (with_row r next w) r ≡ next
    next_row = row_now r next w (omega (arith, p, c.rows, j.rowses))

    step_left : x.broke ≡ false → eqb (defs.rewrites z) 0 ≡ true → step_at form nz r i x M w ≡ carried r x w
    step_left xb e = step_is M form nz r i (carried r x w) ∙ yes _ _ (or_of x.broke _ xb ∙ ap (λ (y : defs.Rewrite). eqb (defs.rewrites y) 0) here_is ∙ e)

    module _ {act : Activity} (ea : act ≡ defs.act_after form b z x.act) where
      abbrev end : Rewriting
      end = ended M r next x.act act (queued r w)

      end_is : end_of M form nz r i (carried r x w) ≡ end
      end_is =
          ap (λ (t : Term). ended M r (row_after M form w (row_of w r) i t (rewrite_of M form nz w (row_of w r) x.act t)) x.act
          (defs.act_after form t.coeff (rewrite_of M form nz w (row_of w r) x.act t) x.act) (queued r w)) term_is
          ∙ ap (λ (y : defs.Rewrite). ended M r (row_after M form w (row_of w r) i (term v b) y) x.act (defs.act_after form b y x.act) (queued r w)) rewrite_is_lem
          ∙ ap (λ (y : Activity). ended M r next x.act y (queued r w)) (sym ea)

      step_ends : x.broke ≡ false → eqb (defs.rewrites z) 0 ≡ false → step_at form nz r i x M w ≡ end
      step_ends xb e = step_is M form nz r i (carried r x w) ∙ no _ _ (or_of x.broke _ xb ∙ ap (λ (y : defs.Rewrite). eqb (defs.rewrites y) 0) here_is ∙ e) ∙ end_is

      after_ends : ended M r (row_of (with_row r next w) r) x.act act (queued r (with_row r next w)) ≡ over r next end
      after_ends =
          ap (λ (y : Row). ended M r y x.act act (queued r (with_row r next w))) next_row ∙ ap (ended M r next x.act act) (queued_over r next w)
          ∙ ended_over M r next next x.act act (queued r w)

  pub term_nonzero : Ready (Tightening lists) s f n → Nonzero z
  term_nonzero R = nonzero R.model R.other R.left R.work R.known R.call R.shows R.inv

  pub step_keeps : x.broke ≡ false → z ≡ defs.keeps → Carries (Tightening lists) s r f n f n x (step_at form nz r i x)
  step_keeps xb e =
      let g : eqb (defs.rewrites z) 0 ≡ true = ap (λ (y : defs.Rewrite). eqb (defs.rewrites y) 0) e ∙ keeps_none in
      record {
        does = λ M o k w m c h j. subst (Shows M f n o) (sym (stored_is r w) ∙ ap (shown r) (sym (step_left M o k w m c h j xb g))) h;
        says = λ M o k w m c h j. ap progress_of (step_left M o k w m c h j xb g);
      }

  module _ {f₁ : Floats} {n₁ : Numbers} (A : Acts (Spans lists.rows.starts.now) s f n f₁ n₁ (λ M w. with_row r (row_after M form w (row_of w r) i (term v b) z) w)) where
    after_shows : (M : Model) (o : List ℕ) (k : ℕ) (w : Work) (m : Tightening lists M) (c : Call M s) (h : Shows M f n o w) (j : Inv M k w)
        → Shows M f₁ n₁ o (with_row r (next M o k w m c h j) w)
    after_shows M o k w m c h j = A.does M o k w (tightening_spans M m) c h j

    pub after_ready : Ready (Tightening lists) s f n → Ready (Written lists.rows) s f₁ n₁
    after_ready R =
        record {
          model = R.model;
          other = R.other;
          left = R.left;
          work = with_row r (next R.model R.other R.left R.work R.known R.call R.shows R.inv) R.work;
          known = tightening_written R.model R.known;
          call = R.call;
          shows = after_shows R.model R.other R.left R.work R.known R.call R.shows R.inv;
          inv = next_inv R.model R.other R.left R.work R.known R.call R.shows R.inv;
        }

    pub after_live : Ready (Tightening lists) s f n → Alive n₁ r
    after_live R =
        alive_of R.call (after_shows R.model R.other R.left R.work R.known R.call R.shows R.inv) p
        (ap (λ (y : Row). y.alive) (next_row R.model R.other R.left R.work R.known R.call R.shows R.inv)
        ∙ next_alive R.model R.other R.left R.work R.known R.call R.shows R.inv)

    pub step_rewrites : (y₁ : code.Rewrite) {act : Activity} {f₂ : Floats} {n₂ : Numbers} {y : Progress} → x.broke ≡ false → z ≡ rewrite_is y₁ → act ≡ defs.act_after form b z x.act
        → Carries (Written lists.rows) s r f₁ n₁ f₂ n₂ y (λ M w. ended M r (row_of w r) x.act act (queued r w)) → Carries (Tightening lists) s r f n f₂ n₂ y (step_at form nz r i x)
    step_rewrites y₁ {act} {f₂} {n₂} xb ez ea E =
        let g : eqb (defs.rewrites z) 0 ≡ false = ap (λ (u : defs.Rewrite). eqb (defs.rewrites u) 0) ez ∙ rewrites_some y₁.coeff y₁.bound in
        record {
          does = λ M o k w m c h j.
              let row1 = next M o k w m c h j in
              let w1 = with_row r row1 w in
              subst (Shows M f₂ n₂ o)
              (ap (shown r) (after_ends M o k w m c h j ea) ∙ shown_over r row1 (end M o k w m c h j ea) ∙ ap (shown r) (sym (step_ends M o k w m c h j ea xb g)))
              (E.does M o k w1 (tightening_written M m) c (after_shows M o k w m c h j) (next_inv M o k w m c h j));
          says = λ M o k w m c h j.
              let row1 = next M o k w m c h j in
              let w1 = with_row r row1 w in
              ap progress_of (step_ends M o k w m c h j ea xb g) ∙ ap progress_of (sym (after_ends M o k w m c h j ea))
              ∙ E.says M o k w1 (tightening_written M m) c (after_shows M o k w m c h j) (next_inv M o k w m c h j);
        }
