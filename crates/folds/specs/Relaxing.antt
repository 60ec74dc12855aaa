-- `relax_binding`: what a binding keeps grows with the folded terms, and the bound that it keeps grows with it.
use Rattle.std.specs.Prelude.{ℕ, ◌<◌, ◌≡◌, refl, Bool, true, false, List, length, get_or, Float}
use Rattle.std.proofs.Common.{arith, ap, sym, ◌∙◌, subst, get_or-set_same}
use Rattle.std.proofs.Math.Option.{Option, none, some}
use Rattle.std.specs.Float.{nan}
use Rattle.std.specs.Float.Ieee.{lt}
use Rattle.floats.specs.Num.{choose, ◌⊕◌, ◌⊖◌, gt, is_finite}
use Rattle.definition.specs.Model.{Model, from, upto, Row, Binding, with_range, with_binding}
use Rattle.definition.specs.Work.{Work}
use Rattle.definition.specs.Folds.{widen, with_kept, rewrite_room, fixed_besides, relax_with, relax_binding}
use Rattle.space.specs.declared.Context.{Context}
use Rattle.space.specs.Store.{Floats, Numbers, put_lo, put_hi, put_kept}
use Rattle.view.specs.Call.{Call}
use Rattle.view.specs.Shows.{Parts, parts_of, BindingIs, BindingShown, unbound, is_bound, RowShown}
use Rattle.view.specs.Known.{Spans}
use Rattle.view.specs.Lists.{yes, no}
use Rattle.view.specs.Rows.{OneRow}
use Rattle.formulas.specs.Bare.{ByTol}
use Rattle.folds.specs.Apart.{Apart, elsewhere, untouched, outside, other_shown}
use Rattle.folds.specs.Stands.{Stands, Turns, TellsRow, one_then, one_none, stands_after}
use Rattle.folds.specs.Folding.{binding_same}
use Rattle.folds.specs.Besides.{binaries_of}

-- ---- a binding that stands there
pub record Bound (M : Model) (p : Parts) (r : ℕ) (o : Option Binding) : Type 0 where
  pub binding : Binding
  pub is : o ≡ some binding
  pub shown : BindingIs M p r binding

pub bound_of : {M : Model} {p : Parts} {r : ℕ} {o : Option Binding} → BindingShown M p r o → (get_or p.binaries r 0 ≡ 0 → ⊥) → Bound M p r o
bound_of (unbound e) n = absurd (n e)
bound_of (is_bound {b} h) n = record { binding = b; is = refl; shown = h }

pub unbound_is : {M : Model} {p : Parts} {r : ℕ} {o : Option Binding} → BindingShown M p r o → get_or p.binaries r 0 ≡ 0 → o ≡ none
unbound_is (unbound e) n = refl
unbound_is (is_bound h) n = absurd (omega (arith, n, h.count, h.some))

-- ---- one row's floats that no term and no other row reads
module _ {M : Model} {s : Context} {r : ℕ} {f : Floats} {n : Numbers} {w : Work} {x : Row} (c : Call M s) (p : r < length M.rhs) (h : Stands M r f n w x) where
  r_in : r < s.rows
  r_in = omega (arith, p, c.rows)

  -- ---- kept
  module _ {b : Binding} (k : Float) (g : BindingIs M (parts_of f n) r b) (lk : length f.kept ≡ s.rows) where
    kept_shown : RowShown M (parts_of (put_kept r k f) n) r (with_binding (some (with_kept k b)) x)
    kept_shown =
        record {
          len = h.shown.len;
          folds = h.shown.folds;
          fits = h.shown.fits;
          terms = λ j l. let t = h.shown.terms j l in record { var = t.var; coeff = t.coeff };
          folded = λ j l. let t = h.shown.folded j l in record { var = t.var; coeff = t.coeff };
          lo = h.shown.lo;
          hi = h.shown.hi;
          fold_scale = h.shown.fold_scale;
          shift = h.shown.shift;
          touched = h.shown.touched;
          binding =
              is_bound
              {b = with_kept k b}
              (record {
                count = g.count;
                some = g.some;
                fits = g.fits;
                binary = g.binary;
                written = g.written;
                rewritten = g.rewritten;
                kept = get_or-set_same f.kept r k nan (omega (arith, r_in, lk));
              });
        }

    kept_apart : Apart r (from M r) (upto M r) (parts_of f n) (parts_of (put_kept r k f) n)
    kept_apart =
        record {
          lo = untouched f.lo nan;
          hi = untouched f.hi nan;
          fold_scale = untouched f.fold_scale nan;
          shift = untouched f.shift nan;
          written = untouched f.written nan;
          rewritten = untouched f.rewritten nan;
          kept = elsewhere f.kept nan r k;
          len = untouched n.len 0;
          folded = untouched n.folded 0;
          touched = untouched n.touched 0;
          binaries = untouched n.binaries 0;
          coeffs = outside f.coeffs nan;
          vars = outside n.vars 0;
          binary = outside n.binary 0;
        }

    pub kept_one : {f₁ : Floats} → f₁ ≡ put_kept r k f → OneRow M r (with_binding (some (with_kept k b)) x) f n f₁ n
    kept_one e =
        rw e
        (record {
          alive = h.flag ∙ sym h.alive;
          now = λ _. kept_shown;
          alive_other = λ j ne. refl;
          other = λ j y l ne q. other_shown c l p ne kept_apart q;
          wlo = refl;
          whi = refl;
          elo = refl;
          ehi = refl;
          dirty = refl;
          coeff_dirty = refl;
          queued = refl;
          queue = refl;
          tally = refl;
          wave = refl;
        })

  -- ---- a side
  module _ (y : Float) (lh : length f.hi ≡ s.rows) where
    hi_shown : RowShown M (parts_of (put_hi r y f) n) r (with_range x.lo y x)
    hi_shown =
        record {
          len = h.shown.len;
          folds = h.shown.folds;
          fits = h.shown.fits;
          terms = λ j l. let t = h.shown.terms j l in record { var = t.var; coeff = t.coeff };
          folded = λ j l. let t = h.shown.folded j l in record { var = t.var; coeff = t.coeff };
          lo = h.shown.lo;
          hi = get_or-set_same f.hi r y nan (omega (arith, r_in, lh));
          fold_scale = h.shown.fold_scale;
          shift = h.shown.shift;
          touched = h.shown.touched;
          binding = binding_same refl refl refl refl refl h.shown.binding;
        }

    hi_apart : Apart r (from M r) (upto M r) (parts_of f n) (parts_of (put_hi r y f) n)
    hi_apart =
        record {
          lo = untouched f.lo nan;
          hi = elsewhere f.hi nan r y;
          fold_scale = untouched f.fold_scale nan;
          shift = untouched f.shift nan;
          written = untouched f.written nan;
          rewritten = untouched f.rewritten nan;
          kept = untouched f.kept nan;
          len = untouched n.len 0;
          folded = untouched n.folded 0;
          touched = untouched n.touched 0;
          binaries = untouched n.binaries 0;
          coeffs = outside f.coeffs nan;
          vars = outside n.vars 0;
          binary = outside n.binary 0;
        }

    pub hi_one : {f₁ : Floats} → f₁ ≡ put_hi r y f → OneRow M r (with_range x.lo y x) f n f₁ n
    hi_one e =
        rw e
        (record {
          alive = h.flag ∙ sym h.alive;
          now = λ _. hi_shown;
          alive_other = λ j ne. refl;
          other = λ j z l ne q. other_shown c l p ne hi_apart q;
          wlo = refl;
          whi = refl;
          elo = refl;
          ehi = refl;
          dirty = refl;
          coeff_dirty = refl;
          queued = refl;
          queue = refl;
          tally = refl;
          wave = refl;
        })

  module _ (y : Float) (ll : length f.lo ≡ s.rows) where
    lo_shown : RowShown M (parts_of (put_lo r y f) n) r (with_range y x.hi x)
    lo_shown =
        record {
          len = h.shown.len;
          folds = h.shown.folds;
          fits = h.shown.fits;
          terms = λ j l. let t = h.shown.terms j l in record { var = t.var; coeff = t.coeff };
          folded = λ j l. let t = h.shown.folded j l in record { var = t.var; coeff = t.coeff };
          lo = get_or-set_same f.lo r y nan (omega (arith, r_in, ll));
          hi = h.shown.hi;
          fold_scale = h.shown.fold_scale;
          shift = h.shown.shift;
          touched = h.shown.touched;
          binding = binding_same refl refl refl refl refl h.shown.binding;
        }

    lo_apart : Apart r (from M r) (upto M r) (parts_of f n) (parts_of (put_lo r y f) n)
    lo_apart =
        record {
          lo = elsewhere f.lo nan r y;
          hi = untouched f.hi nan;
          fold_scale = untouched f.fold_scale nan;
          shift = untouched f.shift nan;
          written = untouched f.written nan;
          rewritten = untouched f.rewritten nan;
          kept = untouched f.kept nan;
          len = untouched n.len 0;
          folded = untouched n.folded 0;
          touched = untouched n.touched 0;
          binaries = untouched n.binaries 0;
          coeffs = outside f.coeffs nan;
          vars = outside n.vars 0;
          binary = outside n.binary 0;
        }

    pub lo_one : {f₁ : Floats} → f₁ ≡ put_lo r y f → OneRow M r (with_range y x.hi x) f n f₁ n
    lo_one e =
        rw e
        (record {
          alive = h.flag ∙ sym h.alive;
          now = λ _. lo_shown;
          alive_other = λ j ne. refl;
          other = λ j z l ne q. other_shown c l p ne lo_apart q;
          wlo = refl;
          whi = refl;
          elo = refl;
          ehi = refl;
          dirty = refl;
          coeff_dirty = refl;
          queued = refl;
          queue = refl;
          tally = refl;
          wave = refl;
        })

-- ---- widen: the floats alone change
pub record Widens (s : Context) (r : ℕ) (kept old : Float) (f f' : Floats) : Type 0 where
  pub does : (M : Model) (n : Numbers) (w : Work) (x : Row) → Call M s → Stands M r f n w x → OneRow M r (widen kept old x) f n f' n

module _ {s : Context} (r : ℕ) (kept old : Float) (f : Floats) (p : r < s.rows) {hi : Float} {b : Bool} (eh : hi ≡ get_or f.hi r nan) (eb : b ≡ is_finite hi) where
  module _ (M : Model) (n : Numbers) (w : Work) (x : Row) (c : Call M s) (h : Stands M r f n w x) where
    side_is : {d : Bool} → b ≡ d → is_finite x.hi ≡ d
    side_is e = ap is_finite (sym (eh ∙ h.shown.hi)) ∙ sym eb ∙ e

    widen_yes : b ≡ true → widen kept old x ≡ with_range x.lo (x.hi ⊕ (kept ⊖ old)) x
    unfolding widen
    widen_yes e = yes _ _ (side_is e)

    widen_no : b ≡ false → widen kept old x ≡ with_range (x.lo ⊖ (kept ⊖ old)) x.hi x
    unfolding widen
    widen_no e = no _ _ (side_is e)

  pub widen_hi : {f₁ : Floats} → length f.hi ≡ s.rows → b ≡ true → f₁ ≡ put_hi r (hi ⊕ (kept ⊖ old)) f → Widens s r kept old f f₁
  widen_hi {f₁} l t e =
      record {
        does = λ M n w x c h.
            let y : with_range x.lo (hi ⊕ (kept ⊖ old)) x ≡ widen kept old x = ap (λ (u : Float). with_range x.lo (u ⊕ (kept ⊖ old)) x) (eh ∙ h.shown.hi) ∙ sym (widen_yes M n w x c h t) in
            subst (λ (u : Row). OneRow M r u f n f₁ n) y (hi_one c (omega (arith, p, c.rows)) h (hi ⊕ (kept ⊖ old)) l e);
      }

  pub widen_lo : {f₁ : Floats} {lo : Float} → length f.lo ≡ s.rows → b ≡ false → lo ≡ get_or f.lo r nan → f₁ ≡ put_lo r (lo ⊖ (kept ⊖ old)) f → Widens s r kept old f f₁
  widen_lo {f₁} {lo} l t el e =
      record {
        does = λ M n w x c h.
            let y : with_range (lo ⊖ (kept ⊖ old)) x.hi x ≡ widen kept old x = ap (λ (u : Float). with_range (u ⊖ (kept ⊖ old)) x.hi x) (el ∙ h.shown.lo) ∙ sym (widen_no M n w x c h t) in
            subst (λ (u : Row). OneRow M r u f n f₁ n) y (lo_one c (omega (arith, p, c.rows)) h (lo ⊖ (kept ⊖ old)) l e);
      }

-- ---- relax_binding, by its ways
-- a wider row with another binding
choose_binding : (b : Bool) (o : Option Binding) (x y : Row) → choose b (with_binding o x) (with_binding o y) ≡ with_binding o (choose b x y)
unfolding choose
choose_binding true o x y = refl
choose_binding false o x y = refl

widened_binding : (kept old : Float) (o : Option Binding) (x : Row) → widen kept old (with_binding o x) ≡ with_binding o (widen kept old x)
unfolding widen
widened_binding kept old o x = go (is_finite x.hi)
  where
    go : (b : Bool) → choose b (with_range x.lo (x.hi ⊕ (kept ⊖ old)) (with_binding o x)) (with_range (x.lo ⊖ (kept ⊖ old)) x.hi (with_binding o x))
        ≡ with_binding o (choose b (with_range x.lo (x.hi ⊕ (kept ⊖ old)) x) (with_range (x.lo ⊖ (kept ⊖ old)) x.hi x))
    go b = choose_binding b o _ _

relax_some : (M : Model) (w : Work) (x : Row) (b : Binding) (k : Float) → x.binding ≡ some b → k ≡ rewrite_room M b.written b.rewritten (fixed_besides w x b.binaries)
    → relax_binding M w x ≡ choose (gt k b.kept) (with_binding (some (with_kept k b)) (widen k b.kept x)) x
unfolding relax_binding relax_with
relax_some M w x b k e ek =
    ap (relax_with M w x) e ∙ ap (λ (u : Float). choose (gt u b.kept) (with_binding (some (with_kept u b)) (widen u b.kept x)) x) (sym ek)

pub relax_unbound : (M : Model) (w : Work) (x : Row) → x.binding ≡ none → relax_binding M w x ≡ x
unfolding relax_binding relax_with
relax_unbound M w x e = rw e

module _ {s : Context} {starts : List ℕ} {r : ℕ} (f : Floats) (n : Numbers) (p : r < s.rows) {k : ℕ} (ek : k ≡ get_or n.binaries r 0) where
  pub relax_none : k ≡ 0 → Turns (Spans starts) s r f n f n relax_binding
  relax_none e =
      record {
        does = λ M w x g c h. subst (λ (u : Row). OneRow M r u f n f n) (sym (relax_unbound M w x (unbound_is h.shown.binding (sym ek ∙ e)))) (one_none h);
      }

  module _ {fx wr re kept old : Float} (ne : k ≡ 0 → ⊥) (ef : TellsRow (Spans starts) s r f n fx (λ M w x. fixed_besides w x (binaries_of x.binding))) (ew : wr ≡ get_or f.written r nan)
      (er : re ≡ get_or f.rewritten r nan) (ez : ByTol s.feas kept (λ M. rewrite_room M wr re fx)) (eo : old ≡ get_or f.kept r nan) where
    module _ (M : Model) (w : Work) (x : Row) (g : Spans starts M) (c : Call M s) (h : Stands M r f n w x) where
      bound : Bound M (parts_of f n) r x.binding
      bound = bound_of h.shown.binding (λ e. ne (ek ∙ e))

      abbrev b : Binding
      b = bound.binding

      fixed_is : fixed_besides w x b.binaries ≡ fx
      fixed_is = ap (λ (o : Option Binding). fixed_besides w x (binaries_of o)) (sym bound.is) ∙ ef.tells M w x g c h

      kept_is : kept ≡ rewrite_room M b.written b.rewritten (fixed_besides w x b.binaries)
      kept_is = rw (fixed_is, ← bound.shown.written, ← bound.shown.rewritten, ← ew, ← er) (ez.of M (sym c.feas))

      old_is : old ≡ b.kept
      old_is = eo ∙ bound.shown.kept

      relax_is : relax_binding M w x ≡ choose (gt kept b.kept) (with_binding (some (with_kept kept b)) (widen kept b.kept x)) x
      relax_is = relax_some M w x b kept bound.is kept_is

    pub relax_same : lt old kept ≡ false → Turns (Spans starts) s r f n f n relax_binding
    relax_same t =
        record {
          does = λ M w x g c h.
              let y : relax_binding M w x ≡ x = relax_is M w x g c h ∙ no _ _ (rw (old_is M w x g c h) at t) in
              subst (λ (u : Row). OneRow M r u f n f n) (sym y) (one_none h);
        }

    pub relax_more : {f₁ f₂ : Floats} → length f.kept ≡ s.rows → lt old kept ≡ true → f₁ ≡ put_kept r kept f → Widens s r kept old f₁ f₂ → Turns (Spans starts) s r f n f₂ n relax_binding
    relax_more {f₁} {f₂} l t e v =
        record {
          does = λ M w x g c h.
              let b = (bound M w x g c h).binding in
              let o = some (with_kept kept b) in
              let y : relax_binding M w x ≡ with_binding o (widen kept b.kept x) = relax_is M w x g c h ∙ yes _ _ (rw (old_is M w x g c h) at t) in
              let z : widen kept old (with_binding o x) ≡ relax_binding M w x = ap (λ (u : Float). widen kept u (with_binding o x)) (old_is M w x g c h) ∙ widened_binding kept b.kept o x ∙ sym y in
              let a = kept_one c (omega (arith, p, c.rows)) h kept (bound M w x g c h).shown l e in
              subst (λ (u : Row). OneRow M r u f n f₂ n) z (one_then a (v.does M n w (with_binding o x) c (stands_after h a h.alive)));
        }
