-- `hold_rewrites` and `fold_fixed`, which call each other: their ways, and the number that falls.
use Rattle.std.specs.Prelude.{ℕ, zero, suc, ◌+◌, ◌≤◌, ◌<◌, ◌≡◌, refl, Bool, false, not, ◌&&◌, length, get_or, Float}
use Rattle.std.proofs.Common.{arith, ◌∙◌, lt→ltb}
use Rattle.std.proofs.Math.Path.{ap, sym, subst}
use Rattle.std.proofs.Math.Bool.{true}
use Rattle.std.proofs.Math.Option.{Option, none, some}
use Rattle.std.proofs.Math.Dec.{T, ltb→lt}
use Rattle.std.specs.Float.{nan}
use Rattle.floats.specs.Num.{is_finite}
use Rattle.definition.specs.declared.Rows.{Rows}
use Rattle.definition.specs.Model.{Model, Row, Binding, as_written}
use Rattle.definition.specs.Work.{Work}
use Rattle.definition.specs.Folds.{fold_loop, bound?, gives_back, relax_binding, hold_rewrites, fold_fixed}
use Rattle.space.specs.declared.Context.{Context}
use Rattle.space.specs.Store.{Floats, Numbers}
use Rattle.view.specs.Call.{Call}
use Rattle.view.specs.Shows.{Parts, BindingShown, unbound, is_bound}
use Rattle.view.specs.Known.{Spans, Written, written_spans}
use Rattle.view.specs.Lists.{yes, no}
use Rattle.view.specs.Rows.{OneRow}
use Rattle.folds.specs.Written.{Described, WritesRow}
use Rattle.folds.specs.Stands.{Stands, Standing, Turns, TellsRow, one_then, one_none, stands_after, standing_under, turns_under}
use Rattle.folds.specs.Keeping.{loop_folds}
use Rattle.folds.specs.Relaxing.{bound_of, unbound_is}
use Rattle.folds.specs.WrittenInv.{as_written_inv, as_written_alive, as_written_unbound}
use Rattle.folds.specs.Kept.{Kept, folds_kept, relax_kept, gives_none, given_again}

-- ---- the number that falls: 2 while the row has a binding
unfoldable pub weight : ℕ → ℕ
weight zero = 0
weight (suc k) = 2

unfoldable weight_of : Option Binding → ℕ
weight_of none = 0
weight_of (some b) = 2

weight_some : (k : ℕ) → 0 < k → weight k ≡ 2
unfolding weight
weight_some zero h = absurd (omega arith)
weight_some (suc k) h = refl

weight_is : {M : Model} {p : Parts} {r : ℕ} {o : Option Binding} → BindingShown M p r o → weight (get_or p.binaries r 0) ≡ weight_of o
unfolding weight weight_of
weight_is (unbound e) = rw e
weight_is {p = p} {r} (is_bound h) = weight_some (get_or p.binaries r 0) (omega (arith, h.count, h.some))

-- ---- what a row stands as after a step
pub standing_after : {P : Model → Type 0} {s : Context} {r : ℕ} {f f₁ : Floats} {n n₁ : Numbers} {F : Model → Work → Row → Row} (G : Standing P s r f n)
    → Turns P s r f n f₁ n₁ F → Kept G.model r G.row (F G.model G.work G.row)
    → Standing P s r f₁ n₁
standing_after {F = F} G t k =
    let a = k.alive G.stands.alive in
    record {
      model = G.model;
      work = G.work;
      row = F G.model G.work G.row;
      known = G.known;
      call = G.call;
      stands = stands_after G.stands (t.does G.model G.work G.row G.known G.call G.stands) a;
      inv = k.inv (λ _. G.inv) a;
    }

abbrev pub looped : Model → Work → Row → Row
looped M w x = (fold_loop (length x.terms) w (0, x)).1

module _ {rows : Rows} {s : Context} {r : ℕ} {f : Floats} {n : Numbers} (G : Standing (Written rows) s r f n) where
  pub given : Described (Written rows) s
  given = record { model = G.model; known = G.known; call = G.call }

  pub in_spans : Standing (Spans rows.starts.now) s r f n
  in_spans = standing_under written_spans G

  pub after_loop : {f₁ : Floats} {n₁ : Numbers} → Turns (Spans rows.starts.now) s r f n f₁ n₁ looped → Standing (Written rows) s r f₁ n₁
  after_loop t = standing_after G (turns_under written_spans t) (folds_kept (loop_folds G.work G.row))

  pub after_relax : {f₁ : Floats} {n₁ : Numbers} → Turns (Spans rows.starts.now) s r f n f₁ n₁ relax_binding → Standing (Written rows) s r f₁ n₁
  after_relax t = standing_after G (turns_under written_spans t) (relax_kept G.model r G.work G.row)

  -- folding leaves the binding
  pub loop_weight : {f₁ : Floats} {n₁ : Numbers} → Turns (Spans rows.starts.now) s r f n f₁ n₁ looped → weight (get_or n₁.binaries r 0) ≡ weight (get_or n.binaries r 0)
  loop_weight {f₁} {n₁} t =
      let d = loop_folds G.work G.row in
      let o = t.does G.model G.work G.row (written_spans G.model G.known) G.call G.stands in
      weight_is (o.now (d.alive ∙ G.stands.alive)).binding ∙ ap weight_of d.binding ∙ sym (weight_is G.stands.shown.binding)

  module _ {f₁ : Floats} {n₁ : Numbers} (W : WritesRow (Written rows) s r f n f₁ n₁ (λ M. as_written M r)) where
    back : OneRow G.model r (as_written G.model r) f n f₁ n₁
    back = W.does G.model G.known G.call

    pub after_written : r < s.rows → Standing (Written rows) s r f₁ n₁
    after_written p =
        record {
          model = G.model;
          work = G.work;
          row = as_written G.model r;
          known = G.known;
          call = G.call;
          stands = stands_after G.stands back (as_written_alive G.model r);
          inv = as_written_inv G.call (omega (arith, p, G.call.rows));
        }

    -- a row given back has none
    pub written_weight : {k : ℕ} → k ≡ get_or n.binaries r 0 → (k ≡ 0 → ⊥) → weight (get_or n₁.binaries r 0) + 1 < weight (get_or n.binaries r 0)
    unfolding weight_of
    written_weight {k} e ne =
        let a = weight_is (back.now (as_written_alive G.model r)).binding ∙ ap weight_of (as_written_unbound G.model r) in
        let b = weight_some (get_or n.binaries r 0) (omega (arith, e, ne)) in
        omega (arith, a, b)

-- ---- hold_rewrites
pub record HoldsRow (P : Model → Type 0) (s : Context) (r : ℕ) (f : Floats) (n : Numbers) (f' : Floats) (n' : Numbers) (z : Bool) : Type 0 where
  pub row : Turns P s r f n f' n' (λ M. hold_rewrites M r)
  pub back : TellsRow P s r f n z (λ M w x. gives_back x)

and_lo : (a b : Bool) → a && not true && b ≡ false
and_lo true b = refl
and_lo false b = refl

and_hi : (a b : Bool) → a && b && not true ≡ false
and_hi true true = refl
and_hi true false = refl
and_hi false b = refl

gives_lo : (x : Row) → is_finite x.lo ≡ true → gives_back x ≡ false
unfolding gives_back
gives_lo x e = rw e (and_lo (bound? x.binding) (not (is_finite x.hi)))

gives_hi : (x : Row) → is_finite x.hi ≡ true → gives_back x ≡ false
unfolding gives_back
gives_hi x e = rw e (and_hi (bound? x.binding) (not (is_finite x.lo)))

gives_all : (x : Row) (b : Binding) → x.binding ≡ some b → is_finite x.lo ≡ false → is_finite x.hi ≡ false → gives_back x ≡ true
unfolding gives_back bound?
gives_all x b e l h = rw (e, l, h)

-- it is not given back
held : {P : Model → Type 0} {s : Context} {r : ℕ} {f : Floats} {n : Numbers} → ((M : Model) (w : Work) (x : Row) → P M → Call M s → Stands M r f n w x → gives_back x ≡ false)
    → HoldsRow P s r f n f n false
unfolding hold_rewrites
held {P} {s} {r} {f} {n} g =
    record {
      row = record { does = λ M w x p c h. subst (λ (u : Row). OneRow M r u f n f n) (sym (no _ _ (g M w x p c h))) (one_none h) };
      back = record { tells = g };
    }

module _ {P : Model → Type 0} {s : Context} {r : ℕ} (f : Floats) (n : Numbers) {k : ℕ} (ek : k ≡ get_or n.binaries r 0) where
  pub hold_none : k ≡ 0 → HoldsRow P s r f n f n false
  hold_none e = held (λ M w x p c h. gives_none x (unbound_is h.shown.binding (sym ek ∙ e)))

  module _ {lo : Float} {bl : Bool} (el : lo ≡ get_or f.lo r nan) (ebl : bl ≡ is_finite lo) where
    pub hold_lo : bl ≡ true → HoldsRow P s r f n f n false
    hold_lo t = held (λ M w x p c h. gives_lo x (ap is_finite (sym (el ∙ h.shown.lo)) ∙ sym ebl ∙ t))

    module _ {hi : Float} {bh : Bool} (eh : hi ≡ get_or f.hi r nan) (ebh : bh ≡ is_finite hi) where
      pub hold_hi : bh ≡ true → HoldsRow P s r f n f n false
      hold_hi t = held (λ M w x p c h. gives_hi x (ap is_finite (sym (eh ∙ h.shown.hi)) ∙ sym ebh ∙ t))

      pub hold_back : {f₁ f₂ : Floats} {n₁ n₂ : Numbers} → r < s.rows → (k ≡ 0 → ⊥) → bl ≡ false → bh ≡ false → WritesRow P s r f n f₁ n₁ (λ M. as_written M r)
          → Turns P s r f₁ n₁ f₂ n₂ (λ M. fold_fixed M r)
          → HoldsRow P s r f n f₂ n₂ true
      unfolding hold_rewrites
      hold_back {f₁} {f₂} {n₁} {n₂} q ne fl fh W T =
          record {
            row = record {
              does = λ M w x p c h.
                  let o = W.does M p c in
                  let t = T.does M w (as_written M r) p c (stands_after h o (as_written_alive M r)) in
                  subst (λ (u : Row). OneRow M r u f n f₂ n₂) (given_again r w c (omega (arith, q, c.rows)) ∙ sym (yes _ _ (gives M w x p c h))) (one_then o t);
            };
            back = record { tells = gives };
          }
        where
          gives : (M : Model) (w : Work) (x : Row) → P M → Call M s → Stands M r f n w x → gives_back x ≡ true
          gives M w x p c h =
              let b = bound_of h.shown.binding (λ e. ne (ek ∙ e)) in
              gives_all x b.binding b.is (ap is_finite (sym (el ∙ h.shown.lo)) ∙ sym ebl ∙ fl) (ap is_finite (sym (eh ∙ h.shown.hi)) ∙ sym ebh ∙ fh)

-- ---- fold_fixed
is_true : (b : Bool) → T b → b ≡ true
is_true true h = refl
is_true false h = elim h [ ]

is_false : (b : Bool) → (T b → ⊥) → b ≡ false
is_false true h = absurd (h tt)
is_false false h = refl

module _ {P : Model → Type 0} {s : Context} {r : ℕ} (f : Floats) (n : Numbers) {f₁ : Floats} {n₁ : Numbers} {before after : ℕ}
    (eb : before ≡ get_or n.folded r 0) (t : Turns P s r f n f₁ n₁ looped) (ea : after ≡ get_or n₁.folded r 0) where
  module _ (M : Model) (w : Work) (x : Row) (p : P M) (c : Call M s) (h : Stands M r f n w x) where
    one : OneRow M r (looped M w x) f n f₁ n₁
    one = t.does M w x p c h

    h₁ : Stands M r f₁ n₁ w (looped M w x)
    h₁ = stands_after h one ((loop_folds w x).alive ∙ h.alive)

    before_is : before ≡ length x.folded
    before_is = eb ∙ h.shown.folds

    after_is : after ≡ length (looped M w x).folded
    after_is = ea ∙ h₁.shown.folds

    less : after ≤ before → fold_fixed M r w x ≡ looped M w x
    unfolding fold_fixed
    less q = no _ _ (is_false _ (λ y. let z = ltb→lt (length x.folded) (length (looped M w x).folded) y in omega (arith, z, q, before_is, after_is)))

    more : before < after → fold_fixed M r w x ≡ hold_rewrites M r w (relax_binding M w (looped M w x))
    unfolding fold_fixed
    more q = yes _ _ (is_true _ (lt→ltb (length x.folded) (length (looped M w x).folded) (omega (arith, q, before_is, after_is))))

  pub fold_less : after ≤ before → Turns P s r f n f₁ n₁ (λ M. fold_fixed M r)
  fold_less q = record { does = λ M w x p c h. subst (λ (u : Row). OneRow M r u f n f₁ n₁) (sym (less M w x p c h q)) (one M w x p c h) }

  pub fold_more : {f₂ f₃ : Floats} {n₂ n₃ : Numbers} {z : Bool} → before < after → Turns P s r f₁ n₁ f₂ n₂ relax_binding → HoldsRow P s r f₂ n₂ f₃ n₃ z → Turns P s r f n f₃ n₃ (λ M. fold_fixed M r)
  fold_more {f₂} {f₃} {n₂} {n₃} q u v =
      record {
        does = λ M w x p c h.
            let a = u.does M w (looped M w x) p c (h₁ M w x p c h) in
            let h₂ = stands_after (h₁ M w x p c h) a ((relax_kept M r w (looped M w x)).alive (h₁ M w x p c h).alive) in
            subst (λ (y : Row). OneRow M r y f n f₃ n₃) (sym (more M w x p c h q)) (one_then (one M w x p c h) (one_then a (v.row.does M w (relax_binding M w (looped M w x)) p c h₂)));
      }
