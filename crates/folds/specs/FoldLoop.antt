-- The turns of `fold_fixed`'s loop together.
use Rattle.std.specs.Prelude.{ℕ, suc, ◌+◌, ◌-◌, ◌≤◌, ◌<◌, ◌≡◌, refl, List, length, get_or}
use Rattle.std.proofs.Common.{arith, add-one, ap, sym, ◌∙◌, subst}
use Rattle.definition.specs.Model.{Model, Row}
use Rattle.definition.specs.Work.{Work}
use Rattle.definition.specs.Folds.{fold_step, fold_loop}
use Rattle.space.specs.declared.Context.{Context}
use Rattle.space.specs.Store.{Floats, Numbers}
use Rattle.view.specs.Call.{Call}
use Rattle.view.specs.Known.{Spans}
use Rattle.view.specs.Rows.{OneRow}
use Rattle.folds.specs.Stands.{Stands, Standing, Turns, TellsRow, one_then, one_none, stands_after}
use Rattle.folds.specs.Keeping.{folds_inv, Looked, step_looked, turns_looked, loop_snoc}
use Rattle.folds.specs.FoldStep.{FoldSteps}

-- after j turns, the next one at place i; k is how many there are
pub record Turned (starts : List ℕ) (s : Context) (r k i j : ℕ) (f₀ : Floats) (n₀ : Numbers) (f : Floats) (n : Numbers) : Type 0 where
  pub all : k ≡ get_or n₀.len r 0
  pub some : j ≤ k
  pub standing : Standing (Spans starts) s r f n
  pub rest : i + (k - j) ≡ get_or n.len r 0
  pub row : Turns (Spans starts) s r f₀ n₀ f n (λ M w x. (fold_loop j w (0, x)).1)
  pub place : TellsRow (Spans starts) s r f₀ n₀ i (λ M w x. (fold_loop j w (0, x)).0)

no_turn : (w : Work) (s : ℕ × Row) → fold_loop 0 w s ≡ s
unfolding fold_loop
no_turn w s = refl

pub turned_none : {starts : List ℕ} {s : Context} {r k : ℕ} {f : Floats} {n : Numbers} → Standing (Spans starts) s r f n → k ≡ get_or n.len r 0 → Turned starts s r k 0 0 f n f n
turned_none {starts} {s} {r} {k} {f} {n} G e =
    record {
      all = e;
      some = omega arith;
      standing = G;
      rest = omega (arith, e);
      row = record { does = λ M w x p c h. subst (λ (u : ℕ × Row). OneRow M r u.1 f n f n) (sym (no_turn w (0, x))) (one_none h) };
      place = record { tells = λ M w x p c h. ap (λ (u : ℕ × Row). u.0) (no_turn w (0, x)) };
    }

module _ {starts : List ℕ} {s : Context} {r k i j : ℕ} {f₀ f : Floats} {n₀ n : Numbers} (T : Turned starts s r k i j f₀ n₀ f n) where
  pub turn_at : j < k → i < get_or n.len r 0
  turn_at q = omega (arith, q, T.rest)

  module _ {z : ℕ} {f₁ : Floats} {n₁ : Numbers} (q : j < k) (S : FoldSteps (Spans starts) s r i f n f₁ n₁ z) where
    abbrev G : Standing (Spans starts) s r f n
    G = T.standing

    look : Looked (k - suc j) G.row (fold_step G.work (i, G.row))
    look = step_looked G.work (k - suc j) i G.row (omega (arith, q, T.rest, G.stands.shown.len))

    next_stands : Stands G.model r f₁ n₁ G.work (fold_step G.work (i, G.row)).1
    next_stands = stands_after G.stands (S.row.does G.model G.work G.row G.known G.call G.stands) (look.folds.alive ∙ G.stands.alive)

    next_standing : Standing (Spans starts) s r f₁ n₁
    next_standing =
        record {
          model = G.model;
          work = G.work;
          row = (fold_step G.work (i, G.row)).1;
          known = G.known;
          call = G.call;
          stands = next_stands;
          inv = folds_inv look.folds G.inv;
        }

    next_rest : z + (k - suc j) ≡ get_or n₁.len r 0
    next_rest = omega (arith, look.left, next_stands.shown.len, S.place.tells G.model G.work G.row G.known G.call G.stands)

    module _ (M : Model) (w : Work) (x : Row) (p : Spans starts M) (c : Call M s) (h : Stands M r f₀ n₀ w x) where
      abbrev before : ℕ × Row
      before = fold_loop j w (0, x)

      so_far : Looked (k - j) x before
      so_far = turns_looked j (k - j) w x (omega (arith, T.all, T.some, h.shown.len))

      h₁ : Stands M r f n w before.1
      h₁ = stands_after h (T.row.does M w x p c h) (so_far.folds.alive ∙ h.alive)

      same_step : fold_loop (suc j) w (0, x) ≡ fold_step w (i, before.1)
      same_step = loop_snoc j w (0, x) ∙ ap (λ (u : ℕ). fold_step w (u, before.1)) (T.place.tells M w x p c h)

    pub turned_more : Turned starts s r k z (j + 1) f₀ n₀ f₁ n₁
    turned_more =
        rw add-one
        (record {
          all = T.all;
          some = omega (arith, q);
          standing = next_standing;
          rest = next_rest;
          row = record {
            does = λ M w x p c h.
                subst (λ (u : ℕ × Row). OneRow M r u.1 f₀ n₀ f₁ n₁) (sym (same_step M w x p c h))
                (one_then (T.row.does M w x p c h) (S.row.does M w (before M w x p c h).1 p c (h₁ M w x p c h)));
          };
          place = record { tells = λ M w x p c h. ap (λ (u : ℕ × Row). u.0) (same_step M w x p c h) ∙ S.place.tells M w (before M w x p c h).1 p c (h₁ M w x p c h) };
        })

  pub turned_end : j ≡ k → Turns (Spans starts) s r f₀ n₀ f n (λ M w x. (fold_loop (length x.terms) w (0, x)).1)
  turned_end q =
      record {
        does = λ M w x p c h.
            let e : j ≡ length x.terms = omega (arith, q, T.all, h.shown.len) in
            subst (λ (u : ℕ). OneRow M r (fold_loop u w (0, x)).1 f₀ n₀ f n) e (T.row.does M w x p c h);
      }
