-- A row that no term leaves is as it was: what `fold_row` looks for first.
use Rattle.std.specs.Prelude.{ℕ, zero, suc, ◌+◌, ◌≤◌, ◌<◌, ◌≡◌, refl, ◌⊎◌, Bool, true, ◌||◌, T, ltb, length, Float}
use Rattle.std.proofs.Common.{lt_irrefl, eq-or-lt_of_le, arith, sym, ◌∙◌, subst, inl, inr, true≢false, ltb→lt}
use Rattle.std.proofs.Math.Path.{ap}
use Rattle.std.proofs.Math.Bool.{false}
use mathlib.Core.List.{List}
use Rattle.std.proofs.Math.ListN.{get_or}
use Rattle.std.specs.Float.{nan}
use Rattle.std.specs.Float.Ieee.{eq}
use Rattle.floats.specs.Num.{0f}
use Rattle.definition.specs.Model.{Model, from, Row}
use Rattle.definition.specs.Work.{Work, no_term, fixed}
use Rattle.definition.specs.Folds.{fold_step, fold_loop, fold_fixed}
use Rattle.definition.specs.Choices.{or_left, or_right}
use Rattle.space.specs.declared.Context.{Context}
use Rattle.space.specs.Store.{Floats, Numbers}
use Rattle.view.specs.Known.{Spans}
use Rattle.view.specs.Lists.{no}
use Rattle.view.specs.Rows.{OneRow}
use Rattle.folds.specs.Stands.{Stands, Turns, one_none}
use Rattle.folds.specs.FoldStep.{fixed_in, fixed_is}

-- whether the term at a place leaves
unfoldable pub leaves_at : Floats → Numbers → ℕ → Bool
leaves_at f n i = eq (get_or f.coeffs i nan) 0f || fixed_in f (get_or n.vars i 0)

pub leaves_zero : (f : Floats) (n : Numbers) (i : ℕ) {x : Float} → x ≡ get_or f.coeffs i nan → eq x 0f ≡ true → eq x 0f ≡ leaves_at f n i
unfolding leaves_at
leaves_zero f n i e t = rw (← e, t)

pub leaves_fixed : (f : Floats) (n : Numbers) (i : ℕ) {x : Float} {v : ℕ} {z : Bool} → x ≡ get_or f.coeffs i nan → eq x 0f ≡ false → v ≡ get_or n.vars i 0 → z ≡ fixed_in f v → z ≡ leaves_at f n i
unfolding leaves_at
leaves_fixed f n i e t g h = rw (← e, t, ← g, h)

-- the first k terms stay
pub record Stay (starts : List ℕ) (r k : ℕ) (f : Floats) (n : Numbers) : Type 0 where
  pub stays : (j : ℕ) → j < k → leaves_at f n (get_or starts r 0 + j) ≡ false

pub record Scanned (starts : List ℕ) (r : ℕ) (f : Floats) (n : Numbers) (z : Bool) : Type 0 where
  pub none : z ≡ false → Stay starts r (get_or n.len r 0) f n

below_none : (j : ℕ) → j < 0 → ⊥
below_none j q = omega (arith, q)

module _ {starts : List ℕ} {r : ℕ} {f : Floats} {n : Numbers} where
  pub stay_start : Stay starts r 0 f n
  stay_start = record { stays = λ j q. absurd (below_none j q) }

  pub stay_more : {i a : ℕ} {b : Bool} → Stay starts r i f n → a ≡ get_or starts r 0 → b ≡ leaves_at f n (a + i) → b ≡ false → Stay starts r (i + 1) f n
  stay_more {i} {a} {b} S ea eb e = record { stays = λ j q. go j (eq-or-lt_of_le (omega (arith, q))) }
    where
      go : (j : ℕ) → (j ≡ i) ⊎ (j < i) → leaves_at f n (get_or starts r 0 + j) ≡ false
      go j (inl g) = ap (λ (u : ℕ). leaves_at f n (get_or starts r 0 + u)) g ∙ ap (λ (u : ℕ). leaves_at f n (u + i)) (sym ea) ∙ sym eb ∙ e
      go j (inr g) = S.stays j g

  pub scanned_none : {i l : ℕ} → Stay starts r i f n → l ≡ get_or n.len r 0 → l ≤ i → Scanned starts r f n false
  scanned_none S el il = record { none = λ e. record { stays = λ j q. S.stays j (omega (arith, q, el, il)) } }

  pub scanned_some : Scanned starts r f n true
  scanned_some = record { none = λ e. absurd (true≢false e) }

-- ---- the loop changes nothing
pub record Still (w : Work) (x : Row) (j : ℕ) : Type 0 where
  pub coeff : eq (get_or x.terms j no_term).coeff 0f ≡ false
  pub var : fixed w (get_or x.terms j no_term).var ≡ false

step_still : (w : Work) (x : Row) (i : ℕ) → Still w x i → fold_step w (i, x) ≡ (suc i, x)
unfolding fold_step
step_still w x i h = no _ _ h.coeff ∙ no _ _ h.var

loop_still : (k : ℕ) (w : Work) (x : Row) (i : ℕ) → ((j : ℕ) → i ≤ j → j < i + k → Still w x j) → (fold_loop k w (i, x)).1 ≡ x
unfolding fold_loop
loop_still zero w x i h = refl
loop_still (suc k) w x i h =
    ap (λ (u : ℕ × Row). (fold_loop k w u).1) (step_still w x i (h i (omega arith) (omega arith))) ∙ loop_still k w x (suc i) (λ j p q. h j (omega (arith, p)) (omega (arith, q)))

not_below : (b : Bool) → (T b → ⊥) → b ≡ false
not_below true h = absurd (h tt)
not_below false h = refl

fold_still : (M : Model) (r : ℕ) (w : Work) (x : Row) → (fold_loop (length x.terms) w (0, x)).1 ≡ x → fold_fixed M r w x ≡ x
unfolding fold_fixed
fold_still M r w x e =
    no _ _ (ap (λ (y : Row). ltb (length x.folded) (length y.folded)) e ∙ not_below (ltb (length x.folded) (length x.folded))
    (λ t. lt_irrefl (length x.folded) (ltb→lt (length x.folded) (length x.folded) t))) ∙ e

module _ {starts : List ℕ} {r : ℕ} {f : Floats} {n : Numbers} (M : Model) (w : Work) (x : Row) (k : Spans starts M) (h : Stands M r f n w x) (S : Stay starts r (get_or n.len r 0) f n) where
  start_is : get_or starts r 0 ≡ from M r
  unfolding from
  start_is = ap (λ (u : List ℕ). get_or u r 0) (sym k.starts)

  still : (j : ℕ) → j < length x.terms → Still w x j
  unfolding leaves_at
  still j q =
      let t = h.shown.terms j q in
      let e : (eq (get_or f.coeffs (from M r + j) nan) 0f || fixed_in f (get_or n.vars (from M r + j) 0)) ≡ false = ap
      (λ (u : ℕ). leaves_at f n (u + j)) (sym start_is) ∙ S.stays j (omega (arith, q, h.shown.len)) in
      record {
        coeff = ap (λ (u : Float). eq u 0f) (sym t.coeff) ∙ or_left _ (fixed_in f (get_or n.vars (from M r + j) 0)) e;
        var =
            ap (λ (u : ℕ). fixed w u) (sym t.var) ∙ fixed_is f w (get_or n.vars (from M r + j) 0) h.elo h.ehi
            ∙ or_right (eq (get_or f.coeffs (from M r + j) nan) 0f) _ e;
      }

  row_still : fold_fixed M r w x ≡ x
  row_still = fold_still M r w x (loop_still (length x.terms) w x 0 (λ j p q. still j (omega (arith, q))))

pub scan_turns : {P : Model → Type 0} {s : Context} {starts : List ℕ} {r : ℕ} {f : Floats} {n : Numbers} {z : Bool} → ((M : Model) → P M → Spans starts M)
    → Scanned starts r f n z → z ≡ false → Turns P s r f n f n (λ M. fold_fixed M r)
scan_turns {r = r} {f = f} {n = n} q S e =
    record { does = λ M w x p c h. subst (λ (y : Row). OneRow M r y f n f n) (sym (row_still M w x (q M p) h (S.none e))) (one_none h) }
