-- The terms of a row, one after the other: what is left of the definition from term i on gives the whole.
use Rattle.std.specs.Prelude.{ℕ, suc, ◌+◌, ◌-◌, ◌≤◌, ◌<◌, ◌≡◌, Bool, true, false, List, length, get_or, Float}
use Rattle.std.proofs.Common.{arith, add-one, ap, sym, ◌∙◌, subst}
use Rattle.std.proofs.Math.Path.{refl}
use Rattle.definition.specs.Model.{Model, Row}
use Rattle.definition.specs.Work.{Work}
use Rattle.definition.specs.Rewrites.{Form}
use Rattle.definition.specs.Tighten.{Rewriting, rewrite_step, rewrite_loop}
use Rattle.space.specs.declared.Context.{Context}
use Rattle.space.specs.Store.{Floats, Numbers}
use Rattle.view.specs.Call.{Call}
use Rattle.view.specs.Shows.{Shows}
use Rattle.view.specs.Inv.{Inv}
use Rattle.view.specs.Acts.{Ready}
use Rattle.view.specs.Changes.{ActsBool}
use Rattle.view.specs.Rows.{row_now}
use Rattle.readers.specs.Reading.{row_of, Alive}
use Rattle.readers.specs.RowAt.{row_shown, row_alive, row_inv, alive_of}
use Rattle.tighten.specs.Over.{loop_over, shown, closed, stored_is, shown_over}
use Rattle.tighten.specs.Carried.{Progress, progress_of, carried, Carries}
use Rattle.tighten.specs.Keeping.{RewritingInv, good_shown, step_good, step_length, loop_broke}
use Rattle.tighten.specs.Step.{step_at}

-- ---- the definition's loop, term by term
module _ (M : Model) (form : Form) (nz : Float) (r : ℕ) where
  loop_next : (j k i i' : ℕ) (x : Rewriting) → k ≡ suc j → i' ≡ suc i → rewrite_loop M k form nz r i x ≡ rewrite_loop M j form nz r i' (rewrite_step M form nz r i x)
  unfolding rewrite_loop
  loop_next j k i i' x e g = rw (e, g) refl

  loop_done : (k i : ℕ) (x : Rewriting) → k ≡ 0 → rewrite_loop M k form nz r i x ≡ x
  unfolding rewrite_loop
  loop_done k i x e = rw e refl

  -- from the state that the slices show after a step
  loop_carried : (j i : ℕ) (y : Rewriting) {z : Progress} → r < length y.work.rows → progress_of y ≡ z
      → closed r (rewrite_loop M j form nz r i (carried r z (shown r y))) ≡ closed r (rewrite_loop M j form nz r i y)
  loop_carried j i y l e =
      ap (λ (z : Progress). closed r (rewrite_loop M j form nz r i (carried r z (shown r y)))) (sym e)
      ∙ ap (λ (q : Row). closed r (rewrite_loop M j form nz r i (record { row = q; act = y.act; work = shown r y; changed = y.changed; broke = y.broke }))) (row_now r y.row y.work l)
      ∙ ap (closed r) (loop_over M j form nz r i y.row y)
      ∙ ap (λ (w : Work). (w, (rewrite_loop M j form nz r i y).changed)) (shown_over r y.row (rewrite_loop M j form nz r i y))

-- ---- what is left from term i on, of a row of len terms
pub record LeftRow (M : Model) (f : Floats) (n : Numbers) (o : List ℕ) (k : ℕ) (form : Form) (nz : Float) (r len i : ℕ) (x : Progress) (whole : Work × Bool) : Type 0 where
  pub work : Work
  pub shows : Shows M f n o work
  pub inv : Inv M k work
  pub rest : closed r (rewrite_loop M (len - i) form nz r i (carried r x work)) ≡ whole

pub record AtTerm (P : Model → Type 0) (s : Context) (form : Form) (nz : Float) (r len i : ℕ) (x₀ x : Progress) (f₀ : Floats) (n₀ : Numbers) (f : Floats) (n : Numbers) : Type 0 where
  pub upto : i ≤ len
  pub goes : x.broke ≡ false
  pub first : len ≡ get_or n₀.len r 0
  pub live₀ : Alive n₀ r
  pub long : len ≡ get_or n.len r 0
  pub live : Alive n r
  pub ready : Ready P s f n
  pub left : (M : Model) (o : List ℕ) (k : ℕ) (w : Work) → P M → Call M s → Shows M f₀ n₀ o w → Inv M k w
      → LeftRow M f n o k form nz r len i x (closed r (rewrite_loop M len form nz r 0 (carried r x₀ w)))

pub at_start : {P : Model → Type 0} {s : Context} (form : Form) (nz : Float) (r : ℕ) {len : ℕ} {x : Progress} {f : Floats} {n : Numbers} → len ≡ get_or n.len r 0
    → Alive n r → x.broke ≡ false → Ready P s f n → AtTerm P s form nz r len 0 x x f n f n
at_start form nz r {len} {x} e a b R =
    record {
      upto = omega arith;
      goes = b;
      first = e;
      live₀ = a;
      long = e;
      live = a;
      ready = R;
      left = λ M o k w p c h i. record { work = w; shows = h; inv = i; rest = ap (λ (j : ℕ). closed r (rewrite_loop M j form nz r 0 (carried r x w))) (let z : len - 0 ≡ len = omega arith in z) };
    }

-- the whole loop, in the state as the slices show it
abbrev pub loop_at : Form → Float → ℕ → Progress → Model → Work → Work × Bool
loop_at form nz r x M w = closed r (rewrite_loop M (length (row_of w r).terms) form nz r 0 (carried r x w))

module _ {P : Model → Type 0} {s : Context} {form : Form} {nz : Float} {r len i : ℕ} {x₀ x : Progress} {f₀ f : Floats} {n₀ n : Numbers} (p : r < s.rows)
    (A : AtTerm P s form nz r len i x₀ x f₀ n₀ f n) where
  pub term_in : i < len → i < get_or n.len r 0
  term_in l = omega (arith, l, A.long)

  -- the whole is what the definition says of the first state's row
  whole_is : {M : Model} {o : List ℕ} {w : Work} → Call M s → Shows M f₀ n₀ o w → closed r (rewrite_loop M len form nz r 0 (carried r x₀ w)) ≡ loop_at form nz r x₀ M w
  whole_is {M} {w = w} c h = ap (λ (j : ℕ). closed r (rewrite_loop M j form nz r 0 (carried r x₀ w))) (A.first ∙ (row_shown c h p A.live₀).len)

  module _ {f' : Floats} {n' : Numbers} {z : Progress} (l : i < len) (t : Carries P s r f n f' n' z (step_at form nz r i x)) where
    -- after the step, from any state that the slices showed before it
    module _ (M : Model) (o : List ℕ) (k : ℕ) (w : Work) (m : P M) (c : Call M s) (h : Shows M f n o w) (j : Inv M k w) where
      abbrev after : Rewriting
      after = step_at form nz r i x M w

      good : RewritingInv M k r after
      good =
          step_good c r (omega (arith, p, c.rows)) form nz i (carried r x w) (λ _. omega (arith, l, A.long, (row_shown c h p A.live).len))
          (record { inv = j; alive = row_alive c h p A.live; row = row_inv c h p A.live j })

      after_in : r < length after.work.rows
      after_in = omega (arith, p, c.rows, good.inv.rowses)

      after_row : row_of (shown r after) r ≡ after.row
      after_row = row_now r after.row after.work after_in

      after_shows : Shows M f' n' o (shown r after)
      after_shows = t.does M o k w m c h j

      after_live : Alive n' r
      after_live = alive_of c after_shows p (ap (λ (y : Row). y.alive) after_row ∙ good.alive)

      says : progress_of after ≡ z
      says = t.says M o k w m c h j

      after_long : z.broke ≡ false → len ≡ get_or n'.len r 0
      after_long e =
          let b : after.broke ≡ false = ap (λ (y : Progress). y.broke) says ∙ e in
          A.long ∙ (row_shown c h p A.live).len ∙ sym (step_length M form nz r i (carried r x w) b) ∙ ap (λ (y : Row). length y.terms) (sym after_row)
          ∙ sym (row_shown c after_shows p after_live).len

      rest_is_lem : closed r (rewrite_loop M (len - i) form nz r i (carried r x w)) ≡ closed r (rewrite_loop M (len - (i + 1)) form nz r (i + 1) after)
      rest_is_lem = ap (closed r) (loop_next M form nz r (len - (i + 1)) (len - i) i (i + 1) (carried r x w) (omega (arith, l)) (add-one i))

    pub at_next : z.broke ≡ false → AtTerm P s form nz r len (i + 1) x₀ z f₀ n₀ f' n'
    at_next e =
        let R = A.ready in
        record {
          upto = omega (arith, l);
          goes = e;
          first = A.first;
          live₀ = A.live₀;
          long = after_long R.model R.other R.left R.work R.known R.call R.shows R.inv e;
          live = after_live R.model R.other R.left R.work R.known R.call R.shows R.inv;
          ready =
              record {
                model = R.model;
                other = R.other;
                left = R.left;
                work = shown r (after R.model R.other R.left R.work R.known R.call R.shows R.inv);
                known = R.known;
                call = R.call;
                shows = after_shows R.model R.other R.left R.work R.known R.call R.shows R.inv;
                inv = good_shown r _ (good R.model R.other R.left R.work R.known R.call R.shows R.inv);
              };
          left = λ M o k w m c h j.
              let a = A.left M o k w m c h j in
              let y = after M o k a.work m c a.shows a.inv in
              record {
                work = shown r y;
                shows = after_shows M o k a.work m c a.shows a.inv;
                inv = good_shown r y (good M o k a.work m c a.shows a.inv);
                rest =
                    loop_carried M form nz r (len - (i + 1)) (i + 1) y (after_in M o k a.work m c a.shows a.inv) (says M o k a.work m c a.shows a.inv)
                    ∙ sym (rest_is_lem M o k a.work m c a.shows a.inv) ∙ a.rest;
              };
        }

    -- the row was given back
    pub at_back : z.broke ≡ true → ActsBool P s f₀ n₀ f' n' z.changed (loop_at form nz r x₀)
    at_back e =
        record {
          does = λ M o k w m c h j.
              let a = A.left M o k w m c h j in
              subst (λ (y : Work × Bool). Shows M f' n' o y.0) (ended M o k w m c h j) (after_shows M o k a.work m c a.shows a.inv);
          says = λ M o k w m c h j.
              let a = A.left M o k w m c h j in
              ap (λ (y : Work × Bool). y.1) (sym (ended M o k w m c h j)) ∙ ap (λ (y : Progress). y.changed) (says M o k a.work m c a.shows a.inv);
        }
      where
        ended : (M : Model) (o : List ℕ) (k : ℕ) (w : Work) (m : P M) (c : Call M s) (h : Shows M f₀ n₀ o w) (j : Inv M k w)
            → closed r (step_at form nz r i x M (A.left M o k w m c h j).work) ≡ loop_at form nz r x₀ M w
        ended M o k w m c h j =
            let a = A.left M o k w m c h j in
            let y = step_at form nz r i x M a.work in
            let b : y.broke ≡ true = ap (λ (q : Progress). q.broke) (says M o k a.work m c a.shows a.inv) ∙ e in
            ap (closed r) (sym (loop_broke M form nz r (len - (i + 1)) (i + 1) y b)) ∙ sym (rest_is_lem M o k a.work m c a.shows a.inv) ∙ a.rest ∙ whole_is c h

  pub at_end : len ≤ i → ActsBool P s f₀ n₀ f n x.changed (loop_at form nz r x₀)
  at_end l =
      record {
        does = λ M o k w m c h j. let a = A.left M o k w m c h j in subst (λ (y : Work × Bool). Shows M f n o y.0) (ended M o k w m c h j) a.shows;
        says = λ M o k w m c h j. ap (λ (y : Work × Bool). y.1) (sym (ended M o k w m c h j));
      }
    where
      ended : (M : Model) (o : List ℕ) (k : ℕ) (w : Work) (m : P M) (c : Call M s) (h : Shows M f₀ n₀ o w) (j : Inv M k w) → ((A.left M o k w m c h j).work, x.changed) ≡ loop_at form nz r x₀ M w
      ended M o k w m c h j =
          let a = A.left M o k w m c h j in
          ap (λ (y : Work). (y, x.changed)) (sym (stored_is r a.work)) ∙ ap (closed r) (sym (loop_done M form nz r (len - i) i (carried r x a.work) (omega (arith, l)))) ∙ a.rest ∙ whole_is c h
