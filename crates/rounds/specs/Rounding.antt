-- Rounds while something changes: what is left after n rounds gives the whole.
use Rattle.std.specs.Prelude.{ℕ, zero, suc, ◌+◌, ◌-◌, ◌≤◌, ◌<◌, ◌≡◌, refl, Bool, true, false, List, Ok, Err}
use Rattle.std.proofs.Common.{arith, ap, sym, ◌∙◌, subst}
use Rattle.floats.specs.Num.{choose}
use Rattle.definition.specs.declared.Infeasible.{Infeasible}
use Rattle.definition.specs.Params.{Params, params}
use Rattle.definition.specs.Model.{Model}
use Rattle.definition.specs.Work.{Work, Step, next, ◌>>=◌}
use Rattle.definition.specs.Wave.{waves}
use Rattle.definition.specs.Rounds.{after_waves, rounds}
use Rattle.space.specs.declared.Context.{Context}
use Rattle.space.specs.Store.{Floats, Numbers}
use Rattle.view.specs.Call.{Call}
use Rattle.view.specs.Shows.{Shows, StepShown, Outcome}
use Rattle.view.specs.Inv.{Inv}
use Rattle.view.specs.Lists.{yes, no, either}
use Rattle.view.specs.Acts.{Ready, Any}
use Rattle.view.specs.Changes.{ActsBool}
use Rattle.view.specs.Steps.{InvStep, goes, KeepsStep, went_is}
use Rattle.view.specs.Bounds.{went_by}
use Rattle.view.specs.Renamed.{stopped_then, inv_next, inv_then}
use Rattle.bounds.specs.Loop.{Onward}
use Rattle.wave.specs.Begin.{Waves, ready_afresh}
use Rattle.wave.specs.Again.{left_of, waves_keeps}
use Rattle.rounds.specs.After.{after_keeps}

-- a contract that asks for P holds where Q, which says more, is known
pub waves_under : {P Q : Model → Type 0} {s : Context} {f f' : Floats} {n n' : Numbers} {z : Outcome} {F : Model → Work → Step} → ((M : Model) → Q M → P M)
    → Waves P s f n f' n' z F → Waves Q s f n f' n' z F
waves_under q t = record { does = λ M o k w p c h i. t.does M o k w (q M p) c h i }

-- ---- the definition: the waves of a round, and what follows them
abbrev pub waves_of : Model → Work → Step
waves_of M w = waves M (left_of M w) w

abbrev pub rounds_of : Model → Work → Step
rounds_of M w = rounds M M.params.max_rounds w

unfoldable afterwards : Model → ℕ → Work → Step
afterwards M j w = choose (after_waves M w).1 (rounds M j (after_waves M w).0) (next (after_waves M w).0)

rounds_none : (M : Model) (w : Work) → rounds M 0 w ≡ next w
unfolding rounds
rounds_none M w = refl

rounds_one : (M : Model) (j : ℕ) (w : Work) → rounds M (suc j) w ≡ (waves_of M w >>= λ w1. afterwards M j w1)
unfolding rounds afterwards
rounds_one M j w = refl

again_is : (M : Model) (j : ℕ) (w : Work) → (after_waves M w).1 ≡ true → afterwards M j w ≡ rounds M j (after_waves M w).0
unfolding afterwards
again_is M j w e = yes _ _ e

done_is : (M : Model) (j : ℕ) (w : Work) → (after_waves M w).1 ≡ false → afterwards M j w ≡ next (after_waves M w).0
unfolding afterwards
done_is M j w e = no _ _ e

-- ---- the invariant is kept
inv_after : {M : Model} {s : Context} {k : ℕ} (j : ℕ) (w : Work) → Call M s → Inv M k w → ((u : Work) → Inv M k u → InvStep M k (rounds M j u)) → InvStep M k (afterwards M j w)
unfolding afterwards
inv_after {M} {s} {k} j w c i t =
    let y = (after_keeps {P = Any} {s = s}).keeps M k w tt c i in
    either (InvStep M k) _ (λ e. t (after_waves M w).0 y) (λ e. goes y)

inv_rounds : {M : Model} {s : Context} {k : ℕ} (j : ℕ) (w : Work) → Call M s → Inv M k w → InvStep M k (rounds M j w)
inv_rounds {M} {s} {k} zero w c i = subst (InvStep M k) (sym (rounds_none M w)) (goes i)
inv_rounds {M} {s} {k} (suc j) w c i =
    subst (InvStep M k) (sym (rounds_one M j w))
    (inv_then (λ w1. afterwards M j w1) ((waves_keeps {P = Any} {s = s}).keeps M k w tt c i) (λ u x. inv_after j u c x (λ v y. inv_rounds j v c y)))

pub rounds_keeps : {P : Model → Type 0} {s : Context} → KeepsStep P s rounds_of
rounds_keeps = record { keeps = λ M k w p c i. inv_rounds M.params.max_rounds w c i }

-- ---- j rounds were run, and each changed something
pub record RoundsDone (M : Model) (f : Floats) (n : Numbers) (k : ℕ) (w : Work) (cap j : ℕ) : Type 0 where
  pub other : List ℕ
  pub on : Onward M f n other k (λ u. rounds M (cap - j) u ≡ rounds_of M w)

pub record Rounding (P : Model → Type 0) (s : Context) (f₀ : Floats) (n₀ : Numbers) (f : Floats) (n : Numbers) (cap j : ℕ) : Type 0 where
  pub each : (M : Model) (o : List ℕ) (k : ℕ) (w : Work) → P M → Call M s → Shows M f₀ n₀ o w → Inv M k w → RoundsDone M f n k w cap j

pub rounding_start : {P : Model → Type 0} {s : Context} {f : Floats} {n : Numbers} {cap : ℕ} → cap ≡ params.max_rounds → Rounding P s f n f n cap 0
rounding_start {cap = cap} ec =
    record {
      each = λ M o k w x c h i.
          let z : cap - 0 ≡ cap = omega arith in
          let e : cap - 0 ≡ M.params.max_rounds = z ∙ ec ∙ ap (λ (p : Params). p.max_rounds) (sym c.params) in
          record { other = o; on = record { work = w; shows = h; inv = i; holds = ap (λ (j : ℕ). rounds M j w) e } };
    }

-- the next round, as the slices show it: its state after the waves, and what they and the steps that follow leave
record OneRound (M : Model) (f : Floats) (n : Numbers) (k : ℕ) (w : Work) (left : ℕ) (b : Bool) : Type 0 where
  other : List ℕ
  waved : Work
  shows : Shows M f n other (after_waves M waved).0
  inv : Inv M k (after_waves M waved).0
  changed : (after_waves M waved).1 ≡ b
  rest : rounds_of M w ≡ afterwards M left waved

module _ {P : Model → Type 0} {s : Context} {f₀ f : Floats} {n₀ n : Numbers} {cap j : ℕ} where
  module _ (R : Ready P s f₀ n₀) (T : Rounding P s f₀ n₀ f n cap j) where
    here : RoundsDone R.model f n R.left R.work cap j
    here = T.each R.model R.other R.left R.work R.known R.call R.shows R.inv

    pub rounding_ready : Ready P s f n
    rounding_ready =
        record {
          model = R.model;
          other = here.other;
          left = R.left;
          work = here.on.work;
          known = R.known;
          call = R.call;
          shows = here.on.shows;
          inv = here.on.inv;
        }

    -- after the waves of the next round
    pub rounding_waved : {f₁ : Floats} {n₁ : Numbers} → Waves P s f n f₁ n₁ (Ok tt) waves_of → Ready P s f₁ n₁
    rounding_waved t = ready_afresh rounding_ready t waves_keeps

  module _ (T : Rounding P s f₀ n₀ f n cap j) where
    pub rounding_end : cap ≤ j → Waves P s f₀ n₀ f n (Ok tt) rounds_of
    rounding_end l =
        record {
          does = λ M o k w x c h i.
              let N = T.each M o k w x c h i in
              let z : cap - j ≡ 0 = omega (arith, l) in
              record { other = N.other; step = went_by (sym N.on.holds ∙ ap (λ (y : ℕ). rounds M y N.on.work) z ∙ rounds_none M N.on.work) N.on.shows };
        }

    module _ (l : j < cap) where
      -- one round more
      one_more : (M : Model) {k : ℕ} (w : Work) (N : RoundsDone M f n k w cap j) → rounds_of M w ≡ (waves_of M N.on.work >>= λ w1. afterwards M (cap - (j + 1)) w1)
      one_more M w N =
          let z : cap - j ≡ suc (cap - (j + 1)) = omega (arith, l) in
          sym N.on.holds ∙ ap (λ (y : ℕ). rounds M y N.on.work) z ∙ rounds_one M (cap - (j + 1)) N.on.work

      pub rounding_stop : {e₀ : Infeasible} {f₁ : Floats} {n₁ : Numbers} → Waves P s f n f₁ n₁ (Err e₀) waves_of → Waves P s f₀ n₀ f₁ n₁ (Err e₀) rounds_of
      rounding_stop {e₀} {f₁} {n₁} t =
          record {
            does = λ M o k w x c h i.
                let N = T.each M o k w x c h i in
                let a = t.does M N.other k N.on.work x c N.on.shows N.on.inv in
                record {
                  other = a.other;
                  step = subst (λ (y : Step). StepShown M f₁ n₁ a.other (Err e₀) y) (sym (one_more M w N)) (stopped_then (λ w1. afterwards M (cap - (j + 1)) w1) a.step);
                };
          }

      module _ {f₁ f₂ : Floats} {n₁ n₂ : Numbers} {b : Bool} (t : Waves P s f n f₁ n₁ (Ok tt) waves_of) (A : ActsBool P s f₁ n₁ f₂ n₂ b (λ M. after_waves M)) where
        -- the state after the round, and what is left
        round_of : (M : Model) (o : List ℕ) (k : ℕ) (w : Work) → P M → Call M s → Shows M f₀ n₀ o w → Inv M k w → OneRound M f₂ n₂ k w (cap - (j + 1)) b
        round_of M o k w x c h i =
            let N = T.each M o k w x c h i in
            let u = N.on.work in
            let a = t.does M N.other k u x c N.on.shows N.on.inv in
            let g = went_is a.step in
            let v = inv_next ((waves_keeps {P = P} {s = s}).keeps M k u x c N.on.inv) g.is in
            record {
              other = a.other;
              waved = g.work;
              shows = A.does M a.other k g.work x c g.shows v;
              inv = (after_keeps {P = P} {s = s}).keeps M k g.work x c v;
              changed = A.says M a.other k g.work x c g.shows v;
              rest = one_more M w N ∙ ap (λ (y : Step). y >>= λ w1. afterwards M (cap - (j + 1)) w1) g.is;
            }

        pub rounding_turn : b ≡ true → Rounding P s f₀ n₀ f₂ n₂ cap (j + 1)
        rounding_turn e =
            record {
              each = λ M o k w x c h i.
                  let r = round_of M o k w x c h i in
                  record {
                    other = r.other;
                    on = record { work = (after_waves M r.waved).0; shows = r.shows; inv = r.inv; holds = sym (r.rest ∙ again_is M (cap - (j + 1)) r.waved (r.changed ∙ e)) };
                  };
            }

        pub rounding_done : b ≡ false → Waves P s f₀ n₀ f₂ n₂ (Ok tt) rounds_of
        rounding_done e =
            record {
              does = λ M o k w x c h i.
                  let r = round_of M o k w x c h i in
                  record { other = r.other; step = went_by (r.rest ∙ done_is M (cap - (j + 1)) r.waved (r.changed ∙ e)) r.shows };
            }
