-- Waves while the queue is not empty: what is left after p waves gives the whole.
use Rattle.std.specs.Prelude.{ℕ, zero, suc, ◌+◌, ◌-◌, ◌≤◌, ◌<◌, ◌≡◌, refl, true, false, List, [], ◌∷◌, length, get_or, Ok, Err}
use Rattle.std.proofs.Common.{arith, ap, sym, ◌∙◌, subst}
use Rattle.definition.specs.declared.Infeasible.{Infeasible}
use Rattle.definition.specs.Params.{params, max_waves}
use Rattle.definition.specs.Model.{Model}
use Rattle.definition.specs.Work.{Work, Step, next, ◌>>=◌}
use Rattle.definition.specs.Wave.{idle, wave, waves}
use Rattle.space.specs.declared.Context.{Context}
use Rattle.space.specs.Store.{Floats, Numbers}
use Rattle.view.specs.Call.{Call}
use Rattle.view.specs.Shows.{Shows, StepShown}
use Rattle.view.specs.Inv.{Inv}
use Rattle.view.specs.Lists.{yes, no, either}
use Rattle.view.specs.Acts.{Ready, Any}
use Rattle.view.specs.Steps.{InvStep, goes, KeepsStep, went_is}
use Rattle.view.specs.Bounds.{went_by}
use Rattle.view.specs.Renamed.{stopped_then, inv_next, inv_then}
use Rattle.bounds.specs.Loop.{Onward}
use Rattle.wave.specs.Begin.{Waves, wave_keeps, wave_passes}

abbrev pub left_of : Model → Work → ℕ
left_of M w = max_waves M.params - w.counts.passes

-- ---- the definition, by whether there is a row in the queue
idle_none : (q : List ℕ) → length q ≡ 0 → idle q ≡ true
unfolding idle
idle_none [] e = refl
idle_none (r ∷ rs) e = absurd (omega arith)

idle_some : (q : List ℕ) → (length q ≡ 0 → ⊥) → idle q ≡ false
unfolding idle
idle_some [] e = absurd (e refl)
idle_some (r ∷ rs) e = refl

waves_none : (M : Model) (w : Work) → waves M 0 w ≡ next w
unfolding waves
waves_none M w = refl

waves_idle : (M : Model) (n : ℕ) (w : Work) → length w.queue ≡ 0 → waves M n w ≡ next w
unfolding waves
waves_idle M zero w e = refl
waves_idle M (suc n) w e = yes _ _ (idle_none w.queue e)

waves_on : (M : Model) (n : ℕ) (w : Work) → (length w.queue ≡ 0 → ⊥) → waves M (suc n) w ≡ (wave M w >>= λ w1. waves M n w1)
unfolding waves
waves_on M n w e = no _ _ (idle_some w.queue e)

-- ---- the invariant is kept
inv_waves : {M : Model} {s : Context} {k : ℕ} (n : ℕ) (w : Work) → Call M s → Inv M k w → InvStep M k (waves M n w)
unfolding waves
inv_waves zero w c i = goes i
inv_waves {M} {s} {k} (suc n) w c i =
    either (InvStep M k) _ (λ e. goes i) (λ e. inv_then (λ w1. waves M n w1) ((wave_keeps {P = Any} {s = s}).keeps M k w tt c i) (λ u j. inv_waves n u c j))

pub waves_keeps : {P : Model → Type 0} {s : Context} → KeepsStep P s (λ M w. waves M (left_of M w) w)
waves_keeps = record { keeps = λ M k w p c i. inv_waves (left_of M w) w c i }

-- ---- p waves were run, so many less are left
pub record Waved (M : Model) (w : Work) (cap p : ℕ) (u : Work) : Type 0 where
  pub passes : u.counts.passes ≡ p
  pub rest : waves M (cap - p) u ≡ waves M (left_of M w) w

pub record Wandered (M : Model) (f : Floats) (n : Numbers) (k : ℕ) (w : Work) (cap p : ℕ) : Type 0 where
  pub other : List ℕ
  pub on : Onward M f n other k (Waved M w cap p)

pub record Waving (P : Model → Type 0) (s : Context) (f₀ : Floats) (n₀ : Numbers) (f : Floats) (n : Numbers) (cap p : ℕ) : Type 0 where
  pub each : (M : Model) (o : List ℕ) (k : ℕ) (w : Work) → P M → Call M s → Shows M f₀ n₀ o w → Inv M k w → Wandered M f n k w cap p

pub waving_start : {P : Model → Type 0} {s : Context} {f : Floats} {n : Numbers} {cap p : ℕ} → cap ≡ max_waves params → p ≡ get_or n.passes 0 0 → Waving P s f n f n cap p
waving_start {cap = cap} {p} ec ep =
    record {
      each = λ M o k w x c h i.
          let e : p ≡ w.counts.passes = ep ∙ h.counts.passes in
          let m : cap - p ≡ left_of M w = ap (λ (j : ℕ). j - p) (ec ∙ ap max_waves (sym c.params)) ∙ ap (λ (j : ℕ). max_waves M.params - j) e in
          record {
            other = o;
            on = record { work = w; shows = h; inv = i; holds = record { passes = sym e; rest = ap (λ (j : ℕ). waves M j w) m } };
          };
    }

module _ {P : Model → Type 0} {s : Context} {f₀ f : Floats} {n₀ n : Numbers} {cap p : ℕ} where
  module _ (R : Ready P s f₀ n₀) (T : Waving P s f₀ n₀ f n cap p) where
    here : Wandered R.model f n R.left R.work cap p
    here = T.each R.model R.other R.left R.work R.known R.call R.shows R.inv

    pub waving_ready : Ready P s f n
    waving_ready =
        record {
          model = R.model;
          other = here.other;
          left = R.left;
          work = here.on.work;
          known = R.known;
          call = R.call;
          shows = here.on.shows;
          inv = here.on.inv;
        }

    pub waving_small : cap ≡ max_waves params → p < cap → get_or n.passes 0 0 < 30
    waving_small ec l = omega (arith, ec, l, here.on.shows.counts.passes, here.on.holds.passes)

  module _ (T : Waving P s f₀ n₀ f n cap p) where
    pub waving_idle : {q : ℕ} → q ≡ get_or n.queued 0 0 → q ≡ 0 → Waves P s f₀ n₀ f n (Ok tt) (λ M w. waves M (left_of M w) w)
    waving_idle eq z =
        record {
          does = λ M o k w x c h i.
              let N = T.each M o k w x c h i in
              let u = N.on.work in
              let l : length u.queue ≡ 0 = sym N.on.shows.queued ∙ sym eq ∙ z in
              record { other = N.other; step = went_by (sym N.on.holds.rest ∙ waves_idle M (cap - p) u l) N.on.shows };
        }

    pub waving_end : cap ≤ p → Waves P s f₀ n₀ f n (Ok tt) (λ M w. waves M (left_of M w) w)
    waving_end l =
        record {
          does = λ M o k w x c h i.
              let N = T.each M o k w x c h i in
              let z : cap - p ≡ 0 = omega (arith, l) in
              record { other = N.other; step = went_by (sym N.on.holds.rest ∙ ap (λ (j : ℕ). waves M j N.on.work) z ∙ waves_none M N.on.work) N.on.shows };
        }

    module _ {f' : Floats} {n' : Numbers} {q : ℕ} (l : p < cap) (eq : q ≡ get_or n.queued 0 0) (ne : q ≡ 0 → ⊥) where
      pub waving_stop : {e₀ : Infeasible} → Waves P s f n f' n' (Err e₀) wave → Waves P s f₀ n₀ f' n' (Err e₀) (λ M w. waves M (left_of M w) w)
      waving_stop {e₀ = e₀} t =
          record {
            does = λ M o k w x c h i.
                let N = T.each M o k w x c h i in
                let u = N.on.work in
                let a = t.does M N.other k u x c N.on.shows N.on.inv in
                let z : cap - p ≡ suc (cap - (p + 1)) = omega (arith, l) in
                let e : waves M (left_of M w) w ≡ (wave M u >>= λ w1. waves M (cap - (p + 1)) w1) =
                sym N.on.holds.rest ∙ ap (λ (j : ℕ). waves M j u) z ∙ waves_on M (cap - (p + 1)) u (λ y. ne (eq ∙ N.on.shows.queued ∙ y)) in
                record {
                  other = a.other;
                  step = subst (λ (y : Step). StepShown M f' n' a.other (Err e₀) y) (sym e) (stopped_then (λ w1. waves M (cap - (p + 1)) w1) a.step);
                };
          }

      pub waving_turn : Waves P s f n f' n' (Ok tt) wave → Waving P s f₀ n₀ f' n' cap (p + 1)
      waving_turn t =
          record {
            each = λ M o k w x c h i.
                let N = T.each M o k w x c h i in
                let u = N.on.work in
                let a = t.does M N.other k u x c N.on.shows N.on.inv in
                let g = went_is a.step in
                let z : cap - p ≡ suc (cap - (p + 1)) = omega (arith, l) in
                let e : waves M (left_of M w) w ≡ (wave M u >>= λ w1. waves M (cap - (p + 1)) w1) =
                sym N.on.holds.rest ∙ ap (λ (j : ℕ). waves M j u) z ∙ waves_on M (cap - (p + 1)) u (λ y. ne (eq ∙ N.on.shows.queued ∙ y)) in
                record {
                  other = a.other;
                  on =
                      record {
                        work = g.work;
                        shows = g.shows;
                        inv = inv_next ((wave_keeps {P = P} {s = s}).keeps M k u x c N.on.inv) g.is;
                        holds =
                            record {
                              passes = omega (arith, wave_passes M u g.work g.is, N.on.holds.passes);
                              rest = sym (e ∙ ap (λ (y : Step). y >>= λ w1. waves M (cap - (p + 1)) w1) g.is);
                            };
                      };
                };
          }
