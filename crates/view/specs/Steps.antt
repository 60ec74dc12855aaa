-- Steps that may stop, one after the other: `?` of the Rust. And contracts under more than they ask for.
use Rattle.std.specs.Prelude.{ℕ, ◌≡◌, refl, List, Ok, Err, IsErr}
use Rattle.std.proofs.Common.{arith, sym, subst}
use Rattle.definition.specs.declared.Counts.{Counts}
use Rattle.definition.specs.declared.Infeasible.{Infeasible}
use Rattle.definition.specs.Model.{Model}
use Rattle.definition.specs.Work.{Work, Step, stop, next, ◌>>=◌}
use Rattle.space.specs.declared.Context.{Context}
use Rattle.space.specs.Store.{Floats, Numbers}
use Rattle.view.specs.Call.{Call}
use Rattle.view.specs.Shows.{Shows, Outcome, StepShown, stopped, went}
use Rattle.view.specs.Inv.{Inv}
use Rattle.view.specs.Acts.{Ready, Acts, Tries}

-- what `?` hands on is that no point is left
pub stop_is : {e : Infeasible} (z : Outcome) → IsErr z → z ≡ Err e
stop_is (Ok x) h = absurd (let z : ◌≡◌ {A = ℕ} 0 1 = (let y = h in cc) in omega arith)
stop_is (Err e) h = refl

-- the invariant, of a step that goes on
pub data InvStep (M : Model) (k : ℕ) : Step → Type 0 where
  stops : {c : Counts} → InvStep M k (stop c)
  goes : {w : Work} → Inv M k w → InvStep M k (next w)

pub record KeepsStep (P : Model → Type 0) (s : Context) (F : Model → Work → Step) : Type 0 where
  pub keeps : (M : Model) (k : ℕ) (w : Work) → P M → Call M s → Inv M k w → InvStep M k (F M w)

-- a step that went on, as the slices show it, and its state
pub record Went (M : Model) (f : Floats) (n : Numbers) (o : List ℕ) (z : Step) : Type 0 where
  pub work : Work
  pub is : z ≡ next work
  pub shows : Shows M f n o work

pub went_is : {M : Model} {f : Floats} {n : Numbers} {o : List ℕ} {z : Step} → StepShown M f n o (Ok tt) z → Went M f n o z
went_is (went {w} h) = record { work = w; is = refl; shows = h }

inv_next : {M : Model} {k : ℕ} {w : Work} → InvStep M k (next w) → Inv M k w
inv_next (goes i) = i

module _ {P : Model → Type 0} {s : Context} {f f₁ : Floats} {n n₁ : Numbers} {F : Model → Work → Step} where
  pub ready_went : Ready P s f n → Tries P s f n f₁ n₁ (Ok tt) F → KeepsStep P s F → Ready P s f₁ n₁
  ready_went r t k =
      let g = went_is (t.does r.model r.other r.left r.work r.known r.call r.shows r.inv) in
      record {
        model = r.model;
        other = r.other;
        left = r.left;
        work = g.work;
        known = r.known;
        call = r.call;
        shows = g.shows;
        inv = inv_next (subst (InvStep r.model r.left) g.is (k.keeps r.model r.left r.work r.known r.call r.inv));
      }

  -- F goes on, and then G
  pub tries_then : {f₂ : Floats} {n₂ : Numbers} {z : Outcome} {G : Model → Work → Step} → Tries P s f n f₁ n₁ (Ok tt) F → KeepsStep P s F → Tries P s f₁ n₁ f₂ n₂ z G
      → Tries P s f n f₂ n₂ z (λ M w. F M w >>= λ w1. G M w1)
  tries_then {f₂} {n₂} {z} {G} t k u =
      record {
        does = λ M o j w p c h i.
            let g = went_is (t.does M o j w p c h i) in
            let i' = inv_next (subst (InvStep M j) g.is (k.keeps M j w p c i)) in
            subst (λ (y : Step). StepShown M f₂ n₂ o z (y >>= λ w1. G M w1)) (sym g.is) (u.does M o j g.work p c g.shows i');
      }

  -- F stops
  pub tries_stop : {e : Infeasible} (G : Model → Work → Step) → Tries P s f n f₁ n₁ (Err e) F → Tries P s f n f₁ n₁ (Err e) (λ M w. F M w >>= λ w1. G M w1)
  tries_stop G t = record { does = λ M o j w p c h i. halted G M o (t.does M o j w p c h i) }
    where
      halted : {e : Infeasible} (G : Model → Work → Step) (M : Model) (o : List ℕ) {y : Step} → StepShown M f₁ n₁ o (Err e) y → StepShown M f₁ n₁ o (Err e) (y >>= λ w1. G M w1)
      halted G M o (stopped k) = stopped k

pub keeps_then : {P : Model → Type 0} {s : Context} {F G : Model → Work → Step} → KeepsStep P s F → KeepsStep P s G → KeepsStep P s (λ M w. F M w >>= λ w1. G M w1)
keeps_then {P} {s} {F} {G} a b = record { keeps = λ M k w p c i. go M k p c (a.keeps M k w p c i) }
  where
    go : (M : Model) (k : ℕ) → P M → Call M s → {y : Step} → InvStep M k y → InvStep M k (y >>= λ w1. G M w1)
    go M k p c stops = stops
    go M k p c (goes {w} i) = b.keeps M k w p c i

-- ---- a contract that asks for P holds where Q, which says more, is known
module _ {P Q : Model → Type 0} {s : Context} (q : (M : Model) → Q M → P M) where
  pub acts_under : {f f' : Floats} {n n' : Numbers} {F : Model → Work → Work} → Acts P s f n f' n' F → Acts Q s f n f' n' F
  acts_under a = record { does = λ M o k w p c h i. a.does M o k w (q M p) c h i }

  pub tries_under : {f f' : Floats} {n n' : Numbers} {z : Outcome} {F : Model → Work → Step} → Tries P s f n f' n' z F → Tries Q s f n f' n' z F
  tries_under a = record { does = λ M o k w p c h i. a.does M o k w (q M p) c h i }

  pub ready_under : {f : Floats} {n : Numbers} → Ready Q s f n → Ready P s f n
  ready_under r =
      record {
        model = r.model;
        other = r.other;
        left = r.left;
        work = r.work;
        known = q r.model r.known;
        call = r.call;
        shows = r.shows;
        inv = r.inv;
      }
