-- A contract under another name of what is done, and a step that stops.
use Rattle.std.specs.Prelude.{ℕ, ◌≡◌, List, Err}
use Rattle.std.proofs.Common.{sym, subst}
use Rattle.definition.specs.declared.Infeasible.{Infeasible}
use Rattle.definition.specs.Model.{Model}
use Rattle.definition.specs.Work.{Work, Step, next, ◌>>=◌}
use Rattle.space.specs.declared.Context.{Context}
use Rattle.space.specs.Store.{Floats, Numbers}
use Rattle.view.specs.Call.{Call}
use Rattle.view.specs.Shows.{Shows, Outcome, StepShown, stopped}
use Rattle.view.specs.Inv.{Inv}
use Rattle.view.specs.Acts.{Acts, ActsN, Tries, Any}
use Rattle.view.specs.Steps.{InvStep, stops, goes}

module _ {P : Model → Type 0} {s : Context} {f f' : Floats} {n n' : Numbers} where
  pub tries_as : {z : Outcome} {F G : Model → Work → Step} → ((M : Model) (o : List ℕ) (k : ℕ) (w : Work) → P M → Call M s → Shows M f n o w → Inv M k w
      → F M w ≡ G M w) → Tries P s f n f' n' z G → Tries P s f n f' n' z F
  tries_as {z = z} e t =
      record { does = λ M o k w p c h i. subst (λ (y : Step). StepShown M f' n' o z y) (sym (e M o k w p c h i)) (t.does M o k w p c h i) }

  pub acts_as : {F G : Model → Work → Work} → ((M : Model) (o : List ℕ) (k : ℕ) (w : Work) → P M → Call M s → Shows M f n o w → Inv M k w → F M w ≡ G M w) → Acts P s f n f' n' G → Acts P s f n f' n' F
  acts_as e t = record { does = λ M o k w p c h i. subst (λ (y : Work). Shows M f' n' o y) (sym (e M o k w p c h i)) (t.does M o k w p c h i) }

-- the numbers alone change, and nothing is asked of the model
pub acts_any : {P : Model → Type 0} {s : Context} {f : Floats} {n n' : Numbers} {F : Model → Work → Work} → ActsN Any s n n' F → Acts P s f n f n' F
acts_any {f = f} a = record { does = λ M o k w p c h i. a.does M f o k w tt c h i }

pub stopped_then : {e : Infeasible} {M : Model} {f : Floats} {n : Numbers} {o : List ℕ} {y : Step} (g : Work → Step) → StepShown M f n o (Err e) y → StepShown M f n o (Err e) (y >>= g)
stopped_then g (stopped k) = stopped k

inv_is : {M : Model} {k : ℕ} {w : Work} → InvStep M k (next w) → Inv M k w
inv_is (goes i) = i

pub inv_next : {M : Model} {k : ℕ} {w : Work} {z : Step} → InvStep M k z → z ≡ next w → Inv M k w
inv_next {M} {k} t e = inv_is (subst (InvStep M k) e t)

pub inv_then : {M : Model} {j k : ℕ} {z : Step} (g : Work → Step) → InvStep M j z → ((u : Work) → Inv M j u → InvStep M k (g u)) → InvStep M k (z >>= g)
inv_then g stops t = stops
inv_then g (goes {w} i) t = t w i

pub tries_is : {P : Model → Type 0} {s : Context} {f f' : Floats} {n n' : Numbers} {z y : Outcome} {F : Model → Work → Step} → Tries P s f n f' n' z F → z ≡ y → Tries P s f n f' n' y F
tries_is {P} {s} {f} {f'} {n} {n'} {F = F} t e = subst (λ (x : Outcome). Tries P s f n f' n' x F) e t
