-- Steps that also say whether something changed: the form of their contracts, and that they keep the invariant.
use Rattle.std.specs.Prelude.{ℕ, ◌≡◌, Bool, List}
use Rattle.definition.specs.Model.{Model}
use Rattle.definition.specs.Work.{Work}
use Rattle.space.specs.declared.Context.{Context}
use Rattle.space.specs.Store.{Floats, Numbers}
use Rattle.view.specs.Call.{Call}
use Rattle.view.specs.Shows.{Shows}
use Rattle.view.specs.Inv.{Inv}
use Rattle.view.specs.Acts.{Ready}

-- whatever state the slices show, they show F's state after, and the result is F's
pub record ActsBool (P : Model → Type 0) (s : Context) (f : Floats) (n : Numbers) (f' : Floats) (n' : Numbers) (z : Bool) (F : Model → Work → Work × Bool) : Type 0 where
  pub does : (M : Model) (o : List ℕ) (k : ℕ) (w : Work) → P M → Call M s → Shows M f n o w → Inv M k w → Shows M f' n' o (F M w).0
  pub says : (M : Model) (o : List ℕ) (k : ℕ) (w : Work) → P M → Call M s → Shows M f n o w → Inv M k w → (F M w).1 ≡ z

pub record KeepsBool (P : Model → Type 0) (s : Context) (F : Model → Work → Work × Bool) : Type 0 where
  pub keeps : (M : Model) (k : ℕ) (w : Work) → P M → Call M s → Inv M k w → Inv M k (F M w).0

module _ {P : Model → Type 0} {s : Context} {f f' : Floats} {n n' : Numbers} {z : Bool} {F : Model → Work → Work × Bool} where
  pub ready_changed : Ready P s f n → ActsBool P s f n f' n' z F → KeepsBool P s F → Ready P s f' n'
  ready_changed r a k =
      record {
        model = r.model;
        other = r.other;
        left = r.left;
        work = (F r.model r.work).0;
        known = r.known;
        call = r.call;
        shows = a.does r.model r.other r.left r.work r.known r.call r.shows r.inv;
        inv = k.keeps r.model r.left r.work r.known r.call r.inv;
      }

  -- a contract that asks for P holds where Q, which says more, is known
  pub changes_under : {Q : Model → Type 0} → ((M : Model) → Q M → P M) → ActsBool P s f n f' n' z F → ActsBool Q s f n f' n' z F
  changes_under q a =
      record {
        does = λ M o k w p c h i. a.does M o k w (q M p) c h i;
        says = λ M o k w p c h i. a.says M o k w (q M p) c h i;
      }
