-- The form of the port's contracts. P is what the read-only slices say of the model.
use Rattle.std.specs.Prelude.{ℕ, ◌≡◌, List}
use Rattle.definition.specs.Model.{Model}
use Rattle.definition.specs.Work.{Work, Step}
use Rattle.space.specs.declared.Context.{Context}
use Rattle.space.specs.Store.{Floats, Numbers}
use Rattle.view.specs.Call.{Call}
use Rattle.view.specs.Shows.{Shows, StepShown, Outcome}
use Rattle.view.specs.Inv.{Inv}

-- what a function asks of the slices: they show some state of some such model
pub record Ready (P : Model → Type 0) (s : Context) (f : Floats) (n : Numbers) : Type 0 where
  pub model : Model
  pub other : List ℕ
  pub left : ℕ
  pub work : Work
  pub known : P model
  pub call : Call model s
  pub shows : Shows model f n other work
  pub inv : Inv model left work

-- what it promises: whatever state they show, they show F of it after
pub record Acts (P : Model → Type 0) (s : Context) (f : Floats) (n : Numbers) (f' : Floats) (n' : Numbers) (F : Model → Work → Work) : Type 0 where
  pub does : (M : Model) (o : List ℕ) (k : ℕ) (w : Work) → P M → Call M s → Shows M f n o w → Inv M k w → Shows M f' n' o (F M w)

pub record Tries (P : Model → Type 0) (s : Context) (f : Floats) (n : Numbers) (f' : Floats) (n' : Numbers) (z : Outcome) (F : Model → Work → Step) : Type 0 where
  pub does : (M : Model) (o : List ℕ) (k : ℕ) (w : Work) → P M → Call M s → Shows M f n o w → Inv M k w → StepShown M f' n' o z (F M w)

-- what a reader promises: its result is the definition's
pub record Reads {A : Type 0} (P : Model → Type 0) (s : Context) (f : Floats) (n : Numbers) (z : A) (F : Model → Work → A) : Type 0 where
  pub reads : (M : Model) (o : List ℕ) (k : ℕ) (w : Work) → P M → Call M s → Shows M f n o w → Inv M k w → F M w ≡ z

-- what a step asks and promises that has the numbers alone: whatever the floats are
pub record ReadyN (P : Model → Type 0) (s : Context) (n : Numbers) : Type 0 where
  pub floats : Floats
  pub ready : Ready P s floats n

pub record ActsN (P : Model → Type 0) (s : Context) (n n' : Numbers) (F : Model → Work → Work) : Type 0 where
  pub does : (M : Model) (f : Floats) (o : List ℕ) (k : ℕ) (w : Work) → P M → Call M s → Shows M f n o w → Inv M k w → Shows M f n' o (F M w)

-- nothing is known of the model
abbrev pub Any : Model → Type 0
Any M = Unit {0}

-- F keeps the invariant
pub record Keeps (P : Model → Type 0) (s : Context) (F : Model → Work → Work) : Type 0 where
  pub keeps : (M : Model) (k : ℕ) (w : Work) → P M → Call M s → Inv M k w → Inv M k (F M w)

module _ {P : Model → Type 0} {s : Context} where
  pub ready_after : {f f' : Floats} {n n' : Numbers} {F : Model → Work → Work} → Ready P s f n → Acts P s f n f' n' F → Keeps P s F → Ready P s f' n'
  ready_after {F = F} r a k =
      record {
        model = r.model;
        other = r.other;
        left = r.left;
        work = F r.model r.work;
        known = r.known;
        call = r.call;
        shows = a.does r.model r.other r.left r.work r.known r.call r.shows r.inv;
        inv = k.keeps r.model r.left r.work r.known r.call r.inv;
      }

  pub acts_then : {f f₁ f₂ : Floats} {n n₁ n₂ : Numbers} {F G : Model → Work → Work} → Acts P s f n f₁ n₁ F → Keeps P s F → Acts P s f₁ n₁ f₂ n₂ G → Acts P s f n f₂ n₂ (λ M w. G M (F M w))
  acts_then {F = F} a k b =
      record { does = λ M o j w p c h i. b.does M o j (F M w) p c (a.does M o j w p c h i) (k.keeps M j w p c i) }

  -- what is done to the numbers is done to both
  pub of_numbers : {f : Floats} {n n' : Numbers} {F : Model → Work → Work} → ActsN P s n n' F → Acts P s f n f n' F
  of_numbers {f} a = record { does = λ M o k w p c h i. a.does M f o k w p c h i }

  pub ready_any : {n : Numbers} → ReadyN P s n → ReadyN Any s n
  ready_any R =
      record {
        floats = R.floats;
        ready =
            record {
              model = R.ready.model;
              other = R.ready.other;
              left = R.ready.left;
              work = R.ready.work;
              known = tt;
              call = R.ready.call;
              shows = R.ready.shows;
              inv = R.ready.inv;
            };
      }

  pub ready_numbers : {f : Floats} {n : Numbers} → Ready P s f n → ReadyN P s n
  ready_numbers {f} R = record { floats = f; ready = R }

  pub ready_next : {n n' : Numbers} {F : Model → Work → Work} → ReadyN P s n → ActsN P s n n' F → Keeps P s F → ReadyN P s n'
  ready_next R a k = record { floats = R.floats; ready = ready_after R.ready (of_numbers a) k }

  pub then_numbers : {n n₁ n₂ : Numbers} {F G : Model → Work → Work} → ActsN P s n n₁ F → Keeps P s F → ActsN P s n₁ n₂ G → ActsN P s n n₂ (λ M w. G M (F M w))
  then_numbers {F = F} a k b =
      record { does = λ M f o j w p c h i. b.does M f o j (F M w) p c (a.does M f o j w p c h i) (k.keeps M j w p c i) }
