-- The form of a rewrite's contract: the slices hold the carried row and the state as one, and the code has the rest by value.
use Rattle.std.specs.Prelude.{ℕ, ◌≡◌, refl, Bool, true, false, ◌||◌, List, Option, None, Some}
use Rattle.std.proofs.Common.{subst}
use Rattle.definition.specs.declared.Activity.{Activity}
use Rattle.definition.specs.Model.{Model}
use Rattle.definition.specs.Work.{Work}
use Rattle.definition.specs.Tighten.{Rewriting}
use Rattle.space.specs.declared.Context.{Context}
use Rattle.space.specs.Store.{Floats, Numbers}
use Rattle.view.specs.Call.{Call}
use Rattle.view.specs.Shows.{Shows}
use Rattle.view.specs.Inv.{Inv}
use Rattle.readers.specs.Reading.{row_of}
use Rattle.tighten.specs.declared.Progress as code
use Rattle.tighten.specs.Over.{shown}

-- what the code carries by value, and whether the loop was left
pub record Progress : Type 0 where
  pub act : Activity
  pub changed : Bool
  pub broke : Bool

abbrev pub begun : Activity → Bool → Progress
begun act changed = record { act = act; changed = changed; broke = false }

-- the same where something may have changed before
abbrev pub or_before : Bool → Progress → Progress
or_before b x = record { act = x.act; changed = b || x.changed; broke = x.broke }

abbrev pub going : code.Progress → Progress
going x = begun x.act x.changed

-- a row that was given back leaves the loop, at the activity that it had
abbrev pub left_at : Activity → Progress
left_at old = record { act = old; changed = true; broke = true }

left_before : (b : Bool) (old : Activity) → or_before b (left_at old) ≡ left_at old
left_before true old = refl
left_before false old = refl

-- what the code answers of a step: no progress where the row was given back
abbrev pub progressed : Activity → Option code.Progress → Progress
progressed old None = left_at old
progressed old (Some x) = going x

abbrev pub progress_of : Rewriting → Progress
progress_of x = record { act = x.act; changed = x.changed; broke = x.broke }

-- what the code carries, in the state w
abbrev pub carried : ℕ → Progress → Work → Rewriting
carried r x w = record { row = row_of w r; act = x.act; work = w; changed = x.changed; broke = x.broke }

-- whatever state the slices show, they show F's after with its row stored, and the result is the rest of F's
pub record Carries (P : Model → Type 0) (s : Context) (r : ℕ) (f : Floats) (n : Numbers) (f' : Floats) (n' : Numbers) (z : Progress) (F : Model → Work → Rewriting) : Type 0 where
  pub does : (M : Model) (o : List ℕ) (k : ℕ) (w : Work) → P M → Call M s → Shows M f n o w → Inv M k w → Shows M f' n' o (shown r (F M w))
  pub says : (M : Model) (o : List ℕ) (k : ℕ) (w : Work) → P M → Call M s → Shows M f n o w → Inv M k w → progress_of (F M w) ≡ z

pub not_some : {A : Type 0} (y : Option A) → ((z : A) → y ≡ Some z → ⊥) → y ≡ None
not_some None h = refl
not_some (Some z) h = absurd (h z refl)

module _ {P : Model → Type 0} {s : Context} {r : ℕ} {f f' : Floats} {n n' : Numbers} (old : Activity) {F : Model → Work → Rewriting} {y : Option code.Progress} where
  pub carries_some : {z : code.Progress} → y ≡ Some z → Carries P s r f n f' n' (progressed old y) F → Carries P s r f n f' n' (going z) F
  carries_some e t = subst (λ (u : Option code.Progress). Carries P s r f n f' n' (progressed old u) F) e t

  pub carries_none : y ≡ None → Carries P s r f n f' n' (progressed old y) F → Carries P s r f n f' n' (left_at old) F
  carries_none e t = subst (λ (u : Option code.Progress). Carries P s r f n f' n' (progressed old u) F) e t

module _ {P : Model → Type 0} {s : Context} {r : ℕ} {f f' : Floats} {n n' : Numbers} {F : Model → Work → Rewriting} where
  pub carries_left : (b : Bool) {old : Activity} → Carries P s r f n f' n' (or_before b (left_at old)) F → Carries P s r f n f' n' (left_at old) F
  carries_left b {old} t = subst (λ (z : Progress). Carries P s r f n f' n' z F) (left_before b old) t
