-- The form of the readers' contracts, beside view's `Reads`: of a function that has the floats alone, or the model's slices alone. And what they know of the model.
use Rattle.std.specs.Prelude.{ℕ, ◌+◌, ◌<◌, ◌≤◌, ◌≡◌, List, length, get_or}
use Rattle.std.proofs.Common.{arith, ap}
use Rattle.definition.specs.declared.Rows.{Rows}
use Rattle.definition.specs.Model.{Model, Row}
use Rattle.definition.specs.Work.{Work, no_row}
use Rattle.space.specs.declared.Context.{Context}
use Rattle.space.specs.Store.{Floats, Numbers}
use Rattle.view.specs.Call.{Call}
use Rattle.view.specs.Shows.{Shows}
use Rattle.view.specs.Inv.{Inv}
use Rattle.view.specs.Acts.{Ready}

-- a row of the state, and that the slices have it alive
abbrev pub row_of : Work → ℕ → Row
row_of w r = get_or w.rows r no_row

abbrev pub Alive : Numbers → ℕ → Type 0
Alive n r = get_or n.alive r 0 ≡ 1

-- the result is the definition's, whatever the numbers are
pub record ReadsF {A : Type 0} (P : Model → Type 0) (s : Context) (f : Floats) (z : A) (F : Model → Work → A) : Type 0 where
  pub reads : (M : Model) (n : Numbers) (o : List ℕ) (k : ℕ) (w : Work) → P M → Call M s → Shows M f n o w → Inv M k w → F M w ≡ z

-- the result is the definition's, of a function that the model alone decides
pub record ReadsM {A : Type 0} (P : Model → Type 0) (s : Context) (z : A) (F : Model → A) : Type 0 where
  pub reads : (M : Model) → P M → Call M s → F M ≡ z

-- what such a function asks: the floats show some state with some numbers
pub record ReadyF (P : Model → Type 0) (s : Context) (f : Floats) : Type 0 where
  pub numbers : Numbers
  pub ready : Ready P s f numbers

pub ready_floats : {P : Model → Type 0} {s : Context} {f : Floats} {n : Numbers} → Ready P s f n → ReadyF P s f
ready_floats {n = n} R = record { numbers = n; ready = R }

-- the result is the definition's, of a function that the model alone decides and that has no call to look at
pub record Tells {A : Type 0} (P : Model → Type 0) (z : A) (F : Model → A) : Type 0 where
  pub tells : (M : Model) → P M → F M ≡ z

-- ---- row r stands in the slices
abbrev pub RowIn : Rows → ℕ → Type 0
RowIn rows r = (r + 1 < length rows.starts.now) × (r < length rows.cmp.now) × (r < length rows.rhs.now) × (get_or rows.starts.now r 0 ≤ get_or rows.starts.now (r + 1) 0)

-- ---- the domains alone
pub record Domains (ds : List ℕ) (M : Model) : Type 0 where
  pub domain : M.domain ≡ ds

-- a variable has its domain
pub domain_in : {P : Model → Type 0} {s : Context} {f : Floats} {n : Numbers} {ds : List ℕ} {v : ℕ} → Ready P s f n → ((M : Model) → P M → Domains ds M) → v < s.vars → v < length ds
domain_in R q p = omega (arith, p, R.call.vars, R.call.domains, ap length (q R.model R.known).domain)
