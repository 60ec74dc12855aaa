-- What became of each row: the walk over the rows that go out settles the fate of one row a step, in order.
use Rattle.std.specs.Prelude.{ℕ, ◌≤◌, ◌<◌, ◌≡◌, List, []}
use Rattle.definition.specs.Model.{Model, Emit}
use Rattle.definition.specs.Work.{Work}
use Rattle.definition.specs.Emit.{Out}
use Rattle.rows_kept.specs.Statements.{entries_of, occurs, Fate, Rising, rows_of}

-- no property of the state is needed
abbrev pub Any : Work → Type 0
Any w = Unit {0}

-- the rows below r are settled, nothing is out of the others, and both lists rise
pub record Fates (M : Model) (r : ℕ) (es : List Emit) (ks : List ℕ) : Type 0 where
  pub settled : (q : ℕ) → q < r → Fate M q es ks
  pub entries : (q : ℕ) → r ≤ q → entries_of q es ≡ []
  pub kept : (q : ℕ) → r ≤ q → occurs q ks ≡ 0
  pub rows_rise : Rising r 0 (rows_of es)
  pub kept_rise : Rising r 0 ks

-- ---- the walk
abbrev pub Settled : Model → ℕ → Work → Out → Type 0
Settled M r w o = Fates M r o.emitted o.kept
