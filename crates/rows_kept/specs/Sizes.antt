-- A row never has more terms, live and folded, than as written; so the rewritten terms fit where the model's do, and their spans follow one another.
use Rattle.std.specs.Prelude.{ℕ, ◌+◌, ◌≤◌, length}
use Rattle.definition.specs.Model.{Model, from, nnz, Row}
use Rattle.definition.specs.Work.{Work}
use Rattle.definition.specs.Emit.{Out}
use Rattle.rows_kept.specs.Statements.{Consecutive, Spans}

-- ---- a row's terms
abbrev pub Fits : Model → ℕ → Row → Type 0
Fits M r row = Spans M → length row.terms + length row.folded ≤ nnz M r

-- ---- what is out: the terms so far fit below where row r's start
pub record TermsRoom (M : Model) (r : ℕ) (w : Work) (o : Out) : Type 0 where
  pub room : Spans M → r ≤ length M.rhs → length o.terms ≤ from M r
  pub spans_follow : Consecutive (length o.terms) 0 o.emitted
