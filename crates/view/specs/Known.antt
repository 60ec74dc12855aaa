-- What the read-only slices that a function has say of the model.
use Rattle.std.specs.Prelude.{◌≡◌, List, ℕ}
use Rattle.definition.specs.declared.Rows.{Rows}
use Rattle.definition.specs.Model.{Model}
use Rattle.view.specs.declared.Lists.{Lists}
use Rattle.view.specs.Adjacency.{Adjacency}

-- the domains and the rows of each variable
pub record Bounding (x : Lists) (M : Model) : Type 0 where
  pub domain : M.domain ≡ x.domain.now
  pub adjacency : Adjacency M x.adjacency.now

-- where the rows' spans are
pub record Spans (ss : List ℕ) (M : Model) : Type 0 where
  pub starts : M.starts ≡ ss

-- the rows as written
pub record Written (x : Rows) (M : Model) : Type 0 where
  pub starts : M.starts ≡ x.starts.now
  pub index : M.index ≡ x.index.now
  pub coeff : M.coeff ≡ x.coeff.now
  pub cmp : M.cmp ≡ x.cmp.now
  pub rhs : M.rhs ≡ x.rhs.now

-- all of them
pub record Known (x : Lists) (M : Model) : Type 0 where
  pub written : Written x.rows M
  pub domain : M.domain ≡ x.domain.now
  pub adjacency : Adjacency M x.adjacency.now

module _ {x : Lists} (M : Model) (k : Known x M) where
  pub known_spans : Spans x.rows.starts.now M
  known_spans = record { starts = k.written.starts }

  pub known_written : Written x.rows M
  known_written = k.written

pub bounding_adj : {x : Lists} (M : Model) → Bounding x M → Adjacency M x.adjacency.now
bounding_adj M k = k.adjacency

pub written_spans : {x : Rows} (M : Model) → Written x M → Spans x.starts.now M
written_spans M k = record { starts = k.starts }
