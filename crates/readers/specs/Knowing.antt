-- What a step on a row knows of the model: the domains, where the rows' spans are, the rows of each variable.
use Rattle.std.specs.Prelude.{ℕ, ◌+◌, ◌-◌, ◌≤◌, ◌<◌, ◌≡◌, List, length, get_or}
use Rattle.std.proofs.Common.{arith, ap, sym, ◌∙◌}
use Rattle.definition.specs.Model.{Model, from, upto, nnz}
use Rattle.space.specs.declared.Context.{Context}
use Rattle.space.specs.Store.{Floats, Numbers}
use Rattle.formulas.specs.declared.Limits.{Limits}
use Rattle.formulas.specs.Bare.{Of}
use Rattle.view.specs.declared.Lists.{Lists}
use Rattle.view.specs.Call.{Call}
use Rattle.view.specs.Acts.{Ready}
use Rattle.view.specs.Adjacency.{Adjacency, Adj}
use Rattle.view.specs.Known.{Bounding, Spans, Known}
use Rattle.readers.specs.Reading.{Domains}
use Rattle.readers.specs.Limits.{ReadsLimits}

-- the domains and the spans
pub record Looks (x : Lists) (M : Model) : Type 0 where
  pub domain : M.domain ≡ x.domain.now
  pub starts : M.starts ≡ x.rows.starts.now

-- the spans and the rows of each variable
pub record Marks (x : Lists) (M : Model) : Type 0 where
  pub starts : M.starts ≡ x.rows.starts.now
  pub adjacency : Adjacency M x.adjacency.now

-- all three
pub record BoundingRows (x : Lists) (M : Model) : Type 0 where
  pub domain : M.domain ≡ x.domain.now
  pub starts : M.starts ≡ x.rows.starts.now
  pub adjacency : Adjacency M x.adjacency.now

module _ {x : Lists} (M : Model) (k : Looks x M) where
  pub looks_spans : Spans x.rows.starts.now M
  looks_spans = record { starts = k.starts }

  pub looks_domains : Domains x.domain.now M
  looks_domains = record { domain = k.domain }

module _ {x : Lists} (M : Model) (k : Marks x M) where
  pub marks_spans : Spans x.rows.starts.now M
  marks_spans = record { starts = k.starts }

  pub marks_adj : Adj x.adjacency.now M
  marks_adj = k.adjacency

module _ {x : Lists} (M : Model) (k : BoundingRows x M) where
  pub moves_spans : Spans x.rows.starts.now M
  moves_spans = record { starts = k.starts }

  pub moves_domains : Domains x.domain.now M
  moves_domains = record { domain = k.domain }

  pub moves_looks : Looks x M
  moves_looks = record { domain = k.domain; starts = k.starts }

  pub moves_marks : Marks x M
  moves_marks = record { starts = k.starts; adjacency = k.adjacency }

  pub moves_bounding : Bounding x M
  moves_bounding = record { domain = k.domain; adjacency = k.adjacency }

pub known_moves : {x : Lists} (M : Model) → Known x M → BoundingRows x M
known_moves M k = record { domain = k.domain; starts = k.written.starts; adjacency = k.adjacency }

-- ---- a row's span
pub record SpanAt (ss : List ℕ) (r : ℕ) : Type 0 where
  pub long : r + 1 < length ss
  pub rise : get_or ss r 0 ≤ get_or ss (r + 1) 0

pub span_at : {P : Model → Type 0} {s : Context} {f : Floats} {n : Numbers} {ss : List ℕ} {r : ℕ} → Ready P s f n → ((M : Model) → P M → Spans ss M) → r < s.rows → SpanAt ss r
unfolding from upto
span_at {ss = ss} {r = r} R q p =
    let M = R.model in
    let c = R.call in
    let e = (q M R.known).starts in
    let l : r < length M.rhs = omega (arith, p, c.rows) in
    let a : get_or M.starts r 0 ≡ get_or ss r 0 = ap (λ (x : List ℕ). get_or x r 0) e in
    let b : get_or M.starts (r + 1) 0 ≡ get_or ss (r + 1) 0 = ap (λ (x : List ℕ). get_or x (r + 1) 0) e in
    record { long = omega (arith, c.starts, ap length e, l); rise = omega (arith, a, b, c.rise r l) }

-- x is of row r, as the floats and the rows' starts have it
pub record LimitsOf (ss : List ℕ) (s : Context) (f : Floats) (r : ℕ) (x : Limits) : Type 0 where
  pub read : ReadsLimits s f r x.terms x
  pub written : x.terms ≡ get_or ss (r + 1) 0 - get_or ss r 0

-- the model's tolerance and the row's count of terms, as the formulas have them
pub of_call : {M : Model} {s : Context} {ss : List ℕ} {r z : ℕ} → Call M s → Spans ss M → z ≡ get_or ss (r + 1) 0 - get_or ss r 0 → Of M r s.feas z
unfolding nnz from upto
of_call {r = r} c e g =
    record {
      feas = sym c.feas;
      terms = ap (λ (x : List ℕ). get_or x (r + 1) 0 - get_or x r 0) e.starts ∙ sym g;
      params = c.params;
    }

pub of_limits : {M : Model} {s : Context} {f : Floats} {ss : List ℕ} {r z : ℕ} {x : Limits} → ReadsLimits s f r z x → Call M s → Spans ss M → z
    ≡ get_or ss (r + 1) 0 - get_or ss r 0 → Of M r x.feas x.terms
of_limits lim c e g =
    let o = of_call c e g in
    record { feas = o.feas ∙ sym lim.feas; terms = o.terms ∙ sym lim.terms; params = o.params }
