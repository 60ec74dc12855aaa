-- Whether a row is trivially true as handed in: what `is_trivial` tells of every model that the rows are of.
use Rattle.std.specs.Prelude.{ℕ, ◌+◌, ◌-◌, ◌≤◌, ◌<◌, ◌≡◌, Bool, false, List, length, get_or, unwrap_or, Float}
use Rattle.std.proofs.Common.{arith, ◌∙◌}
use Rattle.std.proofs.Math.Path.{ap, sym}
use Rattle.std.specs.Float.{nan}
use Rattle.std.specs.Prelude as std
use Rattle.tolerances.specs.Tol.{trivial_verdict, says_true}
use Rattle.tolerances.specs.Answers.{option_of, says_unwrap}
use Rattle.definition.specs.declared.Rows.{Rows}
use Rattle.definition.specs.Model.{Model, from, upto, nnz, op_of, rhs_of}
use Rattle.definition.specs.Work.{trivial}
use Rattle.space.specs.declared.Context.{Context}
use Rattle.space.specs.Store.{Floats, Numbers}
use Rattle.view.specs.Call.{Call}
use Rattle.view.specs.Acts.{Ready}
use Rattle.view.specs.Known.{Written}

pub record TellsTrivial (s : Context) (ss os : List ℕ) (bs : List Float) (r : ℕ) (z : Bool) : Type 0 where
  pub tells : (M : Model) → M.starts ≡ ss → M.cmp ≡ os → M.rhs ≡ bs → Call M s → trivial M r ≡ z

pub trivial_tells : {s : Context} {ss os : List ℕ} {bs : List Float} {r : ℕ} (t : std.Option Bool) {z : Bool} → option_of t ≡ trivial_verdict s.feas (get_or os r 0)
    (get_or ss (r + 1) 0 - get_or ss r 0) (get_or bs r nan) → z ≡ unwrap_or t false
    → TellsTrivial s ss os bs r z
unfolding trivial op_of rhs_of nnz from upto
trivial_tells t e f = record { tells = λ M a b d c. rw (a, b, d, ← c.feas) (sym (f ∙ says_unwrap t ∙ ap says_true e)) }

-- what it needs of the rows as written, and has of the slices
pub written_gives : {rows : Rows} (M : Model) → Written rows M → (M.starts ≡ rows.starts.now) × (M.cmp ≡ rows.cmp.now) × (M.rhs ≡ rows.rhs.now)
written_gives M x = (x.starts, x.cmp, x.rhs)

pub ready_trivial : {rows : Rows} {s : Context} {f : Floats} {n : Numbers} {r : ℕ} → Ready (Written rows) s f n → r < s.rows
    → (r + 1 < length rows.starts.now) × (r < length rows.cmp.now) × (r < length rows.rhs.now) × (get_or rows.starts.now r 0 ≤ get_or rows.starts.now (r + 1) 0)
unfolding from upto
ready_trivial {r = r} R p =
    let x = R.known in
    let c = R.call in
    let q : r < length R.model.rhs = omega (arith, p, c.rows) in
    let a = ap (λ (l : List ℕ). get_or l r 0) x.starts in
    let b = ap (λ (l : List ℕ). get_or l (r + 1) 0) x.starts in
    (omega (arith, q, c.starts, ap length x.starts), omega (arith, q, c.cmps, ap length x.cmp), omega (arith, q, ap length x.rhs), omega (arith, a, b, c.rise r q))
