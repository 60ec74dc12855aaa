-- Of an accepted call no count reaches 2 ^ 64, so a count that is kept modulo 2 ^ 64 is the definition's.
use Rattle.std.specs.Prelude.{◌+◌, ◌≤◌, ◌<◌, ◌≡◌, length, get_or}
use Rattle.std.proofs.Common.{arith, sym, subst}
use Rattle.std.proofs.Math.Decide.{dec_lt}
use Rattle.std.proofs.Math.ListN.{get_or-eq_default}
use Rattle.definition.specs.declared.Counts.{Counts}
use Rattle.definition.specs.Params.{Params, max_waves}
use Rattle.definition.specs.Model.{Model, upto, nnz, Reduced, Answer, infeasible, done}
use Rattle.definition.specs.Presolve.{presolve}
use Rattle.space.specs.declared.Context.{Context}
use Rattle.view.specs.Call.{Call}
use Rattle.view.specs.Shows.{Tally}
use Rattle.tally.specs.Tallied.{AtMost}
use Rattle.tally.specs.Rows.{AllShort}
use Rattle.tally.specs.Whole.{in_all, AnswerAtMost, gave_up, found, whole}

-- the four counts that are kept modulo 2 ^ 64
pub record CountsFit (c : Counts) : Type 0 where
  pub dropped : c.rowsDropped < 18446744073709551616
  pub tightened : c.boundsTightened < 18446744073709551616
  pub fixed : c.varsFixed < 18446744073709551616
  pub rewrote : c.coeffsTightened < 18446744073709551616

pub data Fits : Answer → Type 0 where
  infeasible_fits : {c : Counts} → CountsFit c → Fits (infeasible c)
  done_fits : {x : Reduced} → CountsFit x.counts → Fits (done x)

-- ---- a row of an accepted call has no more terms than the call
all_short : {M : Model} {s : Context} → Call M s → AllShort M
unfolding nnz upto
all_short {M} c r =
    elim (dec_lt r (length M.rhs)) [
      | yes h ↦ omega (arith, c.last r h, c.max_terms)
      | no h ↦ (let z : get_or M.starts (r + 1) 0 ≡ 0 = get_or-eq_default M.starts 0 (omega (arith, c.starts)) in omega arith)
    ]

waves_30 : {M : Model} {s : Context} → Call M s → max_waves M.params ≤ 30
waves_30 c = subst (λ (p : Params). max_waves p ≤ 30) (sym c.params) (omega arith)

rounds_3 : {M : Model} {s : Context} → Call M s → M.params.max_rounds ≤ 3
rounds_3 c = subst (λ (p : Params). p.max_rounds ≤ 3) (sym c.params) (omega arith)

counts_are : {c : Counts} → AtMost in_all c → CountsFit c
counts_are p = record { dropped = omega (arith, p.dropped); tightened = omega (arith, p.tightened); fixed = omega (arith, p.fixed); rewrote = omega (arith, p.rewrote) }

fits : {a : Answer} → AnswerAtMost in_all a → Fits a
fits (gave_up p) = infeasible_fits (counts_are p)
fits (found p) = done_fits (counts_are p)

pub counts_fit : (M : Model) (s : Context) → Call M s → Fits (presolve M)
counts_fit M s c = fits (whole M (all_short c) c.max_rows c.max_vars (waves_30 c) (rounds_3 c))

-- as it is used, of an answer at hand
pub fits_infeasible : {c : Counts} → Fits (infeasible c) → CountsFit c
fits_infeasible (infeasible_fits h) = h

pub fits_done : {x : Reduced} → Fits (done x) → CountsFit x.counts
fits_done (done_fits h) = h

-- ---- so the counts that the slices show are the definition's
pub record TallyExact (t : Tally) (c : Counts) : Type 0 where
  pub dropped : get_or t.dropped 0 0 ≡ c.rowsDropped
  pub tightened : get_or t.tightened 0 0 ≡ c.boundsTightened
  pub fixed : get_or t.fixed 0 0 ≡ c.varsFixed
  pub rewrote : get_or t.rewrote 0 0 ≡ c.coeffsTightened
  pub passes : get_or t.passes 0 0 ≡ c.passes
