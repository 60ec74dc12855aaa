-- judge_row and judge_rows: what a row is told to be, and that the rows below the last are all rows.
use Rattle.std.specs.Prelude.{ℕ, ◌≤◌, ◌≡◌, Bool, List, Float}
use Rattle.std.proofs.Common.{arith, subst}
use Rattle.definition.specs.Model.{Model}
use Rattle.space.specs.declared.Context.{Context}
use Rattle.space.specs.Store.{Floats, Numbers}
use Rattle.readers.specs.Trivial.{TellsTrivial}
use Rattle.emit.specs.Judging.{Judged}

pub told-as : {s : Context} {ss os : List ℕ} {bs : List Float} {r : ℕ} {z b : Bool} → TellsTrivial s ss os bs r z → z ≡ b → TellsTrivial s ss os bs r b
told-as {s} {ss} {os} {bs} {r} T e = subst (TellsTrivial s ss os bs r) e T

pub judged-end : {P : Model → Type 0} {s : Context} {f f' : Floats} {n n' : Numbers} {r k : ℕ} → Judged P s f n f' n' r → r ≤ k → k ≤ r → Judged P s f n f' n' k
judged-end {P} {s} {f} {f'} {n} {n'} {r} {k} J a b = let z : r ≡ k = omega (arith, a, b) in subst (λ (j : ℕ). Judged P s f n f' n' j) z J
