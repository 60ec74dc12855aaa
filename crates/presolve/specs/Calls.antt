-- 01's TWELVE MODEL DAYS AS CALLS: with slices of which none is too short, whatever they hold, a call has its case's answer, and puts it into the result slices.
use Rattle.std.specs.Prelude.{ℕ, ◌≡◌, false}
use Rattle.std.proofs.Common.{ap, ◌∙◌}
use mathlib.Core.List.{Memᴰ}
use Rattle.std.proofs.Math.Option.{Option, none}
use Rattle.definition.specs.Model as definition
use Rattle.definition.specs.Presolve.{presolve}
use Rattle.definition.specs.Refusal.{too_short, shortest}
use Rattle.definition.specs.Cases.{Case, cases}
use Rattle.definition.proofs.Cases.{case_accepted, case_answered}
use Rattle.definition.proofs.Edges.{longer_accepted}
use Rattle.output.specs.Results.{Results}
use Rattle.presolve.specs.Promise.{Working, lengths, Answer, answer_is, outcome, results_after, Promise}

-- the shortest slices are such (definition, `shortest_enough`)
pub twelve_calls : {c : Case} → Memᴰ c cases → {b b' : Results} {x x' : Working} {z : Answer} → Promise c.model b x z b' x'
    → too_short c.model (lengths b x) ≡ false → (answer_is z ≡ outcome none c.answer) × (b' ≡ results_after none c.answer b)
twelve_calls {c} one {b} {x = x} p s =
    let r = longer_accepted c.model (shortest c.model) (lengths b x) (case_accepted one) s in
    let a = case_answered one in (
      p.answer ∙ ap (λ (o : Option ℕ). outcome o (presolve c.model)) r ∙ ap (outcome none) a,
      p.results ∙ ap (λ (o : Option ℕ). results_after o (presolve c.model) b) r ∙ ap (λ (y : definition.Answer). results_after none y b) a,
    )
