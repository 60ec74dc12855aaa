-- `reduced_model`, the second answer: no reduced model where presolve found the model infeasible or left it as it was.
use Rattle.std.specs.Prelude.{ℕ, ◌≡◌, refl, Bool, true, false, length, Result}
use Rattle.std.specs.Prelude as prelude
use Rattle.std.proofs.Common.{ap, ◌∙◌}
use Rattle.std.proofs.Math.Option.{Option, none, some}
use Rattle.floats.specs.Num.{choose}
use Rattle.definition.specs.Model as definition
use Rattle.definition.specs.Model.{Model}
use Rattle.definition.specs.Presolve.{presolve, reduced_model}
use Rattle.definition.specs.Refusal.{refusal}
use Rattle.output.specs.Results.{Results}
use Rattle.output.specs.declared.Reduced as code
use Rattle.refuse.specs.declared.Refusal.{Refusal}
use Rattle.presolve.specs.Promise.{Working, Answer, lengths, answer_is, outcome, Promise}
use Rattle.presolve.specs.Second.{no_model, reduced, second, second_is, second_of}

-- it is the definition's `reduced_model`, over presolve
pub second_is_lem : (r : Option ℕ) (a : definition.Answer) → second (outcome r a) ≡ second_of r (reduced_model a)
unfolding second outcome second_of reduced_model choose
second_is_lem (some k) a = refl
second_is_lem none (definition.infeasible k) = refl
second_is_lem none (definition.done a) = go a.flag
  where
    go : (g : Bool) → choose g (reduced a.counts (length a.emitted) (length a.terms) (length a.kept) g) no_model
        ≡ second_of none (choose g
        (some (record { counts = a.counts; lower = a.lower; upper = a.upper; emitted = a.emitted; terms = a.terms; kept = a.kept; flag = g })) none)
    go true = refl
    go false = refl

pub reduced_model_lem : {M : Model} {b b' : Results} {x x' : Working} {z : Answer} (y : Result (prelude.Option code.Reduced) Refusal) → Promise M b x z b' x'
    → second_is y ≡ second (answer_is z) → second_is y ≡ second_of (refusal M (lengths b x)) (reduced_model (presolve M))
reduced_model_lem {M} {b} {x = x} y p e = e ∙ ap second p.answer ∙ second_is_lem (refusal M (lengths b x)) (presolve M)
