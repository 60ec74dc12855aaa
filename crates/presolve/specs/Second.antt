-- `reduced_model`, the second answer: no reduced model where presolve found the model infeasible or left it as it was.
use Rattle.std.specs.Prelude.{ℕ, ◌≡◌, refl, Bool, true, false, length, Some, None, Result, Ok, Err}
use Rattle.std.specs.Bool.{then_some}
use Rattle.std.specs.Prelude as prelude
use Rattle.std.proofs.Math.Option.{Option, none, some}
use Rattle.floats.specs.Num.{choose}
use Rattle.definition.specs.declared.Counts.{Counts}
use Rattle.definition.specs.Model.{Reduced}
use Rattle.refuse.specs.declared.Refusal.{Refusal}
use Rattle.refuse.specs.Number.{number_of}
use Rattle.output.specs.declared.Reduced as code
use Rattle.presolve.specs.declared.Presolved.TheVariants as variants
use Rattle.presolve.specs.Promise.{Outcome, infeasible, presolved, presolved_is}
use Rattle.presolve.specs.Promise as promise

-- each answer's number and values
pub data Second : Type 0 where
  refused : ℕ → Second
  no_model : Second
  reduced : Counts → ℕ → ℕ → ℕ → Bool → Second

-- by the number of a refusal, whatever stands for one
abbrev pub second_as : {E : Type 0} → (E → ℕ) → Result (prelude.Option code.Reduced) E → Second
second_as number (Ok (Some x)) = reduced x.counts x.emitted x.terms x.kept x.flag
second_as number (Ok None) = no_model
second_as number (Err k) = refused (number k)

abbrev pub second_is : Result (prelude.Option code.Reduced) Refusal → Second
second_is = second_as number_of

-- of presolve's answer
unfoldable pub second : Outcome → Second
second (promise.refused k) = refused k
second (infeasible k) = no_model
second (presolved k n t q g) = choose g (reduced k n t q g) no_model

-- a model, by its flag
pub second_chosen : {E : Type 0} (number : E → ℕ) (x : code.Reduced) {y : prelude.Option code.Reduced} → y ≡ then_some x.flag x → second_as number (Ok y) ≡ second (presolved_is (variants.Model x))
unfolding second choose
second_chosen number x e = rw e (go x.flag)
  where
    go : (g : Bool) → second_as number (Ok (then_some g x)) ≡ choose g (reduced x.counts x.emitted x.terms x.kept x.flag) no_model
    go true = refl
    go false = refl

-- of the definition's
unfoldable pub second_of : Option ℕ → Option Reduced → Second
second_of (some k) a = refused k
second_of none none = no_model
second_of none (some a) = reduced a.counts (length a.emitted) (length a.terms) (length a.kept) a.flag
