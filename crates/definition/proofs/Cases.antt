-- THE TWELVE CASES have the table's answers: `twelve_cases`, by computing; `case_accepted` and `case_answered` for one of them.
use Rattle.std.proofs.Math.Path.{refl}
use Rattle.std.specs.Prelude.{◌≡◌}
use Rattle.std.proofs.Math.Option.{none}
use mathlib.Core.List.{Memᴰ}
use Rattle.definition.specs.Refusal.{refusal, shortest, judging}
use Rattle.definition.specs.Presolve.{presolve}
use Rattle.definition.specs.Cases.{Case, cases, presolved, answers, writing, everything, each}

pub twelve_cases : presolved cases ≡ answers cases
unfolding cases presolved answers writing everything judging
twelve_cases = refl

pub case_accepted : {c : Case} → Memᴰ c cases → refusal c.model (shortest c.model) ≡ none
case_accepted {c} m = (each cases twelve_cases c m).0

pub case_answered : {c : Case} → Memᴰ c cases → presolve c.model ≡ c.answer
case_answered {c} m = (each cases twelve_cases c m).1
