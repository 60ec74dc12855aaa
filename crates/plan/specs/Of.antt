-- What the code's answers are in the definition.
use Rattle.std.specs.Prelude.{Result, Ok, Err}
use Rattle.refuse.specs.declared.Refusal.{Refusal}
use Rattle.refuse.specs.Number.{number_of}
use Rattle.plan.specs.declared.Check.{Check}
use Rattle.plan.specs.Refusal.{Answer, refused, said}

abbrev pub answer_is : Result Check Refusal → Answer
answer_is (Err k) = refused (number_of k)
answer_is (Ok c) = said c
