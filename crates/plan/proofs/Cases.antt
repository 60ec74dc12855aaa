-- THE WORKED CASES have the table's answers, by computing.
use Rattle.std.proofs.Math.Path.{refl}
use Rattle.std.specs.Prelude.{◌≡◌}
use Rattle.tolerances.specs.Tol.{excursion, violation}
use Rattle.definition.specs.Cases.{writing, everything}
use Rattle.definition.specs.Refusal.{judging}
use Rattle.plan.specs.Nearest.{nearest}
use Rattle.plan.specs.Plan.{first, larger_of, largest, passes_lower, passes_upper, bound_passed, not_whole, whole_missed, misses, row_missed, excursion_at, verdict, checked}
use Rattle.plan.specs.Refusal.{length_wrong, value_wrong, values_wrong, plan_refusal, answered, plan_answer}
use Rattle.plan.specs.Cases.{cases, found, expected}

pub worked_cases : found cases ≡ expected cases
unfolding cases found expected nearest first larger_of largest passes_lower passes_upper bound_passed not_whole whole_missed misses row_missed excursion_at verdict checked
    length_wrong value_wrong values_wrong plan_refusal answered plan_answer excursion violation writing everything judging
worked_cases = refl
