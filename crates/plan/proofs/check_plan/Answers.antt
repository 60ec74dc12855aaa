-- `check_plan`: the table, then what is said first, and the largest excursion.
use Rattle.std.proofs.Common.{refl, sym, ◌∙◌}
use Rattle.std.proofs.lemmas.Result.{err_from_is_err_and}
use Rattle.definition.specs.Of.{input_model}
use Rattle.plan.proofs.Accepted.{accepted}
use Rattle.plan.specs.Plan.{verdict, checked}
use Rattle.plan.specs.Refusal.{plan_answer, answered}
use Rattle.plan.proofs.check_plan.Goals as goal

pub returns-in_err-refused : goal.returns-in_err-refused
unfolding plan_answer answered
returns-in_err-refused c =
    let p = err_from_is_err_and c.from_residual.result c.from_residual.ensures.1 in
    rw (p.1, p.2, sym c.in_err-refused.ensures) refl

pub missed-rows-requires-clause-lengths : goal.missed-rows-requires-clause-lengths
missed-rows-requires-clause-lengths c = let g = (accepted (input_model c.args.input) c.args.plan.now (sym c.in_ok-refused.ensures)).lengths in (g.starts, g.cmp, g.coeff)

pub missed-rows-requires-clause-starts : goal.missed-rows-requires-clause-starts
missed-rows-requires-clause-starts c = (accepted (input_model c.args.input) c.args.plan.now (sym c.in_ok-refused.ensures)).starts

pub first_passed-requires : goal.first_passed-requires
first_passed-requires c =
    let a = accepted (input_model c.args.input) c.args.plan.now (sym c.in_ok-refused.ensures) in
    (a.lengths.upper ∙ sym a.lengths.lower, a.values)

pub first_missed-requires : goal.first_missed-requires
first_missed-requires c =
    let a = accepted (input_model c.args.input) c.args.plan.now (sym c.in_ok-refused.ensures) in
    (a.lengths.domain ∙ sym a.lengths.lower, a.values)

pub returns : goal.returns
unfolding plan_answer answered checked verdict
returns c = rw (c.said_first.ensures, c.first_passed.ensures, c.first_missed.ensures, c.missed-rows.ensures.first, c.missed-rows.ensures.largest, sym c.in_ok-refused.ensures) refl
