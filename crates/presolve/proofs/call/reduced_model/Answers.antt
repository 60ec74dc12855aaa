-- `reduced_model`, by presolve's answer and the flag.
use Rattle.std.proofs.Common.{ap, ◌∙◌}
use Rattle.std.proofs.lemmas.Result.{err_from_is_err_and}
use borrow.Author.Rules.{rules}
use Rattle.presolve.specs.Second.{refused, second, second_as, second_chosen}
use Rattle.presolve.proofs.call.reduced_model.Goals as goal

pub returns-in_err-answer : goal.returns-in_err-answer
unfolding second
returns-in_err-answer g c =
    let p = err_from_is_err_and c.from_residual.result c.from_residual.ensures.1 in
    record { by_number = λ n. rw c.in_err-answer.was (ap (second_as n) p.1 ∙ ap (λ k. refused (n k)) p.2) }

pub returns-in-Infeasible : goal.returns-in-Infeasible
unfolding second
returns-in-Infeasible g c = record { by_number = λ n. search rules }

pub returns-in-Model : goal.returns-in-Model
returns-in-Model g c = record { by_number = λ n. rw (c.in_ok-answer.was, c.in-Model.is) (second_chosen n c.in-Model.x c.then_some.ensures) }
