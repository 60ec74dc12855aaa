-- `suedeonyx_presolve`: what presolve promises and how it is told, or a slice that is too short for it.
use borrow.Author.Rules.{rules}
use Rattle.presolve_c.specs.Steps.{promise_short, promise_told, promise_in}
use Rattle.presolve_c.proofs.suedeonyx_presolve.Goals as goal

pub returns-then-answer-lt-ANSWER : goal.returns-then-answer-lt-ANSWER
returns-then-answer-lt-ANSWER c = promise_short _ c.if-answer-lt-ANSWER.true c.lent_lengths.ensures c.short_answer.ensures

pub returns : goal.returns
returns c =
    promise_in (promise_told c.if-answer-lt-ANSWER.false c.presolve.ensures.promise c.tell.ensures) (search rules) (search rules) (search rules) (search rules) (search rules)
    (search rules) (search rules) (search rules) (search rules) (search rules) (search rules) (search rules) (search rules)
