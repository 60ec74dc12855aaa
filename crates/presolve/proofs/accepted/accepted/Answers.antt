-- An accepted call: what its steps promise is the promise.
use mathlib.Core.Path.{refl, ◌∙◌}
use Rattle.presolve.specs.Steps.{accept, reduce_given, holds_floats, holds_numbers, holds_adjacency, has_room}
use Rattle.presolve.specs.Steps.{ready_results, promise_stopped, promise_done, same_space, still_holds}
use Rattle.reduce.specs.Reducing.{reduces_is}
use Rattle.presolve.proofs.accepted.accepted.Goals as goal

pub reduce-requires : goal.reduce-requires
reduce-requires c =
    let i = c.args.input in
    let a = accept c.requires refl refl refl refl c.is_mip.ensures refl in
    record { holds_f = (holds_floats i a, holds_numbers i a, holds_adjacency i a); given = reduce_given i a }

pub stopped-requires : goal.stopped-requires
stopped-requires c =
    let a = accept c.requires refl refl refl refl c.is_mip.ensures refl in
    still_holds c.reduce.auto.numbers (holds_numbers c.args.input a)

pub finished-requires : goal.finished-requires
finished-requires c =
    let i = c.args.input in
    let a = accept c.requires refl refl refl refl c.is_mip.ensures refl in
    record {
      holds_f = (still_holds c.reduce.auto.floats (holds_floats i a), still_holds c.reduce.auto.numbers (holds_numbers i a));
      room = has_room i a;
      ready = ready_results i a (reduces_is c.reduce.ensures.reduces c.in-Ok.is);
    }

pub returns-in-Err-clause-promise : goal.returns-in-Err-clause-promise
returns-in-Err-clause-promise c =
    let a = accept c.requires refl refl refl refl c.is_mip.ensures refl in
    promise_stopped c.args.input a (reduces_is c.reduce.ensures.reduces c.in-Err.is) c.stopped.ensures.result_value
    (c.stopped.ensures.zeros ∙ same_space _ _ c.reduce.auto.floats c.reduce.auto.numbers c.reduce.auto.adjacency)

pub returns-in-Ok-clause-promise : goal.returns-in-Ok-clause-promise
returns-in-Ok-clause-promise c =
    let a = accept c.requires refl refl refl refl c.is_mip.ensures refl in
    promise_done c.args.input a (reduces_is c.reduce.ensures.reduces c.in-Ok.is) c.finished.ensures.finished
    (c.finished.ensures.zeros ∙ same_space _ _ c.reduce.auto.floats c.reduce.auto.numbers c.reduce.auto.adjacency)
