-- `fold_step` is fold_step: the place to look at next.
use native.Mathlib.Omega.{arith}
use mathlib.Core.Path.{refl}
use Rattle.folds.specs.Sized.{sized}
use Rattle.folds.specs.FoldStep.{spans_long, live_in, stop_in, var_in, push_in, fold_zero, fold_fixed_term, fold_stay}
use borrow.Author.Rules.{rules}
use Rattle.folds.proofs.folding.fold_step.Goals as goal

pub bounds-starts-r : goal.bounds-starts-r
bounds-starts-r c = omega (arith, c.requires.r_lt_rows.0, spans_long c.requires.r_lt_rows.0 c.requires.standing)

pub bounds-starts-r-2 : goal.bounds-starts-r-2
bounds-starts-r-2 c = omega (arith, c.requires.r_lt_rows.0, spans_long c.requires.r_lt_rows.0 c.requires.standing)

pub overflow_add-a : goal.overflow_add-a
overflow_add-a c = omega (arith, c.requires.at_bound, live_in c.requires.r_lt_rows.0 c.requires.standing)

pub get-v-requires : goal.get-v-requires
get-v-requires c = (omega (arith, c.requires.at_bound, live_in c.requires.r_lt_rows.0 c.requires.standing), search rules)

pub overflow_add-a-2 : goal.overflow_add-a-2
overflow_add-a-2 c = omega (arith, c.requires.at_bound, live_in c.requires.r_lt_rows.0 c.requires.standing)

pub get-x-requires : goal.get-x-requires
get-x-requires c = (omega (arith, c.requires.at_bound, live_in c.requires.r_lt_rows.0 c.requires.standing), search rules)

pub swap_remove-requires : goal.swap_remove-requires
swap_remove-requires c = search live_in

pub returns-then-x : goal.returns-then-x
returns-then-x c = search (fold_zero, sized)

pub fixed-requires : goal.fixed-requires
fixed-requires c = search var_in

pub get-requires : goal.get-requires
get-requires c = search var_in

pub swap_remove-requires-then-fixed : goal.swap_remove-requires-then-fixed
swap_remove-requires-then-fixed c = search live_in

pub push_folded-requires : goal.push_folded-requires
push_folded-requires c = record {
  r_lt_rows = search rules;
  r_bound = (
    push_in c.requires.r_lt_rows.0 c.requires.standing _ _ _ (omega arith) c.swap_remove-then-fixed.ensures.numbers_after,
    search stop_in,
  );
}

pub shift_sides-requires : goal.shift_sides-requires
shift_sides-requires c = search rules

pub returns-then-fixed : goal.returns-then-fixed
returns-then-fixed c = fold_fixed_term _ _ _ _ c.requires.r_lt_rows.0 (sized _ _ _ c.requires.r_lt_rows.1 c.requires.r_lt_rows.2) refl c.requires.at_bound
    c.get-v.ensures c.get-x.ensures c.if-x.false
    c.fixed.ensures c.if-fixed.true c.get.ensures c.swap_remove-then-fixed.ensures.floats_after
    c.swap_remove-then-fixed.ensures.numbers_after (sized _ _ _ (omega arith) (omega arith)) refl c.push_folded.ensures.floats_after
    c.push_folded.ensures.numbers_after (sized _ _ _ (omega arith) (omega arith)) c.shift_sides.ensures

pub overflow_add-result : goal.overflow_add-result
overflow_add-result c = omega (arith, c.requires.at_bound, live_in c.requires.r_lt_rows.0 c.requires.standing, c.requires.r_lt_rows.1)

pub returns : goal.returns
returns c = search (fold_stay, sized)
