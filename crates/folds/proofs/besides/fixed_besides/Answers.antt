-- `fixed_besides` is fixed_besides, of the row's own binding.
use Rattle.std.proofs.Common.{◌≡◌, ◌+◌, ◌-◌, get_or, arith, refl, ap}
use Rattle.space.specs.Store.{numbers_of}
use Rattle.folds.specs.Sized.{sized}
use Rattle.folds.specs.FoldStep.{stop_in, folds_in}
use Rattle.folds.specs.Besides.{binaries_in, folded_in, summed_more, besides_end}
use borrow.Author.Rules.{rules}
use Rattle.folds.proofs.besides.fixed_besides.Goals as goal

pub overflow_sub-i-start : goal.overflow_sub-i-start
overflow_sub-i-start c = omega (arith, c.get-n.ensures, folds_in c.requires.r_lt_rows.0 c.requires.standing)

pub fixed_term-sum-requires-clause-k_bound : goal.fixed_term-sum-requires-clause-k_bound
fixed_term-sum-requires-clause-k_bound c = (
  omega (arith, binaries_in c.requires.r_lt_rows.0 c.requires.standing, c.get-k.ensures),
  omega (arith, stop_in c.requires.r_lt_rows.0 c.requires.standing),
  search rules,
  search rules,
)

pub fixed_term-sum-requires-clause-i_bound : goal.fixed_term-sum-requires-clause-i_bound
fixed_term-sum-requires-clause-i_bound c =
    let e = get_or c.args.starts.now (c.args.r + 1) 0 in
    let i = c.loop-i.i in
    let x : i - 1 ≡ e - (e - i + 1) = omega arith in
    folded_in c.requires.r_lt_rows.0 c.requires.standing (e - i) (omega arith) (ap (λ k. get_or (numbers_of c.args.cx c.args.numbers.now).vars k 0) x)

pub loop-i-preserved : goal.loop-i-preserved
loop-i-preserved c =
    let e = get_or c.args.starts.now (c.args.r + 1) 0 in
    let i = c.loop-i.i in
    let x : e - i + 1 ≡ e - (i - 1) = omega arith in (
      omega arith,
      rw (← x) (summed_more _ _ _ c.loop-i.invariant.1 (omega arith) refl (omega arith) c.fixed_term-sum.ensures),
    )

pub returns : goal.returns
returns c = let p = folds_in c.requires.r_lt_rows.0 c.requires.standing in search (besides_end, sized, rules)
