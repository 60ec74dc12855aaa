-- `dual_fix`: the flags, and then the variables.
use borrow.Author.Rules.{rules}
use Rattle.view.specs.Steps.{ready_under}
use Rattle.dual.specs.Flags.{ready_flags}
use Rattle.dual.specs.Fixing.{dual_spans, dual_fixing, dual_end}
use Rattle.dual.proofs.fixing.dual_fix.Goals as goal

pub block_rows-requires : goal.block_rows-requires
block_rows-requires c = search (ready_flags, ready_under, dual_spans, rules)

pub dual_vars-requires : goal.dual_vars-requires
dual_vars-requires c = record {
  holds_f = search rules;
  ready = ready_flags c.block_rows.ensures
      (ready_flags c.clear_flags.ensures (ready_under dual_fixing c.requires.ready));
}

pub returns : goal.returns
returns c = search dual_end
