-- `fix` is fix; dual fixing's flags stay.
use Rattle.space.specs.Blocks.{fixed_length}
use Rattle.bounds.specs.Flags.{flags_fixed}
use Rattle.view.specs.Acts.{ready_next, ready_numbers}
use Rattle.view.specs.Bounds.{fixed_acts, fixed_keeps, fix_end}
use borrow.Author.Rules.{rules}
use Rattle.bounds.proofs.bounds.fix.Goals as goal

pub mark_var-requires : goal.mark_var-requires
mark_var-requires c = record {
  v_lt_vars = search rules;
  ready_n = ready_next (ready_numbers c.requires.ready) (fixed_acts (fixed_length _ _ c.requires.v_lt_vars.2) c.count.ensures)
      fixed_keeps;
}

pub returns : goal.returns
returns c = record {
  acts = fix_end _ _ (fixed_length _ _ c.requires.v_lt_vars.2) c.put.ensures c.put-2.ensures c.put-3.ensures
      c.put-4.ensures c.count.ensures c.mark_var.ensures.acts_n;
  flags_kept = flags_fixed _ c.count.ensures c.mark_var.ensures.flags_kept;
}
