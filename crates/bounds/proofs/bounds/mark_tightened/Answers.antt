-- `mark_tightened` is mark_tightened.
use Rattle.space.specs.Blocks.{tightened_length}
use Rattle.view.specs.Acts.{ready_next}
use Rattle.view.specs.Bounds.{tightened_acts, tightened_keeps, tighten_end}
use borrow.Author.Rules.{rules}
use Rattle.bounds.proofs.bounds.mark_tightened.Goals as goal

pub mark_var-requires : goal.mark_var-requires
mark_var-requires c = record { v_lt_vars = search rules; ready_n = ready_next c.requires.ready_n (tightened_acts (tightened_length _ _ c.requires.v_lt_vars.1) c.count.ensures) tightened_keeps }

pub returns : goal.returns
returns c = tighten_end _ (tightened_length _ _ c.requires.v_lt_vars.1)
    c.count.ensures c.mark_var.ensures.acts_n
