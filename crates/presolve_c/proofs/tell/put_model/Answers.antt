-- `put_model`: the counts, and four behind them.
use mathlib.Core.Path.{◌∙◌}
use Rattle.presolve_c.specs.Steps.{put_nine, flag_is}
use Rattle.presolve_c.proofs.tell.put_model.Goals as goal

pub returns : goal.returns
returns c = put_nine _ _ _ _ _ c.args.answer.now (c.from.ensures ∙ flag_is c.args.x.flag) c.requires c.put_counts.ensures
