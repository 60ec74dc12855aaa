-- `put_bounds` stores to the four blocks of bounds.
use Rattle.std.proofs.Common.{ap, ◌∙◌}
use Rattle.space.specs.Store.{put_whi, put_elo, put_ehi}
use Rattle.begin.proofs.rounding.put_bounds.Goals as goal

pub returns : goal.returns
returns c = c.put-4.ensures ∙ ap (put_ehi _ _) (c.put-3.ensures ∙ ap (put_elo _ _) (c.put-2.ensures ∙ ap (put_whi _ _) c.put.ensures))
