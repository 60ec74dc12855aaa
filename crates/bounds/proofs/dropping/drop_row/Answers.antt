-- `drop_row` is dropRow, of the row that stands in the state.
use Rattle.space.specs.Blocks.{alive_length, dropped_length}
use Rattle.bounds.specs.Drop.{drop_acts}
use Rattle.bounds.proofs.dropping.drop_row.Goals as goal

pub returns : goal.returns
returns c = drop_acts _ c.requires.0 (alive_length _ _ c.requires.1) (dropped_length _ _ c.requires.1)
    c.put.ensures c.count.ensures
