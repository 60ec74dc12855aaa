-- `limits` reads the row's four floats.
use Rattle.readers.specs.Limits.{limits_read}
use Rattle.readers.proofs.rows.limits.Goals as goal

pub returns : goal.returns
returns c = search limits_read
