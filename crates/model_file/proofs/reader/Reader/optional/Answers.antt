-- A float that is announced is read; else the default stands.
use Rattle.std.proofs.Common.{◌∙◌}
use Rattle.model_file.specs.Places.{optional_present, optional_absent}
use Rattle.model_file.proofs.reader.Reader.optional.Goals as goal

pub returns-then-present : goal.returns-then-present
returns-then-present c = optional_present _ _ c.if-present.true ∙ c.float.ensures

pub returns-else-present : goal.returns-else-present
returns-else-present c = optional_absent _ _ c.if-present.false
