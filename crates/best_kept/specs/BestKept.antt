-- PRESOLVE KEEPS THE LEAST OBJECTIVE of a model of whole numbers alone, dual fixing on or off, where no coefficient is rewritten: `best_kept`. Each point of the
-- model is dominated by one of the reduced model that is no dearer, whatever the number of fixings in a pass, of passes, of rounds and of queued rows left over.
use Rattle.floats.specs.Zed.{◌⊑◌}
use Rattle.definition.specs.Model.{Model}
use Rattle.best_kept.specs.Objective.{cost}
use Rattle.points_kept.specs.Dominance.{Dominance}

-- ---- any point for any: that there is one
abbrev pub Any : Dominance
Any y x = Unit {0}

-- ---- y is no dearer than x
abbrev pub NoDearer : Model → Dominance
NoDearer M y x = cost M y ⊑ cost M x
