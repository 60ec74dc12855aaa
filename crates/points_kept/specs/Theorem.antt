-- PRESOLVE KEEPS EXACTLY THE POINTS of a model of whole numbers alone, with dual fixing off, where no coefficient is rewritten: `points_kept`. It is one case of
-- a theorem up to dominance, `kept_up_to`; best_kept has two others, for dual fixing on or off.
use Rattle.std.specs.Prelude.{◌≡◌}
use Rattle.points_kept.specs.Dominance.{Dominance}

-- with dual fixing off a point is dominated by itself alone, so none is lost
abbrev pub Itself : Dominance
Itself y x = y ≡ x
