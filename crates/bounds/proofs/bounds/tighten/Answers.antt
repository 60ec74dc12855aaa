-- `tighten` is tighten_upper from above and tighten_lower from below.
use mathlib.Core.Path.{sym, ◌∙◌}
use Rattle.bounds.specs.Moves.{skip, from_above, from_below, upper_whole, upper_other, lower_whole, lower_other}
use Rattle.bounds.proofs.bounds.tighten.Goals as goal

pub returns-then-not-is_finite : goal.returns-then-not-is_finite
returns-then-not-is_finite c = skip _ _ _ _ (sym c.is_finite.ensures ∙ c.if-not-is_finite.true)

pub returns-then-int : goal.returns-then-int
returns-then-int c = from_above _ _ _ c.if-above.true
    (upper_whole _ _ _ (sym c.is_finite.ensures ∙ c.if-not-is_finite.false) c.is_int-int.ensures c.if-int.true c.floor.ensures c.upper_int.ensures)

pub returns-then-above : goal.returns-then-above
returns-then-above c = from_above _ _ _ c.if-above.true
    (upper_other _ _ _ (sym c.is_finite.ensures ∙ c.if-not-is_finite.false) c.is_int-int.ensures c.if-int.false c.upper_real.ensures)

pub returns-then-int-2 : goal.returns-then-int-2
returns-then-int-2 c = from_below _ _ _ c.if-above.false
    (lower_whole _ _ _ (sym c.is_finite.ensures ∙ c.if-not-is_finite.false) c.is_int-int.ensures c.if-int-2.true c.ceil.ensures c.lower_int.ensures)

pub returns : goal.returns
returns c = from_below _ _ _ c.if-above.false
    (lower_other _ _ _ (sym c.is_finite.ensures ∙ c.if-not-is_finite.false) c.is_int-int.ensures c.if-int-2.false c.lower_real.ensures)
