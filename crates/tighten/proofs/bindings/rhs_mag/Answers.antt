-- `rhs_mag`: the shift is read, and the rest is a formula.
use mathlib.Core.Path.{ap, ◌∙◌}
use lib.Ieee.{Float}
use Rattle.floats.specs.Num.{◌⊕◌, abs}
use Rattle.tighten.proofs.bindings.rhs_mag.Goals as goal

pub returns : goal.returns
returns c = c.rhs_mag.ensures ∙ ap (λ (x : Float). abs (c.args.b ⊕ x)) c.get.ensures
