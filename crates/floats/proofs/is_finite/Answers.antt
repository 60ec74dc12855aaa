-- The library's test says the same.
use mathlib.Core.Path.{◌≡◌, refl, ◌∙◌}
use lib.Ieee.{Float, nan, inf, fin}
use Rattle.std.specs.Float.{float_is_finite}
use Rattle.floats.specs.Num.{is_finite}
use Rattle.floats.proofs.is_finite.Goals as goal

is : (x : Float) → float_is_finite x ≡ is_finite x
unfolding float_is_finite is_finite
is nan = refl
is (inf s) = refl
is (fin s m e) = refl

pub returns : goal.returns
returns c = c.is_finite.ensures.value ∙ is c.args.x
