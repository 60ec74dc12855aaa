-- The library's test says the same.
use mathlib.Core.Path.{◌≡◌, refl, ◌∙◌}
use lib.Ieee.{Float, nan, inf, fin}
use Rattle.std.specs.Float.{float_is_infinite}
use Rattle.floats.specs.Num.{is_infinite}
use Rattle.floats.proofs.is_infinite.Goals as goal

is : (x : Float) → float_is_infinite x ≡ is_infinite x
unfolding float_is_infinite is_infinite
is nan = refl
is (inf s) = refl
is (fin s m e) = refl

pub returns : goal.returns
returns c = c.is_infinite.ensures.value ∙ is c.args.x
