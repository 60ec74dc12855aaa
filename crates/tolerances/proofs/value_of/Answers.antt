-- `value_of`: a list reads no number past its end.
use Rattle.std.proofs.Common.{◌≡◌, refl, ap, ◌∙◌, arith}
use Rattle.std.specs.Prelude.{Option, None, Some}
use Rattle.std.specs.Option.{unwrap_or, option_copied, option_map}
use denote.Ref.{Bor}
use lib.Ieee.{Float, nan, of_bits}
use Rattle.tolerances.proofs.value_of.Goals as goal

copied : (o : Option (Bor Float)) (d : Float) → unwrap_or (option_copied o) d ≡ unwrap_or (option_map (λ (x : Bor Float). x.now) o) d
copied None d = refl
copied (Some x) d = refl

pub returns : goal.returns
unfolding of_bits
returns c = c.unwrap_or.ensures ∙ ap (λ (o : Option Float). unwrap_or o nan) c.copied.ensures
    ∙ copied c.get.result nan ∙ c.get.ensures.lookup.4 (omega arith) nan
