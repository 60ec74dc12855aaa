-- `ceil` is floor's mirror, by a difference.
use Rattle.std.specs.Prelude.{T}
use Rattle.std.proofs.Common.{sym, ap, ◌∙◌, subst}
use Rattle.floats.specs.Num.{◌⊖◌, 0f}
use Rattle.floats.proofs.Meaning.{ceil_code}
use Rattle.floats.proofs.ceil.Goals as goal

pub returns : goal.returns
returns c = ap (λ z. 0f ⊖ z) c.floor.ensures ∙ ceil_code c.args.x (subst T (sym c.well_formed.0.1) tt)
