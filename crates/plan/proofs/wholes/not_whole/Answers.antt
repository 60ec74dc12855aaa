-- `not_whole`: the two tests of the variable, and its distance from the nearest whole number.
use Rattle.std.proofs.Math.Path.{refl}
use Rattle.definition.specs.Model.{is_int, is_mip, is_int_domain}
use Rattle.plan.specs.Plan.{not_whole}
use Rattle.plan.proofs.wholes.not_whole.Goals as goal

pub returns : goal.returns
unfolding not_whole is_int is_mip is_int_domain
returns c = rw (c.outside.ensures, c.nearest-whole.ensures) refl
