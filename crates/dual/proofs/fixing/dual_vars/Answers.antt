-- `dual_vars`: what is left of the definition from v on gives the whole.
use Rattle.dual.specs.Fixing.{vars_start, vars_turn_own, vars_end}
use borrow.Author.Rules.{rules}
use Rattle.dual.proofs.fixing.dual_vars.Goals as goal

pub loop-v-init : goal.loop-v-init
loop-v-init c = search vars_start

pub loop-v-preserved : goal.loop-v-preserved
loop-v-preserved c = (search rules, search rules, search vars_turn_own)

pub returns : goal.returns
returns c = search vars_end
