-- `rewrite_term`: the rewrite is a function of numbers.
use Rattle.coeffs.specs.Eligible.{term_rewrite}
use Rattle.coeffs.proofs.tighten.rewrite_term.Goals as goal

pub returns : goal.returns
returns c = term_rewrite _ _ _ c.args.x.limits _ _ c.is_binary.ensures c.rewrite_of.ensures
