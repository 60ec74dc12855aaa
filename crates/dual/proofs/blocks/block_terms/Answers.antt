-- `block_terms`: after i terms, the flags are those of the first i.
use mathlib.Core.Path.{refl}
use Rattle.dual.specs.Barring.{bar_start, bar_var, bar_turn, bar_end}
use borrow.Author.Rules.{rules}
use Rattle.dual.proofs.blocks.block_terms.Goals as goal

pub loop-i-init : goal.loop-i-init
loop-i-init c = (refl, bar_start _ _ _ _ _)

pub block_term-requires : goal.block_term-requires
block_term-requires c = search (bar_var, rules)

pub loop-i-preserved : goal.loop-i-preserved
loop-i-preserved c = (search rules, search bar_turn)

pub returns : goal.returns
returns c = search bar_end
