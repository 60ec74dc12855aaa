-- `too_short` computes its definition.
use mathlib.Core.Path.{refl}
use borrow.Author.Rules.{rules}
use Rattle.definition.specs.Refusal.{floats_needed, numbers_needed, adjacency_needed, too_short}
use Rattle.refuse.proofs.rows.too_short.Goals as goal

pub overflow_add-result-6 : goal.overflow_add-result-6
unfolding too_short floats_needed numbers_needed adjacency_needed
overflow_add-result-6 c = search rules

pub overflow_add-result-7 : goal.overflow_add-result-7
unfolding too_short floats_needed numbers_needed adjacency_needed
overflow_add-result-7 c = search rules

pub returns : goal.returns
unfolding too_short floats_needed numbers_needed adjacency_needed
returns c = refl
