-- `has_binary`: whether v is one of row r's rewritten binaries.
use native.Mathlib.Omega.{arith}
use mathlib.Core.Path.{refl}
use Rattle.space.specs.Blocks.{binary_length}
use Rattle.folds.specs.FoldStep.{spans_long}
use Rattle.folds.specs.Besides.{binaries_in, has_binary_end}
use Rattle.space.specs.Store.{numbers_of}
use borrow.Author.Rules.{rules}
use Rattle.folds.proofs.besides.has_binary.Goals as goal

pub bounds-starts-r : goal.bounds-starts-r
bounds-starts-r c = omega (arith, c.requires.r_lt_rows.0, spans_long c.requires.r_lt_rows.0 c.requires.standing_n.standing)

pub has_among-requires : goal.has_among-requires
has_among-requires c = (omega (arith, binaries_in c.requires.r_lt_rows.0 c.requires.standing_n.standing, c.get.ensures), search rules)

pub returns : goal.returns
returns c = has_binary_end (numbers_of c.args.cx c.args.numbers.now) c.args.v c.requires.r_lt_rows.0
    (binary_length _ _ c.requires.r_lt_rows.1) refl c.get.ensures c.has_among.ensures
