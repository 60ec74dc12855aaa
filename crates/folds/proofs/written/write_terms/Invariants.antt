-- `write_terms`: the input's terms from place a up to e, all live.
use Rattle.space.specs.Store.{floats_of, numbers_of}
use Rattle.folds.specs.Written.{TermsCopied}
use Rattle.folds.proofs.written.write_terms.Given as goal

abbrev pub invariant-loop-i : goal.invariant-loop-i
invariant-loop-i l = TermsCopied l.rows.index.now l.rows.coeff.now l.a l.i (floats_of l.cx l.initial.floats) (numbers_of l.cx l.initial.numbers) (floats_of l.cx l.floats) (numbers_of l.cx l.numbers)
