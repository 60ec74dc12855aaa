-- `write_results`: the rows are judged, and the lists written by their fates.
use native.Mathlib.Omega.{arith}
use borrow.Author.Rules.{rules}
use mathlib.Core.Path.{◌∙◌}
use Rattle.output.specs.Answered.{lowers, uppers, sides, spanned-judged, indexed-judged, writes-out}
use Rattle.output.proofs.lists.write_results.Goals as goal

pub write_lists-requires : goal.write_lists-requires
write_lists-requires c = record {
  holds_f = (
    omega (arith, c.judge_rows.auto.floats, c.requires.holds_f.0),
    omega (arith, c.judge_rows.auto.numbers, c.requires.holds_f.1),
    lowers c.requires.ready,
    uppers c.requires.ready,
    sides c.requires.ready,
  );
  room = c.requires.room;
  spanned = spanned-judged c.judge_rows.ensures c.requires.ready;
  indexed = indexed-judged c.judge_rows.ensures c.requires.ready;
}

pub shape_of-floats : goal.shape_of-floats
shape_of-floats c = c.judge_rows.auto.floats

pub shape_of-numbers : goal.shape_of-numbers
shape_of-numbers c = c.write_lists.auto.numbers ∙ c.judge_rows.auto.numbers

pub returns : goal.returns
returns c = record { same = search rules; writes = writes-out c.judge_rows.ensures c.write_lists.ensures.lists }
