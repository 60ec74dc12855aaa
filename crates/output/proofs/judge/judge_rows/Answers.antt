-- `judge_rows`: before row r the rows below it are judged.
use borrow.Author.Rules.{rules}
use mathlib.Core.Path.{refl}
use Rattle.emit.specs.Judging.{judged_start, judged_turn, judged_ready}
use Rattle.output.specs.Judged.{judged-end}
use Rattle.output.proofs.judge.judge_rows.Goals as goal

pub loop-r-init : goal.loop-r-init
loop-r-init c = (refl, refl, judged_start)

pub judge_row-requires : goal.judge_row-requires
judge_row-requires c = search (judged_ready, rules)

pub loop-r-preserved : goal.loop-r-preserved
loop-r-preserved c = search (judged_turn, rules)

pub returns : goal.returns
returns c = search (judged-end, rules)
