-- `rewritten`, by whether the row is given back.
use native.Mathlib.Omega.{arith}
use Rattle.space.specs.Blocks.{touched_length, rewrote_length}
use Rattle.view.specs.Acts.{ready_any, ready_numbers}
use Rattle.tighten.specs.Rewritten.{queued_standing, rewritten_back, rewritten_on}
use borrow.Author.Rules.{rules}
use Rattle.tighten.proofs.rewriting.rewritten.Goals as goal

pub requeue-requires : goal.requeue-requires
requeue-requires c = search (ready_any, ready_numbers)

pub hold_rewrites-requires : goal.hold_rewrites-requires
hold_rewrites-requires c = search (queued_standing, rules)

pub returns-then-hold_rewrites : goal.returns-then-hold_rewrites
returns-then-hold_rewrites c = λ old. rewritten_back _ c.requires.r_lt_rows.0 c.requires.r_lt_rows.3 c.requeue.ensures.acts_n c.hold_rewrites.ensures
    old c.args.act c.if-hold_rewrites.true

pub returns : goal.returns
returns c = λ old. rewritten_on _ c.requires.r_lt_rows.0 c.requires.r_lt_rows.3 c.requeue.ensures.acts_n c.hold_rewrites.ensures old c.args.act
    c.if-hold_rewrites.false (touched_length _ _ (omega arith)) c.put.ensures
    (rewrote_length _ _ (omega arith)) c.count.ensures
