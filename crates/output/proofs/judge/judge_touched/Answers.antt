-- `judge_touched`, by whether the bound is finite.
use mathlib.Core.Path.{refl, sym, ◌∙◌}
use Rattle.space.specs.Blocks.{fate_length, bound_length}
use Rattle.readers.specs.Trivial.{written_gives}
use Rattle.emit.specs.Judging.{judge_infinite, judge_finite}
use Rattle.output.proofs.judge.judge_touched.Goals as goal

pub returns-then-is_finite : goal.returns-then-is_finite
returns-then-is_finite c = judge_finite _ _ _ _ _ (fate_length _ _ c.requires.r_lt_rows.2) c.requires.r_lt_rows.0 written_gives c.requires.tells_trivial refl refl c.requires.r_lt_rows.3 refl
    c.requires.r_lt_rows.4 c.rewritten_bound-b.ensures (bound_length _ _ c.requires.r_lt_rows.1) (sym c.is_finite.ensures
    ∙ c.if-is_finite.true) c.put.ensures c.put_fate.ensures

pub returns : goal.returns
returns c = judge_infinite _ _ _ _ _ (fate_length _ _ c.requires.r_lt_rows.2) c.requires.r_lt_rows.0 written_gives c.requires.tells_trivial refl refl c.requires.r_lt_rows.3 refl
    c.requires.r_lt_rows.4 c.rewritten_bound-b.ensures
    (sym c.is_finite.ensures ∙ c.if-is_finite.false)
    c.put_fate-2.ensures
