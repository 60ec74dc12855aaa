-- `rewrite_loop`: what is left of the definition from term i on gives the whole.
use native.Mathlib.Omega.{arith}
use mathlib.Core.Path.{refl}
use Rattle.tighten.specs.Carried.{not_some, carries_some, carries_none, carries_left}
use Rattle.tighten.specs.Step.{carries_before}
use Rattle.tighten.specs.Loop.{at_start, at_next, at_back, at_end}
use borrow.Author.Rules.{rules}
use Rattle.tighten.proofs.rewriting.rewrite_loop.Goals as goal

pub loop-i-init : goal.loop-i-init
loop-i-init c = at_start _ _ _ c.get-len.ensures c.requires.r_lt_rows.3 refl c.requires.ready

pub rewrite_step-requires : goal.rewrite_step-requires
rewrite_step-requires c = record { r_lt_rows = (search rules, omega arith, omega arith, search rules, search rules); ready = search rules }

pub returns-in_default : goal.returns-in_default
returns-in_default c = at_back c.requires.r_lt_rows.0 c.loop-i.invariant (omega arith)
    (carries_left _ (carries_before _ _ _ _ _ (carries_none _ (not_some _ c.in_default.not-Some) c.rewrite_step.ensures))) refl

pub loop-i-preserved : goal.loop-i-preserved
loop-i-preserved c = at_next c.requires.r_lt_rows.0 c.loop-i.invariant (omega arith) (carries_before _ _ _ _ _ (carries_some _ c.in-Some.is c.rewrite_step.ensures)) refl

pub returns : goal.returns
returns c = at_end c.requires.r_lt_rows.0 c.loop-i.invariant (omega arith)
