-- `rounds`: what is left of the definition after n rounds gives the whole.
use native.Mathlib.Omega.{arith}
use Rattle.std.proofs.Common.{sym}
use Rattle.view.specs.Steps.{ready_under, stop_is}
use Rattle.wave.specs.Begin.{waves_is}
use Rattle.rounds.specs.After.{running_known}
use Rattle.rounds.specs.Rounding.{waves_under, rounding_start, rounding_ready, rounding_waved}
use Rattle.rounds.specs.Rounding.{rounding_end, rounding_stop, rounding_turn, rounding_done}
use borrow.Author.Rules.{rules}
use Rattle.rounds.proofs.fixpoint.rounds.Goals as goal

pub loop-n-init : goal.loop-n-init
loop-n-init c = search rounding_start

pub waves-requires : goal.waves-requires
waves-requires c = record { holds_f = search rules; ready = ready_under running_known (rounding_ready c.requires.ready c.loop-n.invariant.2) }

pub returns-in_err-waves : goal.returns-in_err-waves
returns-in_err-waves c = waves_is (rounding_stop c.loop-n.invariant.2 c.loop-n-test.true
    (waves_under running_known (waves_is c.waves.ensures c.in_err-waves.was)))
    (sym (stop_is c.from_residual.result c.from_residual.ensures.0))

pub after_waves-requires : goal.after_waves-requires
after_waves-requires c = record {
  holds_f = (
    omega (arith, c.waves.auto, c.loop-n.invariant.0, c.requires.holds_f.0),
    omega (arith, c.waves.auto, c.loop-n.invariant.1, c.requires.holds_f.1),
  );
  ready = rounding_waved c.requires.ready c.loop-n.invariant.2
      (waves_under running_known (waves_is c.waves.ensures c.in_ok-waves.was));
}

pub loop-n-preserved : goal.loop-n-preserved
loop-n-preserved c = (
  omega arith,
  omega arith,
  rounding_turn c.loop-n.invariant.2 c.loop-n-test.true
      (waves_under running_known (waves_is c.waves.ensures c.in_ok-waves.was))
      c.after_waves.ensures c.if-not-after_waves.false,
)

pub returns-then-not-after_waves : goal.returns-then-not-after_waves
returns-then-not-after_waves c = rounding_done c.loop-n.invariant.2 c.loop-n-test.true
    (waves_under running_known (waves_is c.waves.ensures c.in_ok-waves.was))
    c.after_waves.ensures c.if-not-after_waves.true

pub returns : goal.returns
returns c = search rounding_end
