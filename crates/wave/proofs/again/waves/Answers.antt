-- `waves` is waves, as many as are left.
use native.Mathlib.Omega.{arith}
use Rattle.std.proofs.Common.{sym}
use Rattle.view.specs.Steps.{stop_is}
use Rattle.wave.specs.Begin.{waves_is}
use Rattle.wave.specs.Again.{waving_start, waving_ready, waving_small, waving_idle, waving_end, waving_stop, waving_turn}
use borrow.Author.Rules.{rules}
use Rattle.wave.proofs.again.waves.Goals as goal

pub loop-p-init : goal.loop-p-init
loop-p-init c = search waving_start

pub returns-then-get-eq0 : goal.returns-then-get-eq0
returns-then-get-eq0 c = search waving_idle

pub primal_wave-requires : goal.primal_wave-requires
primal_wave-requires c = record { holds_f = search (waving_small, rules); ready = waving_ready c.requires.ready c.loop-p.invariant.2 }

pub returns-in_err-primal_wave : goal.returns-in_err-primal_wave
returns-in_err-primal_wave c = waves_is (waving_stop c.loop-p.invariant.2 c.loop-p-test.true c.get.ensures c.if-get-eq0.false
    (waves_is c.primal_wave.ensures c.in_err-primal_wave.was))
    (sym (stop_is c.from_residual.result c.from_residual.ensures.0))

pub loop-p-preserved : goal.loop-p-preserved
loop-p-preserved c = (
  omega arith,
  omega arith,
  waving_turn c.loop-p.invariant.2 c.loop-p-test.true c.get.ensures c.if-get-eq0.false
      (waves_is c.primal_wave.ensures c.in_ok-primal_wave.was),
)

pub returns : goal.returns
returns c = search waving_end
