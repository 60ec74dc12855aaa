-- `wave_rows` is wave_rows, over the n rows that stand in the block of the wave's rows.
use native.Mathlib.Omega.{arith}
use mathlib.Core.Path.{refl, sym}
use Rattle.space.specs.Blocks.{wave_length}
use Rattle.view.specs.Steps.{stop_is}
use Rattle.wave.specs.Row.{row_is}
use Rattle.wave.specs.Rows.{passing_start, passing_ready, passing_row, passing_turn, passing_stop, passing_end, wave_is}
use borrow.Author.Rules.{rules}
use Rattle.wave.proofs.primal.wave_rows.Goals as goal

pub loop-i-init : goal.loop-i-init
loop-i-init c = (refl, refl, passing_start)

pub wave_row-requires : goal.wave_row-requires
wave_row-requires c = record {
  r_lt_rows = search (passing_row, wave_length, rules);
  ready_row = passing_ready c.requires.ready_wave (wave_length _ _ c.requires.holds_f.1) c.loop-i.invariant.2
      c.loop-i-test.true;
}

pub returns-in_err-wave_row : goal.returns-in_err-wave_row
returns-in_err-wave_row c = wave_is (passing_stop (wave_length _ _ c.requires.holds_f.1) c.requires.ready_wave.fits c.loop-i.invariant.2
    (passing_row c.requires.ready_wave (wave_length _ _ c.requires.holds_f.1) c.loop-i.invariant.2 c.loop-i-test.true c.get-r.ensures)
    c.loop-i-test.true c.get-r.ensures (row_is c.wave_row.ensures c.in_err-wave_row.was))
    (sym (stop_is c.from_residual.result c.from_residual.ensures.0))

pub loop-i-preserved : goal.loop-i-preserved
loop-i-preserved c = (
  omega arith,
  omega arith,
  passing_turn (wave_length _ _ c.requires.holds_f.1) c.requires.ready_wave.fits c.loop-i.invariant.2
      (passing_row c.requires.ready_wave (wave_length _ _ c.requires.holds_f.1) c.loop-i.invariant.2 c.loop-i-test.true c.get-r.ensures)
      c.loop-i-test.true c.get-r.ensures (row_is c.wave_row.ensures c.in_ok-wave_row.was),
)

pub returns : goal.returns
returns c = search (passing_end, wave_length)
