-- `primal_wave` is wave.
use native.Mathlib.Omega.{arith}
use Rattle.space.specs.Blocks.{queued_length, passes_length}
use Rattle.wave.specs.Begin.{queued_fits, passes_small, ready_wave, wave_tries}
use Rattle.wave.proofs.primal.primal_wave.Goals as goal

pub copy_queue-requires : goal.copy_queue-requires
copy_queue-requires c = search queued_fits

pub overflow_add-p : goal.overflow_add-p
overflow_add-p c = omega (
  arith,
  passes_small c.copy_queue.ensures c.put.ensures c.get-p.ensures
      c.requires.holds_f.2,
)

pub wave_rows-requires : goal.wave_rows-requires
wave_rows-requires c = record {
  holds_f = (c.requires.holds_f.0, omega arith);
  ready_wave = ready_wave (queued_length _ _ c.requires.holds_f.1) (passes_length _ _ c.requires.holds_f.1) c.get-n.ensures
      c.copy_queue.ensures c.put.ensures
      c.get-p.ensures c.put-2.ensures c.requires.ready;
}

pub returns : goal.returns
returns c = wave_tries (queued_length _ _ c.requires.holds_f.1) (passes_length _ _ c.requires.holds_f.1)
    c.get-n.ensures
    c.copy_queue.ensures
    c.put.ensures
    c.get-p.ensures
    c.put-2.ensures
    c.wave_rows.ensures
