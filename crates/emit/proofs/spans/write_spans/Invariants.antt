-- `write_spans` is from and upto of emitted, at the front of the slices.
use Rattle.std.proofs.Common.{◌≡◌}
use Rattle.space.specs.Store.{numbers_of}
use Rattle.emit.specs.Fates.{out_at}
use Rattle.emit.specs.Filling.{Filled}
use Rattle.emit.specs.Spans.{terms_to, start_at, end_at}
use Rattle.emit.proofs.spans.write_spans.Given as goal

abbrev pub invariant-loop-r : goal.invariant-loop-r
invariant-loop-r l = (l.before ≡ terms_to (numbers_of l.cx l.numbers) l.r)
    × Filled (out_at (numbers_of l.cx l.numbers).fate) (start_at (numbers_of l.cx l.numbers) l.starts) l.r l.initial.from l.from l.n
    × Filled (out_at (numbers_of l.cx l.numbers).fate) (end_at (numbers_of l.cx l.numbers) l.starts) l.r l.initial.upto l.upto l.n
