-- The parts that are left give the whole.
use Rattle.std.proofs.Common.{◌≡◌, ◌-◌}
use Rattle.model_file.specs.Format.{many}
use Rattle.model_file.specs.Skips.{skipped}
use Rattle.model_file.proofs.scan.skip.Given as goal

abbrev pub invariant-loop : goal.invariant-loop
invariant-loop g l = skipped (many g.P.Part.parser l.n l.initial.reader.rest.now) ≡ skipped (many g.P.Part.parser (l.n - l.counter) l.reader.rest.now)
