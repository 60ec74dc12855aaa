-- The rows that are left give the whole; the terms so far stay within the limit.
use Rattle.std.proofs.Common.{◌≡◌, ◌-◌, ◌≤◌}
use Rattle.model_file.specs.Format.{rows}
use Rattle.model_file.specs.Skips.{map_got, after}
use Rattle.model_file.proofs.scan.skip_rows.Given as goal

abbrev pub invariant-loop : goal.invariant-loop
invariant-loop l = (l.terms ≤ 512) × (map_got (after 0) (rows l.n 0 l.initial.reader.rest.now) ≡ map_got (after l.terms) (rows (l.n - l.counter) l.terms l.reader.rest.now))
