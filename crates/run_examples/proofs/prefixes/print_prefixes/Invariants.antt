-- The last line stays a part of its buffer.
use Rattle.standard_input.specs.Counts.{IsPrefixLen}
use Rattle.run_examples.proofs.prefixes.print_prefixes.Given as goal

abbrev pub invariant-loop-n : goal.invariant-loop-n
invariant-loop-n g l = IsPrefixLen l.j l.last
