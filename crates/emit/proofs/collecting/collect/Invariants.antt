-- `collect` writes the values of the rows whose fate passes the test.
use Rattle.std.proofs.Common.{ℕ, ◌≤◌, Bool}
use Rattle.space.specs.Store.{numbers_of}
use Rattle.emit.specs.Filling.{Filled}
use Rattle.emit.specs.FateNumbers.{WritesFates}
use Rattle.emit.proofs.collecting.collect.Given as goal

abbrev pub invariant-loop-r : goal.invariant-loop-r
invariant-loop-r g l = (l.n ≤ l.r)
    × ((p : ℕ → Bool) (f : ℕ → _) → WritesFates (goal.P-post g l.test) (goal.V-post g l.value) (numbers_of l.cx l.numbers).fate l.cx.rows p f → Filled p f l.r l.initial.out l.out l.n)
