-- `written_coeff`: the walk goes on while the rest of the row has the variable.
use native.Mathlib.Omega.{arith}
use Rattle.readers.specs.WrittenCoeffs.{written_start, written_in, written_turn, written_end}
use Rattle.readers.proofs.coeffs.written_coeff.Goals as goal

pub loop-i-init : goal.loop-i-init
loop-i-init c = written_start c.requires

pub returns-then-index-i : goal.returns-then-index-i
returns-then-index-i c = search written_end

pub bounds-coeff-i : goal.bounds-coeff-i
bounds-coeff-i c = omega (arith, (written_in c.loop-i.invariant).1)

pub loop-i-preserved : goal.loop-i-preserved
loop-i-preserved c = search written_turn

pub returns : goal.returns
returns c = absurd (omega (arith, (written_in c.loop-i.invariant).0, c.loop-i-test.false))
