-- `written_coeff`: the walk goes on while the rest of the row has the variable.
use Rattle.readers.specs.WrittenCoeffs.{SeekingWritten}
use Rattle.readers.proofs.coeffs.written_coeff.Given as goal

abbrev pub invariant-loop-i : goal.invariant-loop-i
invariant-loop-i l = SeekingWritten l.index l.coeff l.start l.v l.i
