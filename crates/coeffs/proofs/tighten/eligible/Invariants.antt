-- `eligible`: what is left of the definition from the term looked at on gives the whole.
use Rattle.formulas.specs.Rewriting.{maybe_form}
use Rattle.space.specs.Store.{floats_of, numbers_of}
use Rattle.coeffs.specs.Eligible.{Counting}
use Rattle.coeffs.proofs.tighten.eligible.Given as goal

abbrev pub invariant-loop-i : goal.invariant-loop-i
invariant-loop-i l = Counting l.domain l.starts l.cx (floats_of l.cx l.floats) (numbers_of l.cx l.numbers) (maybe_form l.x.form) l.x.room l.x.act l.r l.i l.n
