-- `rewrite_loop`: what is left of the definition from term i on gives the whole.
use Rattle.std.specs.Prelude.{false}
use Rattle.formulas.specs.Rewriting.{maybe_form}
use Rattle.space.specs.Store.{floats_of, numbers_of}
use Rattle.tighten.specs.Tightening.{Tightening}
use Rattle.tighten.specs.Carried.{begun}
use Rattle.tighten.specs.Loop.{AtTerm}
use Rattle.tighten.proofs.rewriting.rewrite_loop.Given as goal

abbrev pub invariant-loop-i : goal.invariant-loop-i
invariant-loop-i l = AtTerm (Tightening l.lists) l.cx (maybe_form l.x.form) l.x.room l.r l.len l.i (begun l.x.act false) (begun l.act l.changed) (floats_of l.cx l.initial.floats)
    (numbers_of l.cx l.initial.numbers) (floats_of l.cx l.floats) (numbers_of l.cx l.numbers)
