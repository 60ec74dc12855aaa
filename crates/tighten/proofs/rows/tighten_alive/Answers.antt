-- `tighten_alive`, by the row's form.
use native.Mathlib.Omega.{arith}
use mathlib.Core.Path.{ap}
use Rattle.formulas.specs.Rewriting.{maybe_form}
use Rattle.tighten.specs.Rows.{looked_ready, looked_live, alive_form, alive_none}
use borrow.Author.Rules.{rules}
use Rattle.tighten.proofs.rows.tighten_alive.Goals as goal

pub tighten_form-requires : goal.tighten_form-requires
tighten_form-requires c = record {
  r_lt_rows = (search rules, search rules, omega arith, looked_live _ c.put.ensures c.requires.ready c.requires.r_lt_rows.3);
  ready = looked_ready _ c.put.ensures c.requires.ready;
}

pub returns-in-Some : goal.returns-in-Some
returns-in-Some c = alive_form _ c.put.ensures c.requires.r_lt_rows.3 c.limits-limits.ensures c.form.ensures _ (ap maybe_form c.in-Some.is) c.tighten_form.ensures

pub returns-in-None : goal.returns-in-None
returns-in-None c = alive_none _ c.put.ensures c.requires.r_lt_rows.3 c.limits-limits.ensures c.form.ensures (ap maybe_form c.in-None.is)
