-- `rebound`: the coefficient, the binding, and the bound with what the binding keeps more.
use native.Mathlib.Omega.{arith}
use Rattle.space.specs.Blocks.{coeffs_length, lo_length, hi_length}
use Rattle.tighten.specs.Staying.{ready_stays}
use Rattle.tighten.specs.After.{set_place, set_acts, set_stays, set_live, le_acts, ge_acts, rebound_le, rebound_ge}
use borrow.Author.Rules.{rules}
use Rattle.tighten.proofs.after.rebound.Goals as goal

pub set_coeff-requires : goal.set_coeff-requires
set_coeff-requires c = record { r_in_bounds = set_place c.requires.holds_f.2 c.requires.ready; holds_f = search rules }

pub rewrite_binding-grown-requires : goal.rewrite_binding-grown-requires
rewrite_binding-grown-requires c = record {
  r_lt_rows = search (set_live, coeffs_length, rules);
  ready = ready_stays c.requires.holds_f.2.row (set_acts c.requires.holds_f.2 c.args.na (coeffs_length _ _ c.requires.holds_f.0) c.set_coeff.ensures)
      (set_stays c.requires.holds_f.2 c.args.na c.requires.holds_f.3) c.requires.ready;
}

pub rewrite_binding-grown-requires-in-Ge : goal.rewrite_binding-grown-requires-in-Ge
rewrite_binding-grown-requires-in-Ge c = record {
  r_lt_rows = search (set_live, coeffs_length, rules);
  ready = ready_stays c.requires.holds_f.2.row (set_acts c.requires.holds_f.2 c.args.na (coeffs_length _ _ c.requires.holds_f.0) c.set_coeff.ensures)
      (set_stays c.requires.holds_f.2 c.args.na c.requires.holds_f.3) c.requires.ready;
}

pub returns-in-Le : goal.returns-in-Le
returns-in-Le c = rebound_le c.args.r c.args.t.place c.args.t.var c.args.t.coeff c.args.na c.args.bp c.in-Le.is
    (le_acts c.args.t.coeff c.args.na _ c.args.bp c.requires.holds_f.2 c.requires.holds_f.3 c.requires.ready (coeffs_length _ _ c.requires.holds_f.0)
    c.set_coeff.ensures c.rewrite_binding-grown.ensures.acts c.rewrite_binding-grown.ensures.reads (hi_length _ _ (omega arith)) c.get-b.ensures c.put.ensures)

pub returns-in-Ge : goal.returns-in-Ge
returns-in-Ge c = rebound_ge c.args.r c.args.t.place c.args.t.var c.args.t.coeff c.args.na c.args.bp c.in-Ge.is
    (ge_acts c.args.t.coeff c.args.na _ c.args.bp c.requires.holds_f.2 c.requires.holds_f.3 c.requires.ready (coeffs_length _ _ c.requires.holds_f.0)
    c.set_coeff.ensures c.rewrite_binding-grown-in-Ge.ensures.acts c.rewrite_binding-grown-in-Ge.ensures.reads (lo_length _ _ (omega arith)) c.get-b-in-Ge.ensures c.put-in-Ge.ensures)
