-- `row_after`: by whether there is a rewrite, and whether it moves the bound.
use Rattle.formulas.specs.Rewriting.{maybe_form}
use Rattle.space.specs.Blocks.{coeffs_length}
use Rattle.tighten.specs.After.{set_place, set_acts, after_same, after_some, after_coeff, after_bound, bound_nonzero, some_nonzero, rebound_none, rebound_some}
use borrow.Author.Rules.{rules}
use Rattle.tighten.proofs.after.row_after.Goals as goal

pub returns-in-None : goal.returns-in-None
returns-in-None c = after_same c.args.r c.args.t.place c.args.t.var c.args.t.coeff (maybe_form c.args.form) c.in-None.is c.requires.r_lt_rows.0 c.requires.r_lt_rows.3

pub set_coeff-requires : goal.set_coeff-requires
set_coeff-requires c = record {
  r_in_bounds = set_place (record { row = c.requires.r_lt_rows.0; alive = c.requires.r_lt_rows.3; live = c.requires.r_lt_rows.4; var = c.requires.v_value.0 })
      c.requires.ready;
  holds_f = search rules;
}

pub returns-in-None-bound : goal.returns-in-None-bound
returns-in-None-bound c = after_some c.args.r c.args.t.place c.args.t.var c.args.t.coeff (maybe_form c.args.form) c.in-Some.is
    (after_coeff c.args.r c.args.t.place c.args.t.var c.args.t.coeff (maybe_form c.args.form) c.in-Some.y c.in-None-bound.is
    (set_acts (record { row = c.requires.r_lt_rows.0; alive = c.requires.r_lt_rows.3; live = c.requires.r_lt_rows.4; var = c.requires.v_value.0 }) _
    (coeffs_length _ _ c.requires.r_lt_rows.1) c.set_coeff.ensures))

pub returns-in-None-form : goal.returns-in-None-form
returns-in-None-form c = after_some c.args.r c.args.t.place c.args.t.var c.args.t.coeff (maybe_form c.args.form) c.in-Some.is
    (after_bound c.args.r c.args.t.place c.args.t.var c.args.t.coeff (maybe_form c.args.form) c.in-Some.y c.in-Some-bound.is
    (rebound_none c.args.r c.args.t.place c.args.t.var c.args.t.coeff c.in-Some.y.coeff c.in-Some-bound.b.to c.in-None-form.is c.requires.r_lt_rows.0 c.requires.r_lt_rows.3))

pub rebound-requires : goal.rebound-requires
rebound-requires c = record { holds_f = search (bound_nonzero c.in-Some.y c.in-Some-bound.is (some_nonzero c.in-Some.is c.requires.r_lt_rows.5)); ready = search rules }

pub returns-in-Some-form : goal.returns-in-Some-form
returns-in-Some-form c = after_some c.args.r c.args.t.place c.args.t.var c.args.t.coeff (maybe_form c.args.form) c.in-Some.is
    (after_bound c.args.r c.args.t.place c.args.t.var c.args.t.coeff (maybe_form c.args.form) c.in-Some.y c.in-Some-bound.is
    (rebound_some c.args.r c.args.t.place c.args.t.var c.args.t.coeff c.in-Some.y.coeff c.in-Some-bound.b.to c.in-Some-form.is c.rebound.ensures))
