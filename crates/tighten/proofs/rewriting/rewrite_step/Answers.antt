-- `rewrite_step`: the term is left alone, or rewritten in its row, which then ends or goes on.
use native.Mathlib.Omega.{arith}
use mathlib.Core.Path.{refl}
use Rattle.std.specs.Prelude.{false}
use Rattle.view.specs.Steps.{ready_under}
use Rattle.readers.specs.Reading.{domain_in}
use Rattle.readers.specs.RowAt.{row_ready, live_place, live_var}
use Rattle.tighten.specs.Tightening.{tightening_spans, tightening_domains}
use Rattle.tighten.specs.Step.{term_some, term_none, term_nonzero, step_keeps, after_ready, after_live, step_rewrites}
use Rattle.tighten.specs.Carried.{begun, not_some}
use borrow.Author.Rules.{rules}
use Rattle.tighten.proofs.rewriting.rewrite_step.Goals as goal

pub bounds-lists-r : goal.bounds-lists-r
bounds-lists-r c = omega (arith, (row_ready c.requires.ready tightening_spans c.requires.r_lt_rows.0 c.requires.r_lt_rows.3).long)

pub overflow_add-p : goal.overflow_add-p
overflow_add-p c = omega (
  arith,
  live_place c.requires.ready tightening_spans c.requires.r_lt_rows.0 c.requires.r_lt_rows.3 c.requires.r_lt_rows.4,
  (row_ready c.requires.ready tightening_spans c.requires.r_lt_rows.0 c.requires.r_lt_rows.3).small,
)

pub get-v-requires : goal.get-v-requires
get-v-requires c = search (live_place, tightening_spans)

pub get-a-requires : goal.get-a-requires
get-a-requires c = search (live_place, tightening_spans)

pub rewrite_term-requires : goal.rewrite_term-requires
rewrite_term-requires c = (search (live_var, tightening_spans), search (domain_in, tightening_domains, live_var, tightening_spans), search rules)

pub returns-in_default : goal.returns-in_default
returns-in_default c = step_keeps _ _ c.requires.r_lt_rows.0 c.requires.r_lt_rows.3 c.requires.r_lt_rows.4 c.get-v.ensures c.get-a.ensures _ _
    (begun c.args.x.act false) c.limits-limits.ensures (term_none (not_some _ c.in_default.not-Some) c.rewrite_term.ensures) refl refl

pub row_after-requires : goal.row_after-requires
row_after-requires c = record {
  r_lt_rows = (
    c.requires.r_lt_rows.0,
    c.requires.r_lt_rows.1,
    c.requires.r_lt_rows.2,
    c.requires.r_lt_rows.3,
    c.requires.r_lt_rows.4,
    term_nonzero _ _ c.requires.r_lt_rows.0 c.requires.r_lt_rows.3 c.requires.r_lt_rows.4 c.get-v.ensures c.get-a.ensures _ _
        (begun c.args.x.act false) c.limits-limits.ensures (term_some c.in-Some.is c.rewrite_term.ensures) c.requires.ready,
  );
  v_value = search rules;
  ready = search (ready_under, tightening_spans);
}

pub rewritten-requires : goal.rewritten-requires
rewritten-requires c = record {
  r_lt_rows = (
    c.requires.r_lt_rows.0,
    omega arith,
    omega arith,
    after_live _ _ c.requires.r_lt_rows.0 c.requires.r_lt_rows.3 c.requires.r_lt_rows.4 c.get-v.ensures c.get-a.ensures _ _
        (begun c.args.x.act false) c.limits-limits.ensures (term_some c.in-Some.is c.rewrite_term.ensures) c.row_after.ensures c.requires.ready,
  );
  ready = after_ready _ _ c.requires.r_lt_rows.0 c.requires.r_lt_rows.3 c.requires.r_lt_rows.4 c.get-v.ensures c.get-a.ensures _ _
      (begun c.args.x.act false) c.limits-limits.ensures (term_some c.in-Some.is c.rewrite_term.ensures) c.row_after.ensures c.requires.ready;
}

pub returns : goal.returns
returns c = step_rewrites _ _ c.requires.r_lt_rows.0 c.requires.r_lt_rows.3 c.requires.r_lt_rows.4 c.get-v.ensures c.get-a.ensures _ _
    (begun c.args.x.act false) c.limits-limits.ensures (term_some c.in-Some.is c.rewrite_term.ensures) c.row_after.ensures _ refl refl c.act_after-act.ensures
    (c.rewritten.ensures c.args.x.act)
