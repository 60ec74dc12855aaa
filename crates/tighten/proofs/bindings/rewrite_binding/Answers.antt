-- `rewrite_binding`: a binary that is new is added first.
use native.Mathlib.Omega.{arith}
use Rattle.folds.specs.Stands.{standing, standing_numbers}
use Rattle.tighten.specs.Staying.{ready_stays, alive_stays}
use Rattle.tighten.specs.Rebinding.{there_bound, there_acts, there_growth, new_room, new_stays, new_bound, new_acts, new_growth}
use borrow.Author.Rules.{rules}
use Rattle.tighten.proofs.bindings.rewrite_binding.Goals as goal

pub has_binary-requires : goal.has_binary-requires
has_binary-requires c = record { r_lt_rows = search rules; standing_n = standing_numbers (standing c.requires.ready c.requires.r_lt_rows.0 c.requires.r_lt_rows.3) }

pub store_binding-requires : goal.store_binding-requires
store_binding-requires c = record {
  r_lt_rows = (
    search rules,
    search rules,
    search rules,
    search rules,
    there_bound c.args.t.var c.requires.r_lt_rows.0 c.requires.r_lt_rows.3 c.has_binary.ensures c.if-has_binary.true
        c.requires.ready,
  );
  ready = search rules;
}

pub returns-then-has_binary : goal.returns-then-has_binary
returns-then-has_binary c = record {
  acts = there_acts c.args.t.var c.requires.r_lt_rows.0 c.requires.r_lt_rows.3 c.has_binary.ensures c.if-has_binary.true c.args.t.coeff
      c.args.b c.args.bp c.store_binding.ensures.acts;
  reads = search there_growth;
}

pub add_binary-requires : goal.add_binary-requires
add_binary-requires c = search new_room

pub store_binding-requires-2 : goal.store_binding-requires-2
store_binding-requires-2 c = record {
  r_lt_rows = (
    search rules,
    omega arith,
    omega arith,
    alive_stays c.requires.r_lt_rows.0 c.add_binary.ensures
        (new_stays c.args.t.var c.requires.r_lt_rows.0 c.requires.r_lt_rows.3 c.has_binary.ensures c.requires.r_lt_rows.4 c.if-has_binary.false _ _ _)
        c.requires.ready,
    new_bound c.args.t.var c.requires.r_lt_rows.0 c.requires.r_lt_rows.3 c.has_binary.ensures c.requires.r_lt_rows.4 c.if-has_binary.false _ _ _
        c.add_binary.ensures c.requires.ready,
  );
  ready = ready_stays c.requires.r_lt_rows.0 c.add_binary.ensures
      (new_stays c.args.t.var c.requires.r_lt_rows.0 c.requires.r_lt_rows.3 c.has_binary.ensures c.requires.r_lt_rows.4 c.if-has_binary.false _ _ _)
      c.requires.ready;
}

pub returns : goal.returns
returns c = record {
  acts = new_acts c.args.t.var c.requires.r_lt_rows.0 c.requires.r_lt_rows.3 c.has_binary.ensures c.requires.r_lt_rows.4 c.if-has_binary.false _ _ _
      c.add_binary.ensures _ c.store_binding-2.ensures.acts;
  reads = new_growth c.args.t.var c.requires.r_lt_rows.0 c.requires.r_lt_rows.3 c.has_binary.ensures c.requires.r_lt_rows.4 c.if-has_binary.false _ _ _
      c.add_binary.ensures _ c.store_binding-2.ensures.reads;
}
