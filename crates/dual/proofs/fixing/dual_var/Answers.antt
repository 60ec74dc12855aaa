-- `dual_var`, by its three tests.
use Rattle.space.specs.Blocks.{bad_dec_length, bad_inc_length}
use Rattle.bounds.specs.Flags.{flags_refl}
use Rattle.dual.specs.Fixing.{obj_in, domain_in, var_stays, var_falls, var_rises, var_rests}
use borrow.Author.Rules.{rules}
use Rattle.dual.proofs.fixing.dual_var.Goals as goal

pub stays-requires : goal.stays-requires
stays-requires c = search domain_in

pub returns-then-stays : goal.returns-then-stays
returns-then-stays c = record { acts_bool = var_stays _ _ c.stays.ensures c.if-stays.true; flags_kept = flags_refl }

pub falls-requires : goal.falls-requires
falls-requires c = search obj_in

pub returns-then-falls : goal.returns-then-falls
returns-then-falls c = record {
  acts_bool = var_falls _ _ c.stays.ensures c.if-stays.false c.requires.v_lt_vars.0 (bad_dec_length _ _ c.requires.v_lt_vars.2) c.falls.ensures
      c.if-falls.true c.get-lo.ensures
      c.fix.ensures.acts;
  flags_kept = search rules;
}

pub rises-requires : goal.rises-requires
rises-requires c = search obj_in

pub returns-then-rises : goal.returns-then-rises
returns-then-rises c = record {
  acts_bool = var_rises _ _ c.stays.ensures c.if-stays.false c.requires.v_lt_vars.0 (bad_dec_length _ _ c.requires.v_lt_vars.2) c.falls.ensures
      c.if-falls.false (bad_inc_length _ _ c.requires.v_lt_vars.2) c.rises.ensures c.if-rises.true
      c.get-hi.ensures c.fix-then-rises.ensures.acts;
  flags_kept = c.fix-then-rises.ensures.flags_kept;
}

pub returns : goal.returns
returns c = record {
  acts_bool = var_rests _ _ c.stays.ensures c.if-stays.false c.requires.v_lt_vars.0 (bad_dec_length _ _ c.requires.v_lt_vars.2)
      c.falls.ensures c.if-falls.false (bad_inc_length _ _ c.requires.v_lt_vars.2)
      c.rises.ensures c.if-rises.false;
  flags_kept = flags_refl;
}
