-- `stays`, from above and from below.
use Rattle.bounds.specs.Stays.{stays_above, stays_below, still_above, still_below}
use Rattle.bounds.proofs.bounds.stays.Goals as goal

pub returns-then-above : goal.returns-then-above
returns-then-above c = record {
  value = still_above _ _ _ _ _ c.is_int-int.ensures c.if-above.true c.get-ehi.ensures
      c.get-whi.ensures c.upper_stays.ensures.value;
  stays = λ t. stays_above c.is_int-int.ensures c.if-above.true c.get-ehi.ensures
      c.get-whi.ensures (c.upper_stays.ensures.upper_stays t);
}

pub returns : goal.returns
returns c = record {
  value = still_below _ _ _ _ _ c.is_int-int.ensures c.if-above.false c.get-elo.ensures
      c.get-wlo.ensures c.lower_stays.ensures.value;
  stays = λ t. stays_below c.is_int-int.ensures c.if-above.false c.get-elo.ensures
      c.get-wlo.ensures (c.lower_stays.ensures.lower_stays t);
}
