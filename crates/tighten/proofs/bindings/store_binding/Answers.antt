-- `store_binding`: both numbers are read, and then stored.
use Rattle.space.specs.Blocks.{rewritten_length, kept_length}
use Rattle.tighten.specs.Settling.{store_acts, store_growth}
use Rattle.tighten.proofs.bindings.store_binding.Goals as goal

pub returns : goal.returns
returns c = record {
  acts = store_acts _ c.requires.r_lt_rows.0 c.requires.r_lt_rows.3 c.requires.r_lt_rows.4 c.rewritten_mag-re.ensures
      c.kept_after-kept.ensures (rewritten_length _ _ c.requires.r_lt_rows.1) (kept_length _ _ c.requires.r_lt_rows.1)
      c.put.ensures c.put-2.ensures;
  reads = store_growth _ c.requires.r_lt_rows.0 c.requires.r_lt_rows.3 c.requires.r_lt_rows.4 c.rewritten_mag-re.ensures
      c.kept_after-kept.ensures c.get-old.ensures;
}
