-- `add_binary`: the binary goes behind the others, and the magnitude as written grows.
use mathlib.Core.Path.{refl}
use Rattle.space.specs.Blocks.{written_length, kept_length, binary_length, binaries_length}
use Rattle.tighten.specs.Adding.{add_first, add_more}
use Rattle.tighten.proofs.bindings.add_binary.Goals as goal

pub returns-then-k-eq0 : goal.returns-then-k-eq0
returns-then-k-eq0 c = add_first c.args.t.var c.args.t.coeff c.args.b c.requires.r_lt_rows.0 c.requires.room (binary_length _ _ c.requires.r_lt_rows.2)
    (binaries_length _ _ c.requires.r_lt_rows.2) (written_length _ _ c.requires.r_lt_rows.1) c.get-k.ensures refl
    c.absolute-size.ensures c.put.ensures c.put-2.ensures c.requires.r_lt_rows.3
    (kept_length _ _ c.requires.r_lt_rows.1) c.if-k-eq0.true c.rhs_mag-mag.ensures
    c.put-then-k-eq0.ensures c.put-then-k-eq0-2.ensures

pub returns-else-k-eq0 : goal.returns-else-k-eq0
returns-else-k-eq0 c = add_more c.args.t.var c.args.t.coeff c.args.b c.requires.r_lt_rows.0
    c.requires.room (binary_length _ _ c.requires.r_lt_rows.2) (binaries_length _ _ c.requires.r_lt_rows.2) (written_length _ _ c.requires.r_lt_rows.1)
    c.get-k.ensures refl c.absolute-size.ensures c.put.ensures
    c.put-2.ensures c.requires.r_lt_rows.3 c.if-k-eq0.false c.get-written.ensures
    c.put-else-k-eq0.ensures
