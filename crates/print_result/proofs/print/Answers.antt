-- The first run counts, and the second writes what it counted.
use Rattle.std.proofs.Common.{rules, ◌<◌, length}
use Rattle.print_result.specs.Printing.{no_room, written}
use Rattle.print_result.proofs.print.Goals as goal

pub returns-then-out-count : goal.returns-then-out-count
returns-then-out-count g c = no_room c.write.ensures c.if-out-count.true

pub returns : goal.returns
returns g c =
    let s : length c.args.out.now < 18446744073709551615 = search rules in
    let k = written c.write.ensures s c.if-out-count.false c.write-2.ensures.1 in
    search (rules, k)
