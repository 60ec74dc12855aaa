-- `singleton_row` is singleton_row.
use native.Mathlib.Omega.{arith}
use Rattle.std.proofs.Common.{sym}
use Rattle.view.specs.Steps.{stop_is}
use Rattle.readers.specs.Knowing.{moves_spans, span_at}
use Rattle.view.specs.Renamed.{tries_is}
use Rattle.bounds.specs.Loop.{alive_went}
use Rattle.singles.specs.Singleton.{single_place, single_var, bounds_same, single_stop, single_goes}
use borrow.Author.Rules.{rules}
use Rattle.singles.proofs.singleton.singleton_row.Goals as goal

pub bounds-lists-r : goal.bounds-lists-r
bounds-lists-r c = omega (arith, (span_at c.requires.ready moves_spans c.requires.r_lt_rows.0).long)

pub get-a-requires : goal.get-a-requires
get-a-requires c = search (single_place, moves_spans, rules)

pub get-requires : goal.get-requires
get-requires c = search (single_place, moves_spans, rules)

pub singleton_bounds-requires : goal.singleton_bounds-requires
singleton_bounds-requires c = record { r_lt_rows = (search rules, search (single_var, moves_spans), search rules, search rules, search rules); ready = search rules }

pub returns-in_err-singleton_bounds : goal.returns-in_err-singleton_bounds
returns-in_err-singleton_bounds c = tries_is (single_stop _ c.requires.r_lt_rows.0 c.requires.r_lt_rows.3 c.requires.r_lt_rows.4
    c.get.ensures c.get-a.ensures c.limits-x.ensures
    c.lower_side.ensures c.upper_side.ensures
    (tries_is c.singleton_bounds.ensures c.in_err-singleton_bounds.was))
    (sym (stop_is c.from_residual.result c.from_residual.ensures.0))

pub singleton_drop-requires : goal.singleton_drop-requires
singleton_drop-requires c = (
  c.requires.r_lt_rows.0,
  single_var c.requires.ready moves_spans c.requires.r_lt_rows.0 c.requires.r_lt_rows.3 c.requires.r_lt_rows.4 c.get.ensures,
  omega arith,
  omega arith,
  alive_went c.requires.ready (tries_is c.singleton_bounds.ensures c.in_ok-singleton_bounds.was)
      (bounds_same _ _ _ _ _)
      c.requires.r_lt_rows.0 c.requires.r_lt_rows.3,
)

pub returns : goal.returns
returns c = single_goes _ c.requires.r_lt_rows.0 c.requires.r_lt_rows.3 c.requires.r_lt_rows.4 c.get.ensures
    c.get-a.ensures c.limits-x.ensures c.lower_side.ensures
    c.upper_side.ensures (tries_is c.singleton_bounds.ensures c.in_ok-singleton_bounds.was)
    c.singleton_drop.ensures
