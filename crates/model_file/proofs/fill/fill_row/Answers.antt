-- A row's head and its terms go to their places, and the bytes that are left are those that the checking pass finds.
use Rattle.std.proofs.Common.{arith, ap, sym, subst, ◌∙◌, ◌+◌, length}
use Rattle.model_file.specs.Reading.{lent}
use Rattle.model_file.specs.Format.{term}
use Rattle.model_file.specs.Skips.{row_passed, row_headless, row_cut}
use Rattle.model_file.specs.Fills.{TermPlace, sizes, sizes_head, fill, put_term, row_room, row_unread, row_read, counted}
use Rattle.model_file.proofs.Exits.{failed}
use Rattle.model_file.proofs.fill.fill_row.Goals as goal

pub returns-in_err-head-clause-read : goal.returns-in_err-head-clause-read
returns-in_err-head-clause-read c = failed _ _ _ c.from_residual.ensures.1 (row_headless _ _ c.in_err-head.ensures.read)

pub returns-in_err-head-clause-filled : goal.returns-in_err-head-clause-filled
returns-in_err-head-clause-filled c = row_unread _ _ _ _ c.in_err-head.ensures.read

pub fill-requires : goal.fill-requires
fill-requires c i h =
    let z = ap sizes c.put_head.ensures.put ∙ sizes_head c.args.r (c.args.t + c.in_ok-head.head.count) c.in_ok-head.head (lent c.args.model.now) in
    let e : TermPlace i (sizes (lent c.args.model.now)) = (
      omega (arith, h, row_room c.args.t _ (length c.args.model.now.index.now) c.in_ok-head.ensures.read c.requires.room.0),
      omega (arith, h, row_room c.args.t _ (length c.args.model.now.coeff.now) c.in_ok-head.ensures.read c.requires.room.1),
    ) in
    subst (TermPlace i) (sym z) e

pub returns-in_err-fill-clause-read : goal.returns-in_err-fill-clause-read
returns-in_err-fill-clause-read c = failed _ _ _ c.from_residual-in_err-fill.ensures.1
    (row_cut _ _ c.in_ok-head.ensures.read (counted c.args.t c.in_ok-head.head.count c.in_err-fill.ensures.filled).place)

pub returns-in_err-fill-clause-filled : goal.returns-in_err-fill-clause-filled
returns-in_err-fill-clause-filled c = row_read _ _ _ _ c.in_ok-head.ensures.read
    ((counted c.args.t c.in_ok-head.head.count c.in_err-fill.ensures.filled).columns ∙ ap (fill term put_term c.in_ok-head.head.count _ c.args.t) c.put_head.ensures.put)

pub returns-clause-read : goal.returns-clause-read
returns-clause-read c = row_passed _ _ c.in_ok-head.ensures.read (counted c.args.t c.in_ok-head.head.count c.in_ok-fill.ensures.filled).place

pub returns-clause-filled : goal.returns-clause-filled
returns-clause-filled c = row_read _ _ _ _ c.in_ok-head.ensures.read
    ((counted c.args.t c.in_ok-head.head.count c.in_ok-fill.ensures.filled).columns ∙ ap (fill term put_term c.in_ok-head.head.count _ c.args.t) c.put_head.ensures.put)
