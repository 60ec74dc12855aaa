-- A file that is ready fills every slice; neither part of it can be refused any more.
use Rattle.model_file.specs.Format.{variable}
use Rattle.model_file.specs.Fills.{put_var, from_zero}
use Rattle.model_file.specs.Answers.{ready_unsettled, var_places, ready_no, row_places, terms_fit, ready_end}
use Rattle.model_file.proofs.fill.fill_model.Goals as goal

pub returns-in_err-settings-clause-ok : goal.returns-in_err-settings-clause-ok
returns-in_err-settings-clause-ok c = absurd (ready_unsettled c.requires c.in_err-settings.ensures)

pub returns-in_err-settings-clause-filled : goal.returns-in_err-settings-clause-filled
returns-in_err-settings-clause-filled c = absurd (ready_unsettled c.requires c.in_err-settings.ensures)

pub fill-requires : goal.fill-requires
fill-requires c = var_places c.requires c.in_ok-settings.ensures

pub returns-in_err-fill-clause-ok : goal.returns-in_err-fill-clause-ok
returns-in_err-fill-clause-ok c = absurd (ready_no c.requires c.in_ok-settings.ensures (from_zero variable put_var _ c.in_err-fill.ensures.filled).place)

pub returns-in_err-fill-clause-filled : goal.returns-in_err-fill-clause-filled
returns-in_err-fill-clause-filled c = absurd (ready_no c.requires c.in_ok-settings.ensures (from_zero variable put_var _ c.in_err-fill.ensures.filled).place)

pub fill_rows-requires-clause-places : goal.fill_rows-requires-clause-places
fill_rows-requires-clause-places c = let v = from_zero variable put_var _ c.in_ok-fill.ensures.filled in row_places c.requires c.in_ok-settings.ensures v.place v.columns

pub fill_rows-requires-clause-room : goal.fill_rows-requires-clause-room
fill_rows-requires-clause-room c = let v = from_zero variable put_var _ c.in_ok-fill.ensures.filled in terms_fit c.requires c.in_ok-settings.ensures v.place v.columns

pub returns-clause-filled : goal.returns-clause-filled
returns-clause-filled c = let v = from_zero variable put_var _ c.in_ok-fill.ensures.filled in
    ready_end c.requires c.in_ok-settings.ensures v.place v.columns c.fill_rows.ensures.filled
