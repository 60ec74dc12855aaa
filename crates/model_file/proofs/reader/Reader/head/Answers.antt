-- A row's map is tested before what it announces.
use Rattle.std.proofs.Common.{◌∙◌, lt-ltb, le-ltb}
use Rattle.model_file.specs.Format.{head}
use Rattle.model_file.specs.Places.{then_got, then_refused, refuse_yes, refuse_no}
use Rattle.model_file.proofs.Exits.{failed}
use Rattle.model_file.proofs.reader.Reader.head.Goals as goal

pub returns-in_err-map-clause-read : goal.returns-in_err-map-clause-read
unfolding head
returns-in_err-map-clause-read c = failed _ _ _ c.from_residual.ensures.1 (then_refused _ c.in_err-map.ensures)

pub returns-then-map-gt7-clause-read : goal.returns-then-map-gt7-clause-read
unfolding head
returns-then-map-gt7-clause-read c = then_got _ c.in_ok-map.ensures ∙ then_refused _ (refuse_yes 12 _ (lt-ltb _ _ c.if-map-gt7.true))

pub returns-then-map-gt2-clause-read : goal.returns-then-map-gt2-clause-read
unfolding head
returns-then-map-gt2-clause-read c = then_got _ c.in_ok-map.ensures ∙ then_got _ (refuse_no 12 _ (le-ltb _ _ c.if-map-gt7.false))
    ∙ then_refused _ (refuse_yes 12 _ (lt-ltb _ _ c.if-map-gt2.true))

pub returns-clause-read : goal.returns-clause-read
unfolding head
returns-clause-read c = then_got _ c.in_ok-map.ensures ∙ then_got _ (refuse_no 12 _ (le-ltb _ _ c.if-map-gt7.false))
    ∙ then_got _ (refuse_no 12 _ (le-ltb _ _ c.if-map-gt2.false)) ∙ c.side.ensures.read
