-- A variable's map is tested before what it announces.
use Rattle.std.proofs.Common.{◌∙◌, lt-ltb, le-ltb}
use Rattle.model_file.specs.Format.{variable}
use Rattle.model_file.specs.Places.{then_got, then_refused, refuse_yes, refuse_no}
use Rattle.model_file.proofs.Exits.{failed}
use Rattle.model_file.proofs.parts.VariablePart.read.Goals as goal

pub returns-in_err-map : goal.returns-in_err-map
unfolding variable
returns-in_err-map c = failed _ _ _ c.from_residual.ensures.1 (then_refused _ c.in_err-map.ensures)

pub returns-then-map-gt31 : goal.returns-then-map-gt31
unfolding variable
returns-then-map-gt31 c = then_got _ c.in_ok-map.ensures ∙ then_refused _ (refuse_yes 12 _ (lt-ltb _ _ c.if-map-gt31.true))

pub returns-then-map-gt2 : goal.returns-then-map-gt2
unfolding variable
returns-then-map-gt2 c = then_got _ c.in_ok-map.ensures ∙ then_got _ (refuse_no 12 _ (le-ltb _ _ c.if-map-gt31.false))
    ∙ then_refused _ (refuse_yes 12 _ (lt-ltb _ _ c.if-map-gt2.true))

pub returns : goal.returns
unfolding variable
returns c = then_got _ c.in_ok-map.ensures ∙ then_got _ (refuse_no 12 _ (le-ltb _ _ c.if-map-gt31.false))
    ∙ then_got _ (refuse_no 12 _ (le-ltb _ _ c.if-map-gt2.false)) ∙ c.values.ensures
