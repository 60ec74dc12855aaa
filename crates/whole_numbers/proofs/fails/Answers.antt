-- Each condition's test is the definition's; the code compares sizes with floats.
use Rattle.std.proofs.Common.{rules, ◌∙◌, ◌≡◌}
use Rattle.whole_numbers.specs.Fault.{mode_off}
use Rattle.whole_numbers.specs.Floats.{beyond, beyond_at}
use Rattle.whole_numbers.specs.Branches.{COEFF, RHS, coeff_is, rhs_is}
use Rattle.whole_numbers.proofs.fails.Goals as goal

pub returns-in-Coefficients : goal.returns-in-Coefficients
returns-in-Coefficients c =
    let e : c.number_off.result ≡ beyond COEFF c.args.input.now.rows.coeff.now c.args.place = search rules in
    rw (c.in-Coefficients.is) (e ∙ beyond_at COEFF 32768 coeff_is _ _)

pub returns-in-RightSides : goal.returns-in-RightSides
returns-in-RightSides c =
    let e : c.number_off-in-RightSides.result ≡ beyond RHS c.args.input.now.rows.rhs.now c.args.place = search rules in
    rw (c.in-RightSides.is) (e ∙ beyond_at RHS 1099511627776 rhs_is _ _)

pub returns-in-Mode : goal.returns-in-Mode
unfolding mode_off
returns-in-Mode c =
    let e : c.mode_off.result ≡ mode_off c.args.input.now.mode 0 = search rules in
    rw (c.in-Mode.is) e
