-- A domain that is there, or none.
use Rattle.std.proofs.Common.{rules, ap, ◌∙◌, ◌≡◌}
use Rattle.std.specs.Prelude.{ℕ, not, eqb, get_or}
use Rattle.whole_numbers.specs.Branches.{domain_by, domain_integer, domain_past}
use Rattle.whole_numbers.proofs.conditions.domain_off.Goals as goal

pub returns-then-d-ne0 : goal.returns-then-d-ne0
returns-then-d-ne0 c = search (domain_by, rules)

pub returns-else-d-ne0 : goal.returns-else-d-ne0
returns-else-d-ne0 c =
    let e : c.in-Some.d.now ≡ get_or c.args.domain.now c.args.v 0 = search rules in
    ap (λ (d : ℕ). not (eqb d 0)) c.if-d-ne0.false ∙ domain_integer _ _ e c.if-d-ne0.false

pub returns-in-None : goal.returns-in-None
returns-in-None c = search (domain_past, rules)
