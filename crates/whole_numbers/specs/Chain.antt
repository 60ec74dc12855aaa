-- The conditions one after the other: where one fails, that is the fault; where it holds, the fault is that of the conditions left.
use Rattle.std.specs.Prelude.{ℕ, ◌≤◌, ◌<◌, ◌≡◌, refl, ◌+◌, List, ◌∷◌, length, get_or, drop, ltb, map, Option, Some, None}
use Rattle.std.proofs.Common.{◌∙◌, sym, ap, subst, le-ltb, lt-ltb}
use Rattle.std.proofs.lemmas.List.{at_drop_more, drop_all}
use Rattle.std.proofs.Math.Option as definition
use Rattle.std.proofs.Math.Option.{none, some}
use Rattle.floats.specs.Num.{choose}
use Rattle.definition.specs.Choices.{chosen, left}
use Rattle.definition.specs.Model.{Model}
use Rattle.whole_numbers.specs.Fault.{first, Condition, conditions, earliest_fault, told}
use Rattle.whole_numbers.specs.Of.{asked, in_order, number, Found}
use Rattle.whole_numbers.specs.declared.Condition as code
use Rattle.whole_numbers.specs.declared.Condition.TheVariants.{Domains, Bounds, Coefficients, RightSides, Lengths, Tolerances, Mode, Objective}

module _ (c : Condition) (cs : List Condition) where
  pub fails_here : {i : ℕ} → Found c (Some i) → some (c.number, i) ≡ earliest_fault (c ∷ cs)
  unfolding earliest_fault
  fails_here {i} f =
      sym (ap (λ (k : ℕ). choose (ltb k c.places) (some (c.number, k)) (earliest_fault cs)) (sym f.0)
      ∙ chosen (some (c.number, i)) (earliest_fault cs) (lt-ltb i c.places f.1))

  pub holds_here : Found c None → earliest_fault (c ∷ cs) ≡ earliest_fault cs
  unfolding earliest_fault
  holds_here l = left (some (c.number, first c.fails c.places 0)) (earliest_fault cs) (le-ltb (first c.fails c.places 0) c.places l)

-- the code numbers them as the definition does
pub same_number : (M : Model) (c : code.Condition) → number c ≡ (asked M c).number
same_number M Domains = refl
same_number M Bounds = refl
same_number M Coefficients = refl
same_number M RightSides = refl
same_number M Lengths = refl
same_number M Tolerances = refl
same_number M Mode = refl
same_number M Objective = refl

-- the code asks the definition's conditions in the definition's order
pub begun : (M : Model) → told M ≡ earliest_fault (map (asked M) in_order)
unfolding told conditions
begun M = refl

-- one condition more; f is the fault of those from the i-th on
module _ (M : Model) (cs : List code.Condition) (i : ℕ) {f : definition.Option (ℕ × ℕ)} (e : f ≡ earliest_fault (map (asked M) (drop i cs))) where
  next : (d : code.Condition) → i < length cs → f ≡ earliest_fault (asked M (get_or cs i d) ∷ map (asked M) (drop (i + 1) cs))
  next d l = e ∙ at_drop_more (λ (ds : List code.Condition). earliest_fault (map (asked M) ds)) cs i d l

  pub turn : (d : code.Condition) → i < length cs → {r : Option ℕ} → Found (asked M (get_or cs i d)) r → r ≡ None
      → f ≡ earliest_fault (map (asked M) (drop (i + 1) cs))
  turn d l h q = next d l ∙ holds_here _ _ (subst (Found (asked M (get_or cs i d))) q h)

  pub stop : (d : code.Condition) → i < length cs → {r : Option ℕ} {p : ℕ} → Found (asked M (get_or cs i d)) r → r ≡ Some p
      → some (number (get_or cs i d), p) ≡ f
  stop d l {r} {p} h q =
      ap (λ (k : ℕ). some (k, p)) (same_number M (get_or cs i d)) ∙ fails_here _ _ (subst (Found (asked M (get_or cs i d))) q h) ∙ sym (next d l)

  pub end : length cs ≤ i → none ≡ f
  unfolding earliest_fault
  end l = sym (e ∙ ap (λ (ds : List code.Condition). earliest_fault (map (asked M) ds)) (drop_all i cs l))
