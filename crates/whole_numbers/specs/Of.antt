-- What the code's conditions and answers are in the definition.
use Rattle.std.specs.Prelude.{ℕ, ◌≡◌, ◌≤◌, ◌<◌, List, [], ◌∷◌, Option, Some, None, Result, Ok, Err, Float}
use Rattle.std.proofs.Math.Option as definition
use Rattle.definition.specs.Params.{params}
use Rattle.definition.specs.Model.{Model}
use Rattle.whole_numbers.specs.Fault.{first, Condition}
use Rattle.whole_numbers.specs.Fault.{domains, bounds, coefficients, right_sides, lengths, tolerances, mode, objective}
use Rattle.whole_numbers.specs.declared.Condition as code
use Rattle.whole_numbers.specs.declared.Condition.TheVariants.{Domains, Bounds, Coefficients, RightSides, Lengths, Tolerances, Mode, Objective}
use Rattle.whole_numbers.specs.declared.Fault.{Fault}

-- the model of these lists: 01's conditions look at nothing else of a model
abbrev pub numbers_of : List Float → List Float → List ℕ → List ℕ → List ℕ → List Float → List Float → ℕ → Float → Float → Model
numbers_of lower upper domain starts index coeff rhs mode feas int_tol =
    record {
      obj = [];
      lower = lower;
      upper = upper;
      domain = domain;
      starts = starts;
      index = index;
      coeff = coeff;
      cmp = [];
      rhs = rhs;
      mode = mode;
      feas = feas;
      int_tol = int_tol;
      params = params;
    }

-- a condition that the code names
abbrev pub asked : Model → code.Condition → Condition
asked M Domains = domains M
asked M Bounds = bounds M
asked M Coefficients = coefficients M
asked M RightSides = right_sides M
asked M Lengths = lengths M
asked M Tolerances = tolerances M
asked M Mode = mode M
asked M Objective = objective M

-- the order in which it asks them
abbrev pub in_order : List code.Condition
in_order = Domains ∷ Bounds ∷ Coefficients ∷ RightSides ∷ Lengths ∷ Tolerances ∷ Mode ∷ Objective ∷ []

-- a condition's number
abbrev pub number : code.Condition → ℕ
number Domains = 1
number Bounds = 2
number Coefficients = 3
number RightSides = 4
number Lengths = 5
number Tolerances = 6
number Mode = 7
number Objective = 8

-- what is found of a condition: the first place that fails it, or none
abbrev pub Found : Condition → Option ℕ → Type 0
Found c None = c.places ≤ first c.fails c.places 0
Found c (Some i) = (i ≡ first c.fails c.places 0) × (i < c.places)

-- no fault, or the condition's number and its place
abbrev pub numbers_is : Result Unit Fault → definition.Option (ℕ × ℕ)
numbers_is (Ok _) = definition.none
numbers_is (Err f) = definition.some (number f.condition, f.place)
