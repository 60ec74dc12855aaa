-- THE THEOREM IS NOT EMPTY: two of 01's worked cases are models that it speaks of, both accepted, with p Integer from 0 to 10: 2p ≤ 7, whose points are kept, and
-- 2p = 7, which has none.
use Rattle.std.specs.Prelude.{ℕ, zero, suc, false, List, [], ◌∷◌, pos, Float}
use Rattle.std.proofs.Math.Option.{Option, none, some}
use Rattle.std.specs.Float.{binary64}
use Rattle.std.specs.Float.Ieee.{of_int, round}
use Rattle.definition.specs.Params.{params}
use Rattle.definition.specs.Model.{Answer, infeasible, done, Model}
use Rattle.definition.specs.Cases.{Case}

abbrev pub number : ℕ → Float
number n = of_int binary64 (pos n)

-- 2p against 7, by the comparison's code
unfoldable pub twice : ℕ → Model
twice op =
    record {
      obj = number 0 ∷ [];
      lower = number 0 ∷ [];
      upper = number 10 ∷ [];
      domain = 0 ∷ [];
      starts = 0 ∷ 1 ∷ [];
      index = 0 ∷ [];
      coeff = number 2 ∷ [];
      cmp = op ∷ [];
      rhs = number 7 ∷ [];
      mode = 1;
      feas = round binary64 false 1 1000000;
      int_tol = round binary64 false 1 1000000000;
      params = params;
    }

abbrev pub at_most : Model
at_most = twice 1

abbrev pub equal : Model
equal = twice 0

-- they are the first and the third of the worked cases
unfoldable pub model_of : ℕ → List Case → Option Model
model_of n [] = none
model_of zero (c ∷ cs) = some c.model
model_of (suc n) (c ∷ cs) = model_of n cs

-- ---- 2p ≤ 7: no coefficient of it is rewritten, so the theorem says which points its answer has
unfoldable pub fourth : Answer → ℕ
fourth (infeasible k) = k.coeffsTightened
fourth (done R) = R.counts.coeffsTightened
