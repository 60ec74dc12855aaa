-- `activity_exact` IS NOT EMPTY where `Invariant` ends: an accepted farm model in mode 2, with u Boolean, w Integer from 0 to 8 and x Integer from 0 to 5,
-- objective x. Of its rows 3u + w ≤ 10 and u + w ≥ 1 the first is rewritten, to a coefficient that is not whole, and x is fixed by the dual step. In the state
-- that the rounds end in the second row's activity is exact: from 0 to 9.
use Rattle.std.specs.Prelude.{true, [], ◌∷◌}
use Rattle.definition.specs.Params.{params}
use Rattle.definition.specs.Model.{Model, as_written}
use Rattle.definition.specs.Work.{Work, Step, stop, next}
use Rattle.definition.specs.Rounds.{rounds}
use Rattle.definition.specs.Cases.{#, ratio}
use Rattle.rows_kept.specs.Whole.{begun}

unfoldable pub mixed : Model
mixed =
    record {
      obj = # 0 ∷ # 0 ∷ # 1 ∷ [];
      lower = # 0 ∷ # 0 ∷ # 0 ∷ [];
      upper = # 1 ∷ # 8 ∷ # 5 ∷ [];
      domain = 2 ∷ 0 ∷ 0 ∷ [];
      starts = 0 ∷ 2 ∷ 4 ∷ [];
      index = 0 ∷ 1 ∷ 0 ∷ 1 ∷ [];
      coeff = # 3 ∷ # 1 ∷ # 1 ∷ # 1 ∷ [];
      cmp = 1 ∷ 2 ∷ [];
      rhs = # 10 ∷ # 1 ∷ [];
      mode = 2;
      feas = ratio 1 1000000;
      int_tol = ratio 1 1000000000;
      params = params;
    }

-- ---- where the rounds start, and where they end
unfoldable pub mixed_start : Work
mixed_start = begun (# 0 ∷ # 0 ∷ # 0 ∷ []) (# 1 ∷ # 8 ∷ # 5 ∷ []) (as_written mixed 0 ∷ as_written mixed 1 ∷ []) (0 ∷ 1 ∷ []) (true ∷ true ∷ []) 0

unfoldable pub ended : Work → Step → Work
ended w (stop k) = w
ended w (next x) = x

unfoldable pub mixed_end : Work
mixed_end = ended mixed_start (rounds mixed mixed.params.max_rounds mixed_start)
