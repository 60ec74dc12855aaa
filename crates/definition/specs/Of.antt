-- What a call hands in, as the definition's model: of these lists, and of the code's record.
use Rattle.std.specs.Prelude.{ℕ, List, Float}
use Rattle.definition.specs.declared.Input.{Input}
use Rattle.definition.specs.Params.{params}
use Rattle.definition.specs.Model.{Model}

abbrev pub model_of : List Float → List Float → List Float → List ℕ → List ℕ → List ℕ → List Float → List ℕ → List Float → ℕ → Float → Float → Model
model_of obj lower upper domain starts index coeff cmp rhs mode feas int_tol =
    record {
      obj = obj;
      lower = lower;
      upper = upper;
      domain = domain;
      starts = starts;
      index = index;
      coeff = coeff;
      cmp = cmp;
      rhs = rhs;
      mode = mode;
      feas = feas;
      int_tol = int_tol;
      params = params;
    }

-- what a call hands in
abbrev pub input_model : Input → Model
input_model x =
    model_of x.obj.now x.lower.now x.upper.now x.domain.now x.rows.starts.now x.rows.index.now x.rows.coeff.now x.rows.cmp.now x.rows.rhs.now x.mode x.feas x.int_tol
