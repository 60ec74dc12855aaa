-- A variable that is no integer variable keeps its given bounds, through every step, equal as floats; and both lists keep their lengths.
use Rattle.std.specs.Prelude.{ℕ, ◌≡◌, true, false, List, length, set, Float}
use Rattle.std.proofs.Common.{sym, ap, ◌∙◌, length-set, get_or-set_other}
use Rattle.std.specs.Float.{nan}
use Rattle.tolerances.specs.Tol.{at}
use Rattle.definition.specs.Model.{Model, is_int}
use Rattle.definition.specs.Choices.{true≢false}
use Rattle.rows_kept.specs.Given.{Keeps}

pub keeps_set : (M : Model) (given now : List Float) (v : ℕ) (x : Float) → is_int M v ≡ true → Keeps M given now → Keeps M given (set now v x)
keeps_set M given now v x i h =
    record {
      size = length-set now v x ∙ h.size;
      same = λ q j. get_or-set_other now v q x nan (λ e. true≢false i (ap (is_int M) (sym e) ∙ j)) ∙ h.same q j;
    }
