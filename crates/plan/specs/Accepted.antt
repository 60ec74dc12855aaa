-- What an accepted call of a plan has: lists that fit each other, a value for each variable, and each row's terms in the lists of terms.
use Rattle.std.specs.Prelude.{◌≡◌, false, List, length, Float}
use Rattle.definition.specs.Model.{Model}
use Rattle.definition.specs.Refusal.{starts_wrong}
use Rattle.refuse.specs.Rows.{Agree}

pub record Accepted (M : Model) (p : List Float) : Type 0 where
  pub lengths : Agree M
  pub values : length p ≡ length M.lower
  pub starts : starts_wrong M ≡ false
