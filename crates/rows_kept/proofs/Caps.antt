-- The long-row cap of coefficient tightening is on live terms: a row with more than the short length of them and more eligible ones than the cap is left alone,
-- and one that is not longer is rewritten wherever a term is eligible, however many terms it has as written.
use Rattle.std.specs.Prelude.{ℕ, ◌≤◌, ◌<◌, ◌≡◌, Bool, ◌||◌, eqb, length}
use Rattle.std.proofs.Math.Path.{refl}
use Rattle.std.proofs.Math.Bool.{true, false}
use borrow.Author.Tests.{lt-ltb, le-ltb, ne_eqb}
use Rattle.definition.specs.Model.{Model, Row}
use Rattle.definition.specs.Tighten.{spared}

module _ (M : Model) (row : Row) (n : ℕ) where
  pub long_row_spared : M.params.coeff_tighten_short_row < length row.terms → M.params.coeff_tighten_row_cap < n → spared M row n ≡ true
  unfolding spared
  long_row_spared p q = rw (lt-ltb _ _ p, lt-ltb _ _ q) (either (eqb n 0))
    where
      either : (b : Bool) → (b || true) ≡ true
      either true = refl
      either false = refl

  pub short_row_tightened : length row.terms ≤ M.params.coeff_tighten_short_row → (n ≡ 0 → ⊥) → spared M row n ≡ false
  unfolding spared
  short_row_tightened p q = rw (le-ltb M.params.coeff_tighten_short_row (length row.terms) p, ne_eqb n 0 q)
