-- The laws of the table: a row that applies is the answer where none before it does, and each row looks only at its part of the model.
use Rattle.std.specs.Prelude.{ℕ, ◌≡◌, refl, Bool, true, false, List, [], ◌∷◌}
use Rattle.std.proofs.Common.{sym, ◌∙◌}
use Rattle.std.proofs.Math.Option.{Option, none, some}
use Rattle.floats.specs.Num.{choose, 0f}
use Rattle.definition.specs.Model.{Model, from, upto, nnz, op_of, rhs_of}
use Rattle.definition.specs.Refusal.{Lent, lengths_disagree, too_large, start_falls, starts_wrong, index_large, index_falls, row_unordered, indices_wrong}
use Rattle.definition.specs.Refusal.{domain_wrong, cmp_wrong, codes_wrong, bound_wrong, bounds_wrong, obj_wrong, coeff_wrong, numbers_wrong, rhs_wrong}
use Rattle.definition.specs.Refusal.{rhses_wrong, tolerance_wrong, tolerances_wrong, too_short, table, earliest, refusal}
use Rattle.definition.specs.Of.{model_of}

-- r is the number of the earliest row that applies
pub record Earliest (cs : List (ℕ × Bool)) (r : Option ℕ) : Type 0 where
  pub is : r ≡ earliest cs

pub by_table : (M : Model) (L : Lent) {r : Option ℕ} → Earliest (table M L) r → r ≡ refusal M L
unfolding refusal
by_table M L e = e.is

pub no_more : Earliest [] none
unfolding earliest
no_more = record { is = refl }

module _ {n : ℕ} {z b : Bool} {cs : List (ℕ × Bool)} where
  pub stop : z ≡ b → z ≡ true → Earliest ((n, b) ∷ cs) (some n)
  unfolding earliest choose
  stop e t = record { is = rw (sym e ∙ t) }

  pub skip : {r : Option ℕ} → z ≡ b → z ≡ false → Earliest cs r → Earliest ((n, b) ∷ cs) r
  unfolding earliest choose
  skip e f h = record { is = rw (sym e ∙ f) h.is }

-- ---- what a row says of its part of the model it says of the model
module _ (M : Model) {z : Bool} where
  pub lengths : z ≡ lengths_disagree (model_of M.obj M.lower M.upper M.domain M.starts M.index M.coeff M.cmp M.rhs 0 0f 0f) → z ≡ lengths_disagree M
  unfolding lengths_disagree
  lengths e = e

  pub sizes : z ≡ too_large (model_of M.obj [] [] [] [] M.index [] [] M.rhs 0 0f 0f) → z ≡ too_large M
  unfolding too_large
  sizes e = e

  pub spans : z ≡ starts_wrong (model_of [] [] [] [] M.starts M.index [] [] M.rhs 0 0f 0f) → z ≡ starts_wrong M
  unfolding starts_wrong start_falls from upto
  spans e = e

  pub indices : z ≡ indices_wrong (model_of M.obj [] [] [] M.starts M.index [] [] M.rhs 0 0f 0f) → z ≡ indices_wrong M
  unfolding indices_wrong index_large row_unordered index_falls nnz from upto
  indices e = e

  pub codes : z ≡ codes_wrong (model_of M.obj [] [] M.domain [] [] [] M.cmp M.rhs M.mode 0f 0f) → z ≡ codes_wrong M
  unfolding codes_wrong domain_wrong cmp_wrong op_of
  codes e = e

  pub bounds : z ≡ bounds_wrong (model_of M.obj M.lower M.upper [] [] [] [] [] [] 0 0f 0f) → z ≡ bounds_wrong M
  unfolding bounds_wrong bound_wrong
  bounds e = e

  pub numbers : z ≡ numbers_wrong (model_of M.obj [] [] [] [] M.index M.coeff [] [] 0 0f 0f) → z ≡ numbers_wrong M
  unfolding numbers_wrong obj_wrong coeff_wrong
  numbers e = e

  pub rhses : z ≡ rhses_wrong (model_of [] [] [] [] [] [] [] M.cmp M.rhs 0 0f 0f) → z ≡ rhses_wrong M
  unfolding rhses_wrong rhs_wrong op_of rhs_of
  rhses e = e

  pub tolerances : z ≡ tolerances_wrong (model_of [] [] [] [] [] [] [] [] [] 0 M.feas M.int_tol) → z ≡ tolerances_wrong M
  unfolding tolerances_wrong tolerance_wrong
  tolerances e = e

  pub short : (L : Lent) → z ≡ too_short (model_of M.obj [] [] [] [] M.index [] [] M.rhs 0 0f 0f) L → z ≡ too_short M L
  unfolding too_short
  short L e = e
