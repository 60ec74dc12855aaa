-- A POINT WITH ONE VALUE MOVED: what becomes of its bounds, of a sum of terms, and of the objective.
use Rattle.std.specs.Prelude.{ℕ, zero, suc, ◌≡◌, List, [], ◌∷◌, eqb, ℤ, ◌*ℤ◌, length, Float}
use Rattle.std.proofs.Common.{arith, sym, eqb→eq}
use Rattle.std.proofs.Math.Path.{subst}
use Rattle.std.proofs.Math.Dec.{eqb_refl}
use Rattle.floats.specs.Zed.{◌⊑◌, add_parts}
use Rattle.floats.specs.Points.{int}
use Rattle.tolerances.specs.Tol.{Term, at}
use Rattle.definition.specs.Model.{Model}
use Rattle.definition.specs.Tests.{taking, chosen}
use Rattle.points_kept.specs.Statements.{dot, Within}
use Rattle.best_kept.specs.Objective.{cost_below, cost}
use Rattle.points_kept.specs.Terms.{All}
use Rattle.points_kept.proofs.Terms.{all_map}
use Rattle.best_kept.specs.Moved.{NoLess, NoMore, moved}

pub moved_here : (v : ℕ) (a : ℤ) (x : ℕ → ℤ) → moved v a x v ≡ a
moved_here v a x = chosen (eqb v v) a (x v) (eqb_refl v)

-- ---- sums that do not rise, term by term
pub dot_le : (x y : ℕ → ℤ) (ts : List Term) → All (λ t. int t.coeff *ℤ x t.var ⊑ int t.coeff *ℤ y t.var) ts → dot x ts ⊑ dot y ts
unfolding dot
dot_le x y [] h = omega arith
dot_le x y (t ∷ ts) h =
    omega (arith, h.0, dot_le x y ts h.1, add_parts (int t.coeff *ℤ x t.var) (dot x ts), add_parts (int t.coeff *ℤ y t.var) (dot y ts))

pub cost_le : (M : Model) (n : ℕ) (x y : ℕ → ℤ) → ((j : ℕ) → int (at M.obj j) *ℤ x j ⊑ int (at M.obj j) *ℤ y j) → cost_below M n x ⊑ cost_below M n y
unfolding cost_below
cost_le M zero x y h = omega arith
cost_le M (suc n) x y h =
    omega (arith, h n, cost_le M n x y h, add_parts (cost_below M n x) (int (at M.obj n) *ℤ x n), add_parts (cost_below M n y) (int (at M.obj n) *ℤ y n))

module _ (v : ℕ) (a : ℤ) (x : ℕ → ℤ) where
  -- what holds of a at v, and of x's value at j, holds of the moved point's value at j
  pub at_each : (Q : ℕ → ℤ → Type 0) (j : ℕ) → Q v a → Q j (x j) → Q j (moved v a x j)
  at_each Q j here there = taking (Q j) (eqb j v) (λ t. subst (λ (i : ℕ). Q i a) (sym (eqb→eq j v t)) here) (λ t. there)

  pub moved_within : (n : ℕ) (lo hi : List Float) → int (at lo v) ⊑ a → a ⊑ int (at hi v) → Within n lo hi x → Within n lo hi (moved v a x)
  moved_within n lo hi l u k j h = at_each (λ i z. (int (at lo i) ⊑ z) × (z ⊑ int (at hi i))) j (l, u) (k j h)

  pub no_more_at : (k : ℤ) (j : ℕ) → (j ≡ v → k *ℤ a ⊑ k *ℤ x v) → k *ℤ moved v a x j ⊑ k *ℤ x j
  no_more_at k j f = taking (λ z. k *ℤ z ⊑ k *ℤ x j) (eqb j v) (λ t. subst (λ (i : ℕ). k *ℤ a ⊑ k *ℤ x i) (sym (eqb→eq j v t)) (f (eqb→eq j v t))) (λ t. omega arith)

  pub no_less_at : (k : ℤ) (j : ℕ) → (j ≡ v → k *ℤ x v ⊑ k *ℤ a) → k *ℤ x j ⊑ k *ℤ moved v a x j
  no_less_at k j f = taking (λ z. k *ℤ x j ⊑ k *ℤ z) (eqb j v) (λ t. subst (λ (i : ℕ). k *ℤ x i ⊑ k *ℤ a) (sym (eqb→eq j v t)) (f (eqb→eq j v t))) (λ t. omega arith)

  pub no_more : (ts : List Term) → All (NoMore v a x) ts → dot (moved v a x) ts ⊑ dot x ts
  no_more ts h = dot_le (moved v a x) x ts (all_map ts (λ t f. no_more_at (int t.coeff) t.var f) h)

  pub no_less : (ts : List Term) → All (NoLess v a x) ts → dot x ts ⊑ dot (moved v a x) ts
  no_less ts h = dot_le x (moved v a x) ts (all_map ts (λ t f. no_less_at (int t.coeff) t.var f) h)

  -- the objective does not rise where v's part of it does not
  pub no_dearer : (M : Model) → int (at M.obj v) *ℤ a ⊑ int (at M.obj v) *ℤ x v → cost M (moved v a x) ⊑ cost M x
  unfolding cost
  no_dearer M h =
      cost_le M (length M.lower) (moved v a x) x
      (λ j. no_more_at (int (at M.obj j)) j (λ e. subst (λ (i : ℕ). int (at M.obj i) *ℤ a ⊑ int (at M.obj i) *ℤ x v) (sym e) h))
