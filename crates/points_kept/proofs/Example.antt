-- THE THEOREM IS NOT EMPTY: two of 01's worked cases are models that it speaks of, both accepted, with p Integer from 0 to 10: 2p ≤ 7, whose points are kept, and
-- 2p = 7, which has none.
use Rattle.std.specs.Prelude.{ℕ, zero, suc, ◌^◌, ◌≤◌, ◌<◌, refl, ◌≡◌, ◌⊎◌, ℤ, pos, get_or}
use Rattle.std.proofs.Common.{arith, sym, subst, inl}
use Rattle.std.proofs.Math.Option.{none, some}
use Rattle.std.specs.Float.Ieee.{of_int, round, le, lt, eq, fits, of_bits}
use Rattle.floats.specs.Zed.{A}
use Rattle.floats.specs.Points.{Bounded}
use Rattle.tolerances.specs.Tol.{at}
use Rattle.tolerances.specs.Laws.{laws}
use Rattle.definition.specs.Model.{infeasible, from, upto, nnz, rhs_of, counts}
use Rattle.definition.specs.Presolve.{presolve}
use Rattle.definition.specs.Refusal.{shortest, refusal, judging}
use Rattle.points_kept.specs.Statements.{PureInteger, Point, Exact}
use Rattle.definition.specs.Accepted.{accepted_shaped}
use Rattle.points_kept.proofs.Theorem.{points_kept, no_point}
use Rattle.definition.specs.Cases.{cases, writing, everything}
use Rattle.points_kept.specs.Example.{at_most, equal, fourth, model_of, number, twice}

pub are_cases : (model_of 0 cases ≡ some at_most) × (model_of 2 cases ≡ some equal)
unfolding twice model_of cases writing
are_cases = (refl, refl)

-- with the shortest slices that they may lend
pub accepted : (refusal at_most (shortest at_most) ≡ none) × (refusal equal (shortest equal) ≡ none)
unfolding twice round of_int judging
accepted = (refl, refl)

pub bounded : (n k : ℕ) → n ≤ k → n ≤ 2 ^ 53 → Bounded k (number n)
bounded n k h l = let i = laws.of_is (pos n) (omega arith) in record { whole = i.whole; small = subst (λ (z : ℤ). A z ≤ k) (sym i.is) (omega arith) }

-- of a list of one element
pub only : (Q : ℕ → Type 0) → Q 0 → (k : ℕ) → k < 1 → Q k
only Q q zero h = q
only Q q (suc k) h = absurd (omega arith)

pub twice_pure : (op : ℕ) → refusal (twice op) (shortest (twice op)) ≡ none → PureInteger (twice op)
unfolding twice from upto nnz rhs_of le lt eq fits of_bits round
twice_pure op e =
    record {
      shape = accepted_shaped (twice op) (shortest (twice op)) e;
      numbers = record {
        integral = only (λ v. (get_or (twice op).domain v 0 ≡ 0) ⊎ (get_or (twice op).domain v 0 ≡ 2)) (inl refl);
        lower = only (λ v. Bounded 1048576 (at (twice op).lower v)) (bounded 0 1048576 (omega arith) (omega arith));
        upper = only (λ v. Bounded 1048576 (at (twice op).upper v)) (bounded 10 1048576 (omega arith) (omega arith));
        coeff = only (λ k. Bounded 32768 (at (twice op).coeff k)) (bounded 2 32768 (omega arith) (omega arith));
        rhs = only (λ r. Bounded 1099511627776 (rhs_of (twice op) r)) (bounded 7 1099511627776 (omega arith) (omega arith));
        terms = only (λ r. nnz (twice op) r ≤ 256) (omega arith);
        feas = record { held = record { fits = tt }; low = record { le = tt }; high = record { le = tt } };
        int_tol = record { held = record { fits = tt }; low = record { le = tt }; high = record { le = tt } };
        mode = inl refl;
      };
    }

pub at_most_unrewritten : fourth (presolve at_most) ≡ 0
unfolding twice fourth everything
at_most_unrewritten = refl

pub at_most_kept : Exact at_most (presolve at_most)
unfolding twice
at_most_kept = points_kept at_most (twice_pure 1 accepted.0) refl refl

-- ---- 2p = 7: infeasible with nothing rewritten, so it has no point
pub equal_infeasible : presolve equal ≡ infeasible (counts 0 0 0 0 1)
unfolding twice everything
equal_infeasible = refl

pub equal_no_point : (x : ℕ → ℤ) → Point equal x → ⊥
unfolding twice
equal_no_point = no_point equal (twice_pure 0 accepted.1) refl refl (counts 0 0 0 0 1) equal_infeasible refl
