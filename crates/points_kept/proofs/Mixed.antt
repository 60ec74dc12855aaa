-- `activity_exact` IS NOT EMPTY where `Invariant` ends: an accepted farm model in mode 2, with u Boolean, w Integer from 0 to 8 and x Integer from 0 to 5,
-- objective x. Of its rows 3u + w ≤ 10 and u + w ≥ 1 the first is rewritten, to a coefficient that is not whole, and x is fixed by the dual step. In the state
-- that the rounds end in the second row's activity is exact: from 0 to 9.
use Rattle.std.specs.Prelude.{ℕ, zero, suc, ◌≤◌, ◌<◌, refl, ◌≡◌, ◌⊎◌, Bool, true, false, [], ◌∷◌, get_or}
use Rattle.std.proofs.Common.{arith, inl, inr}
use Rattle.std.proofs.Math.Option.{none}
use Rattle.std.specs.Float.Ieee.{of_int, round, le, lt, eq, fits, of_bits}
use Rattle.floats.specs.Points.{Bounded}
use Rattle.tolerances.specs.Tol.{at, term}
use Rattle.definition.specs.Model.{Model, from, upto, nnz, rhs_of}
use Rattle.definition.specs.Work.{Work, Step, stop, next, no_row}
use Rattle.definition.specs.Activities.{activity}
use Rattle.definition.specs.Refusal.{shortest, refusal, judging}
use Rattle.definition.specs.Cases.{everything, #, bits}
use Rattle.rows_kept.specs.Steps.{Each, went}
use Rattle.rows_kept.specs.States.{Reaches, begins}
use Rattle.rows_kept.proofs.States.{rounds_on}
use Rattle.points_kept.specs.Statements.{PureInteger}
use Rattle.definition.specs.Accepted.{accepted_shaped}
use Rattle.points_kept.specs.ActivityExact.{ActivityExact}
use Rattle.points_kept.proofs.Example.{bounded}
use Rattle.points_kept.proofs.ActivityEverywhere.{activity_exact}
use Rattle.points_kept.specs.Mixed.{ended, mixed, mixed_end, mixed_start}

pub mixed_accepted : refusal mixed (shortest mixed) ≡ none
unfolding mixed round of_int judging
mixed_accepted = refl

-- of lists of two, three and four elements
pub two : (Q : ℕ → Type 0) → Q 0 → Q 1 → (k : ℕ) → k < 2 → Q k
two Q a b zero h = a
two Q a b (suc zero) h = b
two Q a b (suc (suc k)) h = absurd (omega arith)

pub three : (Q : ℕ → Type 0) → Q 0 → Q 1 → Q 2 → (k : ℕ) → k < 3 → Q k
three Q a b c zero h = a
three Q a b c (suc k) h = two (λ n. Q (suc n)) b c k (omega arith)

pub four : (Q : ℕ → Type 0) → Q 0 → Q 1 → Q 2 → Q 3 → (k : ℕ) → k < 4 → Q k
four Q a b c d zero h = a
four Q a b c d (suc k) h = three (λ n. Q (suc n)) b c d k (omega arith)

-- numbers of the size of a bound, and of a coefficient
pub upto_20 : (n : ℕ) → n ≤ 1048576 → Bounded 1048576 (# n)
upto_20 n h = bounded n 1048576 h (omega arith)

pub upto_15 : (n : ℕ) → n ≤ 32768 → Bounded 32768 (# n)
upto_15 n h = bounded n 32768 h (omega arith)

pub mixed_pure : PureInteger mixed
unfolding mixed from upto nnz rhs_of le lt eq fits of_bits round
mixed_pure =
    record {
      shape = accepted_shaped mixed (shortest mixed) mixed_accepted;
      numbers = record {
        integral = three (λ v. (get_or mixed.domain v 0 ≡ 0) ⊎ (get_or mixed.domain v 0 ≡ 2)) (inr refl) (inl refl) (inl refl);
        lower = three (λ v. Bounded 1048576 (at mixed.lower v)) (upto_20 0 (omega arith)) (upto_20 0 (omega arith)) (upto_20 0 (omega arith));
        upper = three (λ v. Bounded 1048576 (at mixed.upper v)) (upto_20 1 (omega arith)) (upto_20 8 (omega arith)) (upto_20 5 (omega arith));
        coeff = four (λ k. Bounded 32768 (at mixed.coeff k)) (upto_15 3 (omega arith)) (upto_15 1 (omega arith)) (upto_15 1 (omega arith)) (upto_15 1 (omega arith));
        rhs = two (λ r. Bounded 1099511627776 (rhs_of mixed r)) (bounded 10 1099511627776 (omega arith) (omega arith)) (bounded 1 1099511627776 (omega arith) (omega arith));
        terms = two (λ r. nnz mixed r ≤ 256) (omega arith) (omega arith);
        feas = record { held = record { fits = tt }; low = record { le = tt }; high = record { le = tt } };
        int_tol = record { held = record { fits = tt }; low = record { le = tt }; high = record { le = tt } };
        mode = inr refl;
      };
    }

pub start_reached : Reaches mixed mixed_start
unfolding mixed mixed_start everything
start_reached = begins refl refl refl

pub end_reached : {M : Model} (w : Work) (s : Step) → Reaches M w → Each (Reaches M) s → Reaches M (ended w s)
unfolding ended
end_reached w (stop k) h o = h
end_reached w (next x) h (went o) = o

pub mixed_reached : Reaches mixed mixed_end
unfolding mixed_end
mixed_reached = end_reached mixed_start _ start_reached (rounds_on mixed mixed.params.max_rounds mixed_start start_reached)

-- the first row is rewritten, a variable is fixed, and the second row is as it was
pub first_rewritten : ((get_or mixed_end.rows 0 no_row).touched ≡ true) × ((get_or mixed_end.rows 0 no_row).terms ≡ term 0 (bits 0x3ff0_0004_31bd_ebe0) ∷ term 1 (# 1) ∷ [])
unfolding mixed mixed_start mixed_end ended everything
first_rewritten = (refl, refl)

pub one_fixed : (mixed_end.counts.varsFixed ≡ 1) × (mixed_end.counts.coeffsTightened ≡ 1)
unfolding mixed mixed_start mixed_end ended everything
one_fixed = (refl, refl)

pub second_untouched : ((get_or mixed_end.rows 1 no_row).touched ≡ false) × ((get_or mixed_end.rows 1 no_row).terms ≡ term 0 (# 1) ∷ term 1 (# 1) ∷ [])
unfolding mixed mixed_start mixed_end ended everything
second_untouched = (refl, refl)

-- its activity is exact, and comes to 0 and 9
pub second_exact : (working : Bool)
    → ActivityExact mixed mixed_end (get_or mixed_end.rows 1 no_row).terms (activity mixed mixed_end (get_or mixed_end.rows 1 no_row) working)
second_exact working = activity_exact mixed mixed_pure mixed_end mixed_reached 1 second_untouched.0 working

pub second_sums : (eq (activity mixed mixed_end (get_or mixed_end.rows 1 no_row) true).l (# 0) ≡ true) × ((activity mixed mixed_end (get_or mixed_end.rows 1 no_row) true).u ≡ # 9)
unfolding mixed mixed_start mixed_end ended everything
second_sums = (refl, refl)
