-- PRESOLVE KEEPS EXACTLY THE POINTS of a model of whole numbers alone, with dual fixing off, where no coefficient is rewritten: `points_kept`. It is one case of
-- a theorem up to dominance, `kept_up_to`; best_kept has two others, for dual fixing on or off.
use Rattle.std.specs.Prelude.{ℕ, ◌+◌, ◌<◌, ◌≡◌, ◌↔◌, ℤ, length, Float}
use native.Mathlib.Omega.{arith}
use Rattle.std.proofs.Math.Path.{refl}
use Rattle.std.proofs.Common.{sym, subst, ◌∙◌, inl, inr}
use mathlib.Core.List.{List, []}
use Rattle.std.specs.Float.Ieee.{le, fits, of_bits}
use Rattle.floats.specs.WholeRounding.{NonNeg}
use Rattle.definition.specs.declared.Counts.{Counts}
use Rattle.definition.specs.Params.{params, Params}
use Rattle.definition.specs.Model.{Reduced, Answer, infeasible, done, Model}
use Rattle.definition.specs.Work.{Work, Step, stop, next}
use Rattle.definition.specs.Begin.{Bounds, cross, bounds, Rows, false_row, rows_are, crossed, round_from, read_from}
use Rattle.definition.specs.Dual.{dual_fix}
use Rattle.definition.specs.Rounds.{rounds}
use Rattle.definition.specs.Presolve.{start, after_rounding, presolve, finish}
use Rattle.points_kept.specs.Statements.{Point, MeetsReduced, PureInteger, Exact}
use Rattle.definition.specs.Tests.{taking}
use Rattle.points_kept.specs.Invariant.{GoodW}
use Rattle.points_kept.proofs.Output.{not_zero, finish_ok}
use Rattle.points_kept.specs.Output.{Keeps}
use Rattle.points_kept.specs.Dominance.{Dominance, At, Dominating, KeptUpTo}
use Rattle.points_kept.proofs.Dominance.{begins}
use Rattle.points_kept.specs.Rounds.{Ended, ends, runs}
use Rattle.points_kept.proofs.Rounds.{rounds_ok}
use Rattle.points_kept.proofs.Start.{crossed_ok, uncrossed, round_from_lem, read_from_lem, start_good}
use Rattle.points_kept.specs.Start.{InOrder, Rounded, RoundedB, ReadR}
use Rattle.points_kept.specs.Theorem.{Itself}

module _ (M : Model) (D : Dominance) (self : (x : ℕ → ℤ) → D x x) (pure : PureInteger M) where
  -- ---- the end: a state's points are those that are answered
  pub of_state : (w : Work) (a : Answer) → Dominating M D w → Keeps M (At M w) a → KeptUpTo M D a
  of_state w (infeasible k) d e = λ z x p. let q = d.dominates x p in e z q.0 q.1
  of_state w (done R) d e = λ z.
      record { whole = (e z).0; points = (e z).2; dominates = λ x p. let q = d.dominates x p in (q.0, (e z).1 q.0 q.1, q.2) }

  pub of_points : (a : Answer) → Keeps M (Point M) a → KeptUpTo M D a
  of_points (infeasible k) e = e
  of_points (done R) e = λ z. record { whole = (e z).0; points = (e z).2; dominates = λ x p. (x, (e z).1 x p, self x) }

  pub finished : (s : Step) → Ended M D s → KeptUpTo M D (finish M s)
  finished (stop k) (ends (inl n)) = unfold finish in (λ z. n)
  finished (stop k) (ends (inr c)) = unfold finish in (λ z x p. not_zero k.coeffsTightened c z)
  finished (next w) (runs (inl d)) = of_state w (finish M (next w)) d (finish_ok M (At M w) pure w (inl d.good))
  finished (next w) (runs (inr c)) = of_points (finish M (next w)) (finish_ok M (Point M) pure w (inr c))

  module _ (margin : NonNeg M.params.redundant_margin) (dual : M.mode ≡ 2 → (w : Work) → Dominating M D w → Dominating M D (dual_fix M w).0) where
    pub started : (ls hs : List Float) (s : Rows) → Rounded M pure ls hs → InOrder M → ReadR M pure ls hs (length M.rhs) s → KeptUpTo M D (start M ls hs s)
    unfolding start
    started ls hs (false_row n) r u g = λ z x p. g x p
    started ls hs (rows_are rows queue dirty n) r u g =
        finished _ (rounds_ok M D self pure margin dual M.params.max_rounds _ (inl (begins M D self _ (start_good M pure ls hs rows r u g))))

    pub rounded_ok : (b : Bounds) → RoundedB M pure b → InOrder M → KeptUpTo M D (after_rounding M b)
    unfolding after_rounding
    rounded_ok cross r u = λ z x p. r x p
    rounded_ok (bounds ls hs) r u =
        started ls hs _ r u
        (subst (λ (k : ℕ). ReadR M pure ls hs k (read_from M (length M.rhs) 0 (rows_are [] [] [] 0))) (nought (length M.rhs))
        (read_from_lem M pure ls hs (length M.rhs) 0 (rows_are [] [] [] 0) (omega arith) (record { len = refl; row = λ j h. absurd (none_below j h) })))
      where
        nought : (n : ℕ) → 0 + n ≡ n
        nought n = omega arith

        none_below : (j : ℕ) → j < 0 → ⊥
        none_below j h = omega arith

    -- PRESOLVE KEEPS THE POINTS UP TO DOMINANCE, where dual fixing does, for any settings whose redundancy margin is 0 or more
    pub kept_up_to : KeptUpTo M D (presolve M)
    unfolding presolve
    kept_up_to =
        taking (KeptUpTo M D) (crossed M.lower M.upper)
        (λ t z x p. crossed_ok M.lower M.upper x pure.shape.uppers
        (λ v h. record { lo = (pure.numbers.lower v h).whole; hi = (pure.numbers.upper v h).whole; above = (p.bounds v h).0; below = (p.bounds v h).1 }) t)
        (λ t. rounded_ok (round_from M (length M.lower) 0 (bounds M.lower M.upper))
        (round_from_lem M pure (length M.lower) 0 (bounds M.lower M.upper) (omega arith)
        (record {
          lo_length = refl;
          hi_length = pure.shape.uppers;
          lo = λ v h. record { whole = (pure.numbers.lower v h).whole; is = refl };
          hi = λ v h. record { whole = (pure.numbers.upper v h).whole; is = refl };
        }))
        (λ v h. uncrossed M.lower M.upper v pure.shape.uppers t h))

-- with dual fixing off, for any settings whose redundancy margin is 0 or more
module _ (M : Model) (pure : PureInteger M) (one : M.mode ≡ 1) (margin : NonNeg M.params.redundant_margin) where
  pub exact : (a : Answer) → KeptUpTo M Itself a → Exact M a
  exact (infeasible k) e = e
  exact (done R) e = λ z. ((e z).whole, λ x. ((e z).points x, λ p. let q = (e z).dominates x p in subst (MeetsReduced M R) q.2 q.1))

  no_dual : M.mode ≡ 2 → (w : Work) → Dominating M Itself w → Dominating M Itself (dual_fix M w).0
  no_dual two w d = absurd (off (sym one ∙ two))
    where
      off : ◌≡◌ {A = ℕ} 1 2 → ⊥
      off e = omega arith

  -- from any state of the invariant, any number of rounds
  pub from-good : (n : ℕ) (w : Work) → GoodW M (Point M) w → Exact M (finish M (rounds M n w))
  from-good n w g =
      exact (finish M (rounds M n w))
      (finished M Itself (λ x. refl) pure (rounds M n w) (rounds_ok M Itself (λ x. refl) pure margin no_dual n w (inl (begins M Itself (λ x. refl) w g))))

  pub points_kept_by : Exact M (presolve M)
  points_kept_by = exact (presolve M) (kept_up_to M Itself (λ x. refl) pure margin no_dual)

pub margin_ok : NonNeg params.redundant_margin
unfolding le fits of_bits
margin_ok = record { held = record { fits = tt }; low = record { le = tt } }

-- THE THEOREM, for the settings of the Rust
pub points_kept : (M : Model) → PureInteger M → M.mode ≡ 1 → M.params ≡ params → Exact M (presolve M)
points_kept M pure one e = points_kept_by M pure one (subst (λ (p : Params). NonNeg p.redundant_margin) (sym e) margin_ok)

-- THE THEOREM for each kind of answer: infeasible has no point, and a reduced model has the same points
pub no_point : (M : Model) → PureInteger M → M.mode ≡ 1 → M.params ≡ params → (k : Counts) → presolve M ≡ infeasible k → k.coeffsTightened ≡ 0 → (x : ℕ → ℤ) → Point M x → ⊥
no_point M pure one e k a z = subst (Exact M) a (points_kept M pure one e) z

pub same_points : (M : Model) → PureInteger M → M.mode ≡ 1 → M.params ≡ params → (R : Reduced) → presolve M ≡ done R → R.counts.coeffsTightened ≡ 0 → (x : ℕ → ℤ) → MeetsReduced M R x ↔ Point M x
same_points M pure one e R a z = (subst (Exact M) a (points_kept M pure one e) z).1
