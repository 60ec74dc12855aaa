-- `rounds`: the waves and the coefficient step lose no point of the state, and dual fixing none that is not dominated, as long as no coefficient is rewritten,
-- whatever their order and number.
use Prim.Native.Nat.{ℕ, zero, suc, ◌-◌, ◌<◌}
use Rattle.std.specs.Prelude.{◌≡◌, refl, eqb, ℤ}
use Rattle.std.proofs.Common.{sym, subst, inl, inr, eqb→eq}
use Rattle.std.proofs.Math.Bool.{Bool}
use Rattle.floats.specs.WholeRounding.{NonNeg}
use Rattle.definition.specs.Params.{max_waves}
use Rattle.definition.specs.Model.{Model, is_mip}
use Rattle.definition.specs.Work.{Work, Step, ◌>>=◌}
use Rattle.definition.specs.Wave.{waves}
use Rattle.definition.specs.Tighten.{tighten_binary_coeffs}
use Rattle.definition.specs.Dual.{dual_fix}
use Rattle.definition.specs.Rounds.{dual_step, after_waves, rounds}
use Rattle.points_kept.specs.Statements.{PureInteger, Point}
use Rattle.definition.specs.Choices.{both}
use Rattle.definition.specs.Tests.{taking}
use Rattle.points_kept.specs.Invariant.{GoodW, Each, stopped, went}
use Rattle.points_kept.proofs.Waves.{waves_ok}
use Rattle.points_kept.specs.FourthCount.{Counted, halts, goes}
use Rattle.points_kept.proofs.FourthCount.{waves_c, dual_c}
use Rattle.points_kept.proofs.Coefficients.{coeffs_ok}
use Rattle.points_kept.specs.Dominance.{Dominance, At, Dominating}
use Rattle.points_kept.proofs.Dominance.{begins, goes_on}
use Rattle.points_kept.specs.Rounds.{Ended, OkUpTo, ends, runs}

module _ {M : Model} {D : Dominance} where
  pub then_on : {s : Step} {f : Work → Step} → Ended M D s → ((w : Work) → OkUpTo M D w → Ended M D (f w)) → Ended M D (s >>= f)
  then_on (ends n) q = ends n
  then_on (runs {w} p) q = q w p

  pub of_good : {w : Work} {s : Step} → Dominating M D w → Each M (At M w) (GoodW M (At M w)) s → Ended M D s
  of_good d (stopped n) = ends (inl (λ x p. let q = d.dominates x p in n q.0 q.1))
  of_good {w} d (went {w = w1} g) = runs (inl (goes_on M D w w1 d g))

  pub of_count_lem : {n : ℕ} {s : Step} → 0 < n → Counted n s → Ended M D s
  of_count_lem h (halts {k} e) = ends {k = k} (inr (subst (λ (n : ℕ). 0 < n) (sym e) h))
  of_count_lem h (goes {w} f) = runs {w = w} (inr (subst (λ (n : ℕ). 0 < n) (sym f.is) h))

module _ (M : Model) (D : Dominance) (self : (x : ℕ → ℤ) → D x x) (pure : PureInteger M) (margin : NonNeg M.params.redundant_margin)
    (dual : M.mode ≡ 2 → (w : Work) → Dominating M D w → Dominating M D (dual_fix M w).0) where
  pub waves_on : (n : ℕ) (w : Work) → OkUpTo M D w → Ended M D (waves M n w)
  waves_on n w (inl d) = of_good d (waves_ok M pure margin n w d.good)
  waves_on n w (inr p) = of_count_lem p (waves_c M w.counts.coeffsTightened n w (record { is = refl }))

  pub coeffs_on : (w : Work) → OkUpTo M D w → OkUpTo M D (tighten_binary_coeffs M w).0
  coeffs_on w (inl d) = elim (coeffs_ok M (At M w) pure w (inl d.good)) [ inl g ↦ inl (goes_on M D w (tighten_binary_coeffs M w).0 d g) | inr p ↦ inr p ]
  coeffs_on w (inr c) = elim (coeffs_ok M (Point M) pure w (inr c)) [ inl g ↦ inl (begins M D self (tighten_binary_coeffs M w).0 g) | inr p ↦ inr p ]

  pub dual_on : (w : Work) → M.mode ≡ 2 → OkUpTo M D w → OkUpTo M D (dual_fix M w).0
  dual_on w two (inl d) = inl (dual two w d)
  dual_on w two (inr p) = inr (subst (λ (n : ℕ). 0 < n) (sym (dual_c M w.counts.coeffsTightened w (record { is = refl })).is) p)

  pub after_ok : (w : Work) → OkUpTo M D w → OkUpTo M D (after_waves M w).0
  unfolding after_waves dual_step
  after_ok w h =
      let Q : Work × Bool → Type 0 = λ p. OkUpTo M D p.0 in
      both Q (is_mip M) (taking Q (eqb M.mode 2) (λ t. dual_on _ (eqb→eq M.mode 2 t) (coeffs_on w h)) (λ t. coeffs_on w h)) h

  pub rounds_ok : (n : ℕ) (w : Work) → OkUpTo M D w → Ended M D (rounds M n w)
  unfolding rounds
  rounds_ok zero w h = runs h
  rounds_ok (suc n) w h = then_on (waves_on (max_waves M.params - w.counts.passes) w h)
      (λ w1 k. both (Ended M D) (after_waves M w1).1 (rounds_ok n (after_waves M w1).0 (after_ok w1 k)) (runs (after_ok w1 k)))
