-- SAVELSBERGH'S ACTIVITY, what it is to be exact: both sums are the smallest and the largest value of the row over the box, each reached by a point of the box,
-- both magnitude sums are exact there, and no term counts as infinite. It is so of whole coefficients of distinct variables, up to 256, over a box of whole
-- numbers, working or emitted, which are the same numbers (Invariant, `Interval`). `ActivityEverywhere` has the theorem.
use Rattle.std.specs.Prelude.{ℕ, ◌+◌, ◌≤◌, ◌<◌, ◌≡◌, refl, ◌≢◌, Bool, eqb, ℤ, pos, ◌+ℤ◌, ◌*ℤ◌, length}
use native.Mathlib.Omega.{arith}
use Rattle.std.proofs.Common.{sym, ap, subst, ◌∙◌, eqb→eq}
use Rattle.std.proofs.Math.Path.{ap₂}
use mathlib.Core.List.{List, [], ◌∷◌}
use Rattle.std.proofs.Math.Dec.{eqb_refl, not_T}
use Rattle.std.specs.Float.Ieee.{lt}
use Rattle.floats.specs.Num.{choose, 0f}
use Rattle.floats.specs.Zed.{P, N, A, ◌⊑◌}
use Rattle.floats.specs.Points.{int}
use Rattle.tolerances.specs.Tol.{Term}
use Rattle.definition.specs.Model.{Model, Row}
use Rattle.definition.specs.Work.{Work}
use Rattle.definition.specs.Activities.{activity}
use Rattle.points_kept.specs.Statements.{PureInteger, dot}
use Rattle.definition.specs.Choices.{both}
use Rattle.definition.specs.Tests.{taking, chosen, unchosen}
use Rattle.points_kept.specs.Terms.{All, TermOk, Distinct, lowest, highest, low, high, low_mag, high_mag}
use Rattle.points_kept.proofs.Terms.{all_map, all_both, tail_other, tail_distinct}
use Rattle.points_kept.specs.Invariant.{IntervalAt}
use Rattle.points_kept.specs.Activity.{L, H}
use Rattle.points_kept.proofs.Activity.{above_low, below_high, activity_of}
use Rattle.points_kept.specs.ActivityExact.{ActivityExact, magnitude}

-- ---- a point that has the value f t at each term t, and b elsewhere
pub corner_point : (Term → ℤ) → (ℕ → ℤ) → List Term → ℕ → ℤ
corner_point f b [] v = b v
corner_point f b (t ∷ ts) v = choose (eqb t.var v) (f t) (corner_point f b ts v)

pub corner_is : (f : Term → ℤ) (b : ℕ → ℤ) (ts : List Term) → Distinct ts → All (λ t. corner_point f b ts t.var ≡ f t) ts
unfolding corner_point
corner_is f b [] d = tt
corner_is f b (t ∷ ts) d = (
  chosen (eqb t.var t.var) (f t) (corner_point f b ts t.var) (eqb_refl t.var),
  all_map {Q = λ u. (u.var ≢ t.var) × (corner_point f b ts u.var ≡ f u)} {R = λ u. choose (eqb t.var u.var) (f t) (corner_point f b ts u.var) ≡ f u} ts
      (λ u q. unchosen (eqb t.var u.var) (f t) (corner_point f b ts u.var) (not_T (eqb t.var u.var) (λ e. q.0 (sym (eqb→eq t.var u.var e)))) ∙ q.1)
      (all_both (λ u. u.var ≢ t.var) (λ u. corner_point f b ts u.var ≡ f u) ts (tail_other t ts d) (corner_is f b ts (tail_distinct t ts d))),
)

pub corner_in : (L H : ℕ → ℤ) (f : Term → ℤ) (ts : List Term) (v : ℕ) → All (λ t. (L t.var ⊑ f t) × (f t ⊑ H t.var)) ts → L v ⊑ H v → (L v ⊑ corner_point f L ts v) × (corner_point f L ts v ⊑ H v)
unfolding corner_point
corner_in L H f [] v i o = (omega arith, o)
corner_in L H f (t ∷ ts) v i o =
    taking (λ (z : ℤ). (L v ⊑ z) × (z ⊑ H v)) (eqb t.var v)
    (λ e. subst (λ (u : ℕ). (L u ⊑ f t) × (f t ⊑ H u)) (eqb→eq t.var v e) i.0)
    (λ _. corner_in L H f ts v i.1 o)

-- ---- there the terms come to the least, or the greatest
module _ (L H : ℕ → ℤ) (x : ℕ → ℤ) where
  pub at_low : (ts : List Term) → All (λ t. x t.var ≡ lowest L H t) ts → (dot x ts ≡ low L H ts) × (magnitude x ts ≡ low_mag L H ts)
  unfolding dot magnitude low low_mag
  at_low [] a = (refl, refl)
  at_low (t ∷ ts) a =
      let r = at_low ts a.1 in
      (ap₂ (λ (p q : ℤ). p +ℤ q) (ap (λ (z : ℤ). int t.coeff *ℤ z) a.0) r.0, ap₂ (λ (p q : ℕ). p + q) (ap (λ (z : ℤ). A (int t.coeff *ℤ z)) a.0) r.1)

  pub at_high : (ts : List Term) → All (λ t. x t.var ≡ highest L H t) ts → (dot x ts ≡ high L H ts) × (magnitude x ts ≡ high_mag L H ts)
  unfolding dot magnitude high high_mag
  at_high [] a = (refl, refl)
  at_high (t ∷ ts) a =
      let r = at_high ts a.1 in
      (ap₂ (λ (p q : ℤ). p +ℤ q) (ap (λ (z : ℤ). int t.coeff *ℤ z) a.0) r.0, ap₂ (λ (p q : ℕ). p + q) (ap (λ (z : ℤ). A (int t.coeff *ℤ z)) a.0) r.1)

module _ (M : Model) (pure : PureInteger M) (w : Work) (g : (v : ℕ) → v < length M.lower → IntervalAt w.wlo w.whi w.elo w.ehi v) where
  pub lowest_in : (t : Term) → TermOk (length M.lower) t → (L M w t.var ⊑ lowest (L M w) (H M w) t) × (lowest (L M w) (H M w) t ⊑ H M w t.var)
  unfolding lowest
  lowest_in t c = let o = (g t.var c.var).order in both (λ (z : ℤ). (L M w t.var ⊑ z) × (z ⊑ H M w t.var)) (lt 0f t.coeff) (omega arith, o) (o, omega arith)

  pub highest_in : (t : Term) → TermOk (length M.lower) t → (L M w t.var ⊑ highest (L M w) (H M w) t) × (highest (L M w) (H M w) t ⊑ H M w t.var)
  unfolding highest
  highest_in t c = let o = (g t.var c.var).order in both (λ (z : ℤ). (L M w t.var ⊑ z) × (z ⊑ H M w t.var)) (lt 0f t.coeff) (o, omega arith) (omega arith, o)

  -- of any terms of distinct variables that are the model's
  pub activity_exact_of : (row : Row) (working : Bool) → length row.terms ≤ 256 → All (TermOk (length M.lower)) row.terms → Distinct row.terms
      → ActivityExact M w row.terms (activity M w row working)
  activity_exact_of row working n c d =
      let ts = row.terms in
      let a = activity_of M w pure g row working n c in
      let lo = lowest (L M w) (H M w) in
      let hi = highest (L M w) (H M w) in
      let p = at_low (L M w) (H M w) (corner_point lo (L M w) ts) ts (corner_is lo (L M w) ts d) in
      let q = at_high (L M w) (H M w) (corner_point hi (L M w) ts) ts (corner_is hi (L M w) ts d) in
      record {
        smallest = λ x h. omega (arith, above_low M w x ts h c, ap P a.l.sum.is, ap N a.l.sum.is);
        largest = λ x h. omega (arith, below_high M w x ts h c, ap P a.u.sum.is, ap N a.u.sum.is);
        at_smallest = record {
          x = corner_point lo (L M w) ts;
          inside = λ v h. corner_in (L M w) (H M w) lo ts v (all_map {Q = TermOk (length M.lower)} {R = λ t. (L M w t.var ⊑ lo t) × (lo t ⊑ H M w t.var)} ts lowest_in c) (g v h).order;
          sum = record { whole = a.l.sum.whole; is = a.l.sum.is ∙ sym p.0 };
          size = record { whole = a.l.size.whole; is = a.l.size.is ∙ ap pos (sym p.1) };
        };
        at_largest = record {
          x = corner_point hi (L M w) ts;
          inside = λ v h. corner_in (L M w) (H M w) hi ts v (all_map {Q = TermOk (length M.lower)} {R = λ t. (L M w t.var ⊑ hi t) × (hi t ⊑ H M w t.var)} ts highest_in c) (g v h).order;
          sum = record { whole = a.u.sum.whole; is = a.u.sum.is ∙ sym q.0 };
          size = record { whole = a.u.size.whole; is = a.u.size.is ∙ ap pos (sym q.1) };
        };
        ninf_l = a.l.none;
        ninf_u = a.u.none;
        slack_l = a.l.slack;
        slack_u = a.u.slack;
      }
