-- `Work::activity` is exact: the sum at each corner is the least, or the greatest, that the row comes to over the box, its magnitudes sum exactly, and no term is infinite.
use Prim.Native.Nat.{ℕ, suc, ◌+◌, ◌*◌, ◌^◌, ◌≤◌, ◌<◌}
use native.Mathlib.Omega.{arith}
use Rattle.std.proofs.Common.{add-zero, zero-add, sym, ◌∙◌}
use Rattle.std.specs.Prelude.{◌≡◌, Bool, T, ℤ, pos, ◌+ℤ◌, ◌*ℤ◌, length, Float}
use Rattle.std.proofs.Math.Path.{refl, ap, subst₃}
use Rattle.std.proofs.Math.Bool.{true, false}
use mathlib.Core.List.{List, [], ◌∷◌}
use Rattle.std.proofs.Math.IntN.{+ℤ_assoc, +ℤ_idl, +ℤ_idr}
use Rattle.std.specs.Float.Ieee.{lt}
use Rattle.floats.specs.Num.{choose, ◌⊕◌, ◌⊗◌, 0f, is_finite, abs}
use Rattle.floats.specs.Zed.{P, N, A, ◌⊑◌, add_parts}
use Rattle.floats.specs.Points.{int, Bounded, Is}
use Rattle.floats.specs.WholeRounding.{NonNeg, Tol}
use Rattle.tolerances.specs.Tol.{Term, bound_tolerance, at}
use Rattle.tolerances.specs.Budget.{row_tol}
use Rattle.tolerances.specs.Laws.{laws}
use Rattle.definition.specs.declared.Activity.{Activity}
use Rattle.definition.specs.Model.{Model, Row, range_min, range_max}
use Rattle.definition.specs.Work.{Work, bound_tol}
use Rattle.definition.specs.Activities.{no_activity, activity_step, activity_from, activity}
use Rattle.points_kept.specs.Statements.{PureInteger, dot, Within}
use Rattle.points_kept.proofs.Integers.{size_add, mul_mono, mul_anti}
use Rattle.definition.specs.Choices.{both}
use Rattle.definition.specs.Tests.{taking, if_true, alike}
use Rattle.points_kept.proofs.WholeFloats.{finite, of_lt, of_nlt, zero_is, whole_nonneg, tolerance, abs_bounded, abs_pos, whole_abs, sum, product}
use Rattle.points_kept.specs.WholeFloats.{Part, Mag}
use Rattle.points_kept.specs.Terms.{All, TermOk, lowest, highest, least, most, low, high, low_mag, high_mag}
use Rattle.points_kept.specs.Invariant.{IntervalAt}
use Rattle.points_kept.specs.Activity.{ActivityOf, Bounds, Corner, H, HighIs, L, LowIs}

pub corner_mag : {k m n : ℕ} {z : ℤ} {s a l : Float} → Corner k z m s n a l → Mag (k * 2 ^ 35) a
corner_mag c = record { whole = c.size.whole; nonneg = omega (arith, ap P c.size.is, ap N c.size.is); small = omega (arith, ap P c.size.is, ap N c.size.is, c.size_small) }

-- one term more: c its part, y as a number, t its slack
pub corner_step : {k m n : ℕ} {z y : ℤ} {s a l c t : Float} → k < 256 → Corner k z m s n a l → Part c y → NonNeg t
    → Corner (suc k) (z +ℤ y) (m + A y) (choose (is_finite c) (s ⊕ c) s) (choose (is_finite c) n (suc n)) (choose (is_finite c) (a ⊕ abs c) a) (l ⊕ t)
corner_step {k} {m} {z = z} {y = y} {c = c} h o p t =
    let f : T (is_finite c) = finite c p.0.whole in
    let b = whole_abs c p.0.whole in
    let ab : Is (abs c) (pos (A y)) = record { whole = b.whole; is = b.is ∙ ap (λ (u : ℤ). pos (A u)) p.0.is } in
    record {
      sum = if_true (λ (x : Float). Is x (z +ℤ y)) (is_finite c) _ f (sum (k * 2 ^ 35) (2 ^ 35) o.sum p.0 o.small p.1 (omega arith));
      none = if_true (λ (x : ℕ). x ≡ 0) (is_finite c) _ f o.none;
      small = omega (arith, size_add z y, o.small, p.1);
      size = if_true (λ (x : Float). Is x (pos (m + A y))) (is_finite c) _ f (sum (k * 2 ^ 35) (2 ^ 35) o.size ab (omega (arith, o.size_small)) (omega (arith, p.1)) (omega arith));
      size_small = omega (arith, o.size_small, p.1);
      slack = laws.nonneg_add o.slack t;
    }

pub nothing : Corner 0 (pos 0) 0 0f 0 0f 0f
nothing =
    let z = zero_is in
    record { sum = z; none = refl; small = omega arith; size = z; size_small = omega arith; slack = whole_nonneg z.whole (omega (arith, ap P z.is, ap N z.is)) }

module _ (M : Model) (w : Work) where
  -- ---- within the bounds the terms come to no less than the least and no more than the greatest
  pub above_least : (x : ℕ → ℤ) (t : Term) → Within (length M.lower) w.elo w.ehi x → TermOk (length M.lower) t → least (L M w) (H M w) t ⊑ int t.coeff *ℤ x t.var
  unfolding lowest
  above_least x t h c =
      taking (λ (z : ℤ). int t.coeff *ℤ z ⊑ int t.coeff *ℤ x t.var) (lt 0f t.coeff)
      (λ p. mul_mono (int t.coeff) ((L M w) t.var) (x t.var)
      (omega (arith, of_lt zero_is.whole c.coeff.whole (record { lt = p }), ap P zero_is.is, ap N zero_is.is)) (h t.var c.var).0)
      (λ p. mul_anti (int t.coeff) (x t.var) ((H M w) t.var)
      (omega (arith, of_nlt zero_is.whole c.coeff.whole (record { nlt = p }), ap P zero_is.is, ap N zero_is.is)) (h t.var c.var).1)

  pub below_most : (x : ℕ → ℤ) (t : Term) → Within (length M.lower) w.elo w.ehi x → TermOk (length M.lower) t → int t.coeff *ℤ x t.var ⊑ most (L M w) (H M w) t
  unfolding highest
  below_most x t h c =
      taking (λ (z : ℤ). int t.coeff *ℤ x t.var ⊑ int t.coeff *ℤ z) (lt 0f t.coeff)
      (λ p. mul_mono (int t.coeff) (x t.var) ((H M w) t.var)
      (omega (arith, of_lt zero_is.whole c.coeff.whole (record { lt = p }), ap P zero_is.is, ap N zero_is.is)) (h t.var c.var).1)
      (λ p. mul_anti (int t.coeff) ((L M w) t.var) (x t.var)
      (omega (arith, of_nlt zero_is.whole c.coeff.whole (record { nlt = p }), ap P zero_is.is, ap N zero_is.is)) (h t.var c.var).0)

  pub above_low : (x : ℕ → ℤ) (ts : List Term) → Within (length M.lower) w.elo w.ehi x → All (TermOk (length M.lower)) ts → low (L M w) (H M w) ts ⊑ dot x ts
  unfolding low dot
  above_low x [] h a = omega arith
  above_low x (t ∷ ts) h a =
      omega (arith, above_least x t h a.0, above_low x ts h a.1, add_parts (least (L M w) (H M w) t) (low (L M w) (H M w) ts), add_parts (int t.coeff *ℤ x t.var) (dot x ts))

  pub below_high : (x : ℕ → ℤ) (ts : List Term) → Within (length M.lower) w.elo w.ehi x → All (TermOk (length M.lower)) ts → dot x ts ⊑ high (L M w) (H M w) ts
  unfolding high dot
  below_high x [] h a = omega arith
  below_high x (t ∷ ts) h a =
      omega (arith, below_most x t h a.0, below_high x ts h a.1, add_parts (most (L M w) (H M w) t) (high (L M w) (H M w) ts), add_parts (int t.coeff *ℤ x t.var) (dot x ts))

  -- ---- the activity
  module _ (pure : PureInteger M) (g : (v : ℕ) → v < length M.lower → IntervalAt w.wlo w.whi w.elo w.ehi v) where
    pub bound_tol_lem : (v : ℕ) (b : Bool) → v < length M.lower → Tol (bound_tol M w v b)
    unfolding bound_tol bound_tolerance
    bound_tol_lem v b h = both Tol _ (row_tol (tolerance pure.numbers.feas) (abs_bounded (wide b)) (abs_pos (wide b).whole)) (tolerance pure.numbers.feas)
      where
        wide : (b : Bool) → Bounded (2 ^ 45) (choose b (at w.ehi v) (at w.elo v))
        wide b = both (Bounded (2 ^ 45)) b (record { whole = (g v h).hi.whole; small = omega (arith, (g v h).hi.small) }) (record { whole = (g v h).lo.whole; small = omega (arith, (g v h).lo.small) })

    pub range_min_lem : {los his : List Float} {t : Term} → (Bounds M w pure g) los his → TermOk (length M.lower) t → Part (range_min t.coeff (at los t.var) (at his t.var)) (least (L M w) (H M w) t)
    unfolding range_min lowest
    range_min_lem {t = t} b c = alike (λ (u : Float) (z : ℤ). Part u (int t.coeff *ℤ z)) (lt 0f t.coeff)
        (product c.coeff (b.lo _ c.var) (g _ c.var).lo.small) (product c.coeff (b.hi _ c.var) (g _ c.var).hi.small)

    pub range_max_lem : {los his : List Float} {t : Term} → (Bounds M w pure g) los his → TermOk (length M.lower) t → Part (range_max t.coeff (at los t.var) (at his t.var)) (most (L M w) (H M w) t)
    unfolding range_max highest
    range_max_lem {t = t} b c = alike (λ (u : Float) (z : ℤ). Part u (int t.coeff *ℤ z)) (lt 0f t.coeff)
        (product c.coeff (b.hi _ c.var) (g _ c.var).hi.small) (product c.coeff (b.lo _ c.var) (g _ c.var).lo.small)

    pub slack_step : (t : Term) (b : Bool) → TermOk (length M.lower) t → NonNeg (abs t.coeff ⊗ bound_tol M w t.var b)
    slack_step t b c = laws.nonneg_mul (abs_bounded c.coeff).whole (abs_pos c.coeff.whole) (bound_tol_lem t.var b c.var)

    pub act_from : (ts : List Term) (k : ℕ) (zl zu : ℤ) (ml mu : ℕ) (act : Activity) (los his : List Float) → k + length ts ≤ 256 → LowIs k zl ml act
        → HighIs k zu mu act → (Bounds M w pure g) los his → All (TermOk (length M.lower)) ts
        → LowIs (k + length ts) (zl +ℤ low (L M w) (H M w) ts) (ml + low_mag (L M w) (H M w) ts) (activity_from M w los his act ts)
        × HighIs (k + length ts) (zu +ℤ high (L M w) (H M w) ts) (mu + high_mag (L M w) (H M w) ts) (activity_from M w los his act ts)
    unfolding activity_from activity_step low high low_mag high_mag
    act_from [] k zl zu ml mu act los his h l u b a = (
      subst₃ (λ (j : ℕ) (z : ℤ) (m : ℕ). LowIs j z m act) (sym (add-zero k)) (sym (+ℤ_idr zl)) (sym (add-zero ml)) l,
      subst₃ (λ (j : ℕ) (z : ℤ) (m : ℕ). HighIs j z m act) (sym (add-zero k)) (sym (+ℤ_idr zu)) (sym (add-zero mu)) u,
    )
    act_from (t ∷ ts) k zl zu ml mu act los his h l u b a =
        let act1 = activity_step M w (at los t.var) (at his t.var) t act in
        let r = act_from ts (suc k) (zl +ℤ least (L M w) (H M w) t) (zu +ℤ most (L M w) (H M w) t) (ml + A (least (L M w) (H M w) t)) (mu + A (most (L M w) (H M w) t)) act1 los his (omega arith)
        (corner_step (omega arith) l (range_min_lem b a.0) (slack_step t _ a.0)) (corner_step (omega arith) u (range_max_lem b a.0) (slack_step t _ a.0)) b a.1 in (
          subst₃ (λ (j : ℕ) (z : ℤ) (m : ℕ). LowIs j z m (activity_from M w los his act1 ts)) (more k (length ts)) (+ℤ_assoc zl (least (L M w) (H M w) t) (low (L M w) (H M w) ts))
              (add_assoc ml (A (least (L M w) (H M w) t)) (low_mag (L M w) (H M w) ts)) r.0,
          subst₃ (λ (j : ℕ) (z : ℤ) (m : ℕ). HighIs j z m (activity_from M w los his act1 ts)) (more k (length ts)) (+ℤ_assoc zu (most (L M w) (H M w) t) (high (L M w) (H M w) ts))
              (add_assoc mu (A (most (L M w) (H M w) t)) (high_mag (L M w) (H M w) ts)) r.1,
        )
      where
        more : (k n : ℕ) → suc k + n ≡ k + suc n
        more k n = omega arith

        add_assoc : (a b c : ℕ) → a + b + c ≡ a + (b + c)
        add_assoc a b c = omega arith

    pub act_list : (ts : List Term) (los his : List Float) → length ts ≤ 256 → (Bounds M w pure g) los his → All (TermOk (length M.lower)) ts
        → ActivityOf (L M w) (H M w) ts (activity_from M w los his no_activity ts)
    act_list ts los his h b a =
        let r = act_from ts 0 (pos 0) (pos 0) 0 0 no_activity los his (omega arith) nothing nothing b a in
        record {
          l = subst₃ (λ (j : ℕ) (z : ℤ) (m : ℕ). LowIs j z m (activity_from M w los his no_activity ts)) (zero-add (length ts))
              (+ℤ_idl (low (L M w) (H M w) ts)) (zero-add (low_mag (L M w) (H M w) ts)) r.0;
          u = subst₃ (λ (j : ℕ) (z : ℤ) (m : ℕ). HighIs j z m (activity_from M w los his no_activity ts)) (zero-add (length ts))
              (+ℤ_idl (high (L M w) (H M w) ts)) (zero-add (high_mag (L M w) (H M w) ts)) r.1;
        }

    -- THE ACTIVITY of a row, over the working bounds and over the emitted ones
    pub activity_of : (row : Row) (working : Bool) → length row.terms ≤ 256 → All (TermOk (length M.lower)) row.terms → ActivityOf (L M w) (H M w) row.terms (activity M w row working)
    unfolding activity choose
    activity_of row true h a = act_list row.terms w.wlo w.whi h (record { lo = λ v k. (g v k).wlo; hi = λ v k. (g v k).whi }) a
    activity_of row false h a =
        act_list row.terms w.elo w.ehi h (record { lo = λ v k. record { whole = (g v k).lo.whole; is = refl }; hi = λ v k. record { whole = (g v k).hi.whole; is = refl } }) a
