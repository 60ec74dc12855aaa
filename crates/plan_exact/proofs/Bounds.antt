-- A BOUND that is whole: a whole number of any size passes it exactly where it lies beyond it. And a whole number is never told not to be one.
use Prim.Native.Nat.{◌^◌}
use native.Mathlib.Omega.{arith}
use Rattle.std.proofs.Common.{sym, subst, ◌∙◌, inl, inr}
use Rattle.std.specs.Prelude.{◌≡◌, Bool, true, false, not, ◌||◌, T, Float}
use Rattle.std.proofs.Math.Dec.{T_not}
use Rattle.std.specs.Float.{nan, inf, fin}
use Rattle.std.specs.Float.Ieee.{lt, le, eq, neg, add, sub, of_bits}
use Rattle.floats.specs.Num.{◌⊕◌, ◌⊖◌, ∞f, -∞f, is_finite, floor, ceil}
use Rattle.floats.specs.Zed.{◌⊑◌, ◌⊏◌, ext}
use Rattle.floats.specs.Points.{int, is_whole, Whole, Bounded, Is, ◌≼◌}
use Rattle.floats.specs.WholeRounding.{Tol}
use Rattle.floats.proofs.Growth.{floor_fixes, ceil_fixes}
use Rattle.floats.proofs.Compare.{le_left, le_right}
use Rattle.tolerances.specs.Tol.{outside}
use Rattle.tolerances.specs.Laws.{laws}
use Rattle.definition.specs.Tests.{nor, or}
use Rattle.definition.specs.Choices.{bool_false}
use Rattle.points_kept.proofs.Integers.{eq_parts}
use Rattle.points_kept.proofs.WholeFloats.{finite, held, self, of_le, of_lt, tol_nonneg}
use Rattle.plan.specs.Nearest.{nearest}
use Rattle.plan.proofs.Nearest.{nearest_own}

-- ---- an open side is not passed
above_open : (x t : Float) → Whole x → Tol t → T (lt (∞f ⊕ t) x) → ⊥
unfolding add lt le eq of_bits is_whole
above_open x nan w q h = q.low.le
above_open x (inf true) w q h = q.low.le
above_open x (inf false) w q h = q.high.le
above_open nan (fin s m e) w q h = w.whole
above_open (inf s) (fin t m e) w q h = w.whole
above_open (fin s m e) (fin t n d) w q h = h

below_open : (x t : Float) → Whole x → Tol t → T (lt x (-∞f ⊖ t)) → ⊥
unfolding sub add neg lt le eq of_bits is_whole
below_open x nan w q h = q.low.le
below_open x (inf true) w q h = q.low.le
below_open x (inf false) w q h = q.high.le
below_open nan (fin s m e) w q h = w.whole
below_open (inf s) (fin t m e) w q h = w.whole
below_open (fin s m e) (fin t n d) w q h = h

module _ {x l t : Float} (w : Whole x) (b : Bounded (2 ^ 20) l) (q : Tol t) where
  -- ---- a lower bound l
  abbrev below : Bool
  below = lt x (l ⊖ t)

  below_so : T below → int x ⊏ int l
  below_so h = of_lt w b.whole (laws.lt_le_trans (record { lt = h }) (laws.sub_keeps b.whole (held l b.whole) (self b.whole) (tol_nonneg q)))

  not_below : T (not below) → int l ⊑ int x
  not_below h =
      let r = le_left (laws.sub_keeps b.whole (held l b.whole) (self b.whole) (tol_nonneg q)) in
      let k = laws.ceil_keeps w (laws.fits_sub l t) (laws.not_lt (self w) r (record { nlt = h })) in
      let c = laws.round_lower b q in
      omega (arith, of_le c.whole w k, eq_parts c.is)

  pub lower_kept : outside x l ∞f t ≡ false → int l ⊑ int x
  unfolding outside
  lower_kept e =
      not_below (nor (not (is_finite x)) below (nor (not (is_finite x) || below) (lt (∞f ⊕ t) x) (subst (λ (b : Bool). T (not b)) (sym e) tt)).0).1

  pub lower_passed : int l ⊑ int x → outside x l ∞f t ≡ false
  unfolding outside
  lower_passed k =
      bool_false (outside x l ∞f t)
      (λ h. elim (or (not (is_finite x) || below) (lt (∞f ⊕ t) x) h) [
        | inl s ↦ elim (or (not (is_finite x)) below s) [ inl n ↦ T_not (is_finite x) n (finite x w) | inr m ↦ (let f = below_so m in omega (arith, f, k)) ]
        | inr m ↦ above_open x t w q m
      ])

  -- ---- an upper bound l
  abbrev above : Bool
  above = lt (l ⊕ t) x

  above_so : T above → int l ⊏ int x
  above_so h = of_lt b.whole w (laws.le_lt_trans (laws.add_keeps b.whole (held l b.whole) (self b.whole) (tol_nonneg q)) (record { lt = h }))

  not_above : T (not above) → int x ⊑ int l
  not_above h =
      let r = le_right (laws.add_keeps b.whole (held l b.whole) (self b.whole) (tol_nonneg q)) in
      let k = laws.floor_keeps w (laws.fits_add l t) (laws.not_lt r (self w) (record { nlt = h })) in
      let c = laws.round_upper b q in
      omega (arith, of_le w c.whole k, eq_parts c.is)

  pub upper_kept : outside x -∞f l t ≡ false → int x ⊑ int l
  unfolding outside
  upper_kept e = not_above (nor (not (is_finite x) || lt x (-∞f ⊖ t)) above (subst (λ (b : Bool). T (not b)) (sym e) tt)).1

  pub upper_passed : int x ⊑ int l → outside x -∞f l t ≡ false
  unfolding outside
  upper_passed k =
      bool_false (outside x -∞f l t)
      (λ h. elim (or (not (is_finite x) || lt x (-∞f ⊖ t)) above h) [
        | inl s ↦ elim (or (not (is_finite x)) (lt x (-∞f ⊖ t)) s) [ inl n ↦ T_not (is_finite x) n (finite x w) | inr m ↦ below_open x t w q m ]
        | inr m ↦ (let f = above_so m in omega (arith, f, k))
      ])

-- ---- a whole number is within any tolerance of its nearest, which is the same number
near_same : {x : Float} → Whole x → Is (nearest x) (int x)
near_same {x} w =
    let down : nearest x ≡ floor x = nearest_own w ∙ sym (floor_fixes w) in
    let up : nearest x ≡ ceil x = nearest_own w ∙ sym (ceil_fixes w) in
    let a = laws.floor_keeps w (held x w) (self w) in
    let b : (floor x) ≼ x = subst (λ (y : Float). y ≼ x) (sym up ∙ down) (laws.ceil_keeps w (held x w) (self w)) in
    let h = laws.floor_whole w w (held x w) a b in
    subst (λ (y : Float). Is y (int x)) (sym down) (record { whole = h; is = ext (int (floor x)) (int x) (omega (arith, of_le w h a, of_le h w b)) })

pub whole_kept : {x t : Float} → Whole x → Tol t → outside x (nearest x) (nearest x) t ≡ false
unfolding outside
whole_kept {x} {t} w q =
    let n = near_same w in
    let z = nearest x in
    bool_false (outside x z z t)
    (λ h. elim (or (not (is_finite x) || lt x (z ⊖ t)) (lt (z ⊕ t) x) h) [
      | inl s ↦ elim (or (not (is_finite x)) (lt x (z ⊖ t)) s) [
        | inl m ↦ T_not (is_finite x) m (finite x w)
        | inr m ↦ (
            let f = of_lt w n.whole (laws.lt_le_trans (record { lt = m }) (laws.sub_keeps n.whole (held z n.whole) (self n.whole) (tol_nonneg q))) in
            omega (arith, f, eq_parts n.is)
            )
      ]
      | inr m ↦ (
          let f = of_lt n.whole w (laws.le_lt_trans (laws.add_keeps n.whole (held z n.whole) (self n.whole) (tol_nonneg q)) (record { lt = m })) in
          omega (arith, f, eq_parts n.is)
          )
    ])
