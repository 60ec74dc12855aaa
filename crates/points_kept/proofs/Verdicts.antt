-- `outside` AND `trivial_row_verdict` on whole numbers: a tolerance below 1 tells a whole number from 0, so the verdict on a row as it stands is exact.
use Prim.Native.Nat.{zero, suc, ℕ, ◌^◌, ◌≤◌, ◌<◌}
use native.Mathlib.Omega.{arith}
use Rattle.std.proofs.Math.Path.{◌≡◌, refl, subst}
use Rattle.std.proofs.Common.{sym, ap, ◌∙◌, ltb→lt}
use Rattle.std.specs.Prelude.{◌⊎◌, Bool, not, ◌||◌, eqb, ltb, ℤ, length, take, drop, Float}
use Rattle.std.proofs.Math.Logic.{inl, inr}
use Rattle.std.proofs.Math.Bool.{true, false}
use Rattle.std.proofs.Math.Option.{none, some}
use Rattle.std.proofs.Math.Dec.{T, nltb→le, eqb-suc-zero, T_not}
use Rattle.std.proofs.Math.IntN.{pos}
use Rattle.std.specs.Float.{nan, inf, fin}
use Rattle.std.specs.Float.Ieee.{lt, le, eq, neg, add, sub, of_bits}
use Rattle.floats.specs.Num.{choose, ◌⊕◌, ◌⊖◌, 0f, ∞f, -∞f, is_finite, is_infinite, abs}
use Rattle.floats.specs.Zed.{◌⊑◌}
use Rattle.floats.specs.Points.{int, is_whole, Whole, Bounded, Is}
use Rattle.floats.specs.WholeRounding.{Tol}
use Rattle.tolerances.specs.Tol.{outside, slack_min, slack_max, row_tolerance, trivial_verdict, says_true, zip_terms}
use Rattle.tolerances.specs.Laws.{laws}
use Rattle.tolerances.specs.Budget.{row_tol}
use Rattle.definition.specs.Model.{Model, op_of, rhs_of, written, from, nnz}
use Rattle.definition.specs.Work.{trivial}
use Rattle.points_kept.specs.Statements.{PureInteger, dot, Point}
use Rattle.points_kept.proofs.Integers.{eq_parts}
use Rattle.definition.specs.Tests.{or, nor, test, chosen, unchosen}
use Rattle.points_kept.proofs.WholeFloats.{finite, not_infinite, held, self, of_lt, zero_is, tol_nonneg, tolerance, abs_bounded, abs_pos, ∞_is, -∞_is}
use Rattle.points_kept.specs.Invariant.{Sided, RowSided, NoPoint}
use Rattle.points_kept.proofs.Invariant.{asks}

-- ---- an infinity and a tolerance
inf_sub : (t : Float) → Tol t → inf true ⊖ t ≡ inf true
unfolding sub add neg le lt eq of_bits
inf_sub nan h = absurd h.low.le
inf_sub (inf true) h = absurd h.low.le
inf_sub (inf false) h = absurd h.high.le
inf_sub (fin s m e) h = refl

inf_add : (t : Float) → Tol t → inf false ⊕ t ≡ inf false
unfolding add le lt eq of_bits
inf_add nan h = absurd h.low.le
inf_add (inf true) h = absurd h.low.le
inf_add (inf false) h = absurd h.high.le
inf_add (fin s m e) h = refl

below_inf : (x : Float) → T (lt x (inf true)) → Whole x → ⊥
unfolding lt is_whole
below_inf nan t h = t
below_inf (inf s) t h = h.whole
below_inf (fin s m e) t h = t

above_inf : (x : Float) → T (lt (inf false) x) → Whole x → ⊥
unfolding lt is_whole
above_inf nan t h = t
above_inf (inf s) t h = h.whole
above_inf (fin s m e) t h = t

-- ---- `outside` of a whole number is exact
module _ (op : ℕ) (x t : Float) (S : ℤ) (p : Is x S) (q : Tol t) where
  pub inside_ok : T (not (outside x (slack_min op) (slack_max op) t)) → (T (not (eqb op 2)) → pos 0 ⊑ S) × (T (not (eqb op 1)) → S ⊑ pos 0)
  unfolding outside slack_min slack_max
  inside_ok n =
      let a = nor (not (is_finite x) || lt x (choose (eqb op 2) -∞f 0f ⊖ t)) _ n in
      let b = nor (not (is_finite x)) _ a.0 in (
        λ o. low (subst (λ (y : Float). T (not (lt x (y ⊖ t)))) (unchosen (eqb op 2) -∞f 0f o) b.1),
        λ o. high (subst (λ (y : Float). T (not (lt (y ⊕ t) x))) (unchosen (eqb op 1) ∞f 0f o) a.1),
      )
    where
      dec : (m n : ℕ) → (m < n → ⊥) → n ≤ m
      dec m n h = elim (test (ltb m n)) [ inl u ↦ absurd (h (ltb→lt m n u)) | inr u ↦ nltb→le m n u ]

      low : T (not (lt x (0f ⊖ t))) → pos 0 ⊑ S
      low n = dec _ _ (λ l. T_not (lt x (0f ⊖ t)) n (laws.tol_below p.whole q (omega (arith, l, eq_parts p.is))).lt)

      high : T (not (lt (0f ⊕ t) x)) → S ⊑ pos 0
      high n = dec _ _ (λ l. T_not (lt (0f ⊕ t) x) n (laws.tol_above p.whole q (omega (arith, l, eq_parts p.is))).lt)

  pub outside_ok : T (outside x (slack_min op) (slack_max op) t) → (T (not (eqb op 2)) → pos 0 ⊑ S) → (T (not (eqb op 1)) → S ⊑ pos 0) → ⊥
  unfolding outside slack_min slack_max
  outside_ok o lo hi =
      elim (or (not (is_finite x) || lt x (choose (eqb op 2) -∞f 0f ⊖ t)) _ o) [
        | inl a ↦ elim (or (not (is_finite x)) _ a) [
          | inl n ↦ T_not (is_finite x) n (finite x p.whole)
          | inr l ↦ elim (test (eqb op 2)) [
            | inl e ↦ below_inf x (subst (λ (y : Float). T (lt x y)) (ap (λ (y : Float). y ⊖ t) (chosen (eqb op 2) -∞f 0f e ∙ -∞_is) ∙ inf_sub t q) l) p.whole
            | inr e ↦ low e (subst (λ (y : Float). T (lt x (y ⊖ t))) (unchosen (eqb op 2) -∞f 0f e) l)
          ]
        ]
        | inr l ↦ elim (test (eqb op 1)) [
          | inl e ↦ above_inf x (subst (λ (y : Float). T (lt y x)) (ap (λ (y : Float). y ⊕ t) (chosen (eqb op 1) ∞f 0f e ∙ ∞_is) ∙ inf_add t q) l) p.whole
          | inr e ↦ high e (subst (λ (y : Float). T (lt (y ⊕ t) x)) (unchosen (eqb op 1) ∞f 0f e) l)
        ]
      ]
    where
      Z : Is 0f (pos 0)
      Z = zero_is

      low : T (not (eqb op 2)) → T (lt x (0f ⊖ t)) → ⊥
      low e l =
          let k = of_lt p.whole Z.whole (laws.lt_le_trans (record { lt = l }) (laws.sub_keeps Z.whole (held 0f Z.whole) (self Z.whole) (tol_nonneg q))) in
          omega (arith, lo e, eq_parts p.is, eq_parts Z.is)

      high : T (not (eqb op 1)) → T (lt (0f ⊕ t) x) → ⊥
      high e l =
          let k = of_lt Z.whole p.whole (laws.le_lt_trans (laws.add_keeps Z.whole (held 0f Z.whole) (self Z.whole) (tol_nonneg q)) (record { lt = l })) in
          omega (arith, hi e, eq_parts p.is, eq_parts Z.is)

-- ---- `trivial_row_verdict`, of a whole right side
module _ (M : Model) (pure : PureInteger M) where
  -- an empty row's verdict is exact
  pub verdict_true : (op : ℕ) (b : Float) → Bounded (2 ^ 40) b → T (says_true (trivial_verdict M.feas op 0 b)) → Sided op (pos 0) (int b)
  unfolding trivial_verdict says_true choose
  verdict_true op b h t = go (is_infinite b) (not_infinite b h.whole) t
    where
      w : Bounded (2 ^ 45) b
      w = record { whole = h.whole; small = omega (arith, h.small) }

      go : (i : Bool) → T (not i) → T (says_true (choose i (some true) (some (not (outside b (slack_min op) (slack_max op) (row_tolerance M.feas (abs b))))))) → Sided op (pos 0) (int b)
      go true n t = absurd n
      go false n t =
          let k = inside_ok op b _ (int b) (record { whole = h.whole; is = refl }) (row_tol (tolerance pure.numbers.feas) (abs_bounded w) (abs_pos h.whole)) t in
          record { below = k.0; above = k.1 }

  verdict_false : (op : ℕ) (b : Float) → Bounded (2 ^ 40) b → trivial_verdict M.feas op 0 b ≡ some false → Sided op (pos 0) (int b) → ⊥
  unfolding trivial_verdict says_true choose
  verdict_false op b h e m = go (is_infinite b) (not_infinite b h.whole) (test (outside b (slack_min op) (slack_max op) (row_tolerance M.feas (abs b)))) e
    where
      w : Bounded (2 ^ 45) b
      w = record { whole = h.whole; small = omega (arith, h.small) }

      not_some : (q : Bool) → T (not q) → some (not q) ≡ some false → ⊥
      not_some true n e = n
      not_some false n e = let z : ◌≡◌ {A = ℕ} 0 1 = cc in omega arith

      go : (i : Bool) → T (not i) → T (outside b (slack_min op) (slack_max op) (row_tolerance M.feas (abs b))) ⊎ T (not (outside b (slack_min op) (slack_max op) (row_tolerance M.feas (abs b))))
          → choose i (some true) (some (not (outside b (slack_min op) (slack_max op) (row_tolerance M.feas (abs b))))) ≡ some false → ⊥
      go true n d e = n
      go false n (inl o) e = outside_ok op b _ (int b) (record { whole = h.whole; is = refl }) (row_tol (tolerance pure.numbers.feas) (abs_bounded w) (abs_pos h.whole)) o m.below m.above
      go false n (inr o) e = not_some (outside b (slack_min op) (slack_max op) (row_tolerance M.feas (abs b))) o e

  -- where there are terms, or an infinite right side, a verdict is not "false", and it is "true" only in the second case
  pub verdict_none : (op n : ℕ) (b : Float) → Whole b → T (says_true (trivial_verdict M.feas op (suc n) b)) → ⊥
  unfolding trivial_verdict says_true choose
  verdict_none op n b h t = go (is_infinite b) (eqb (suc n) 0) (not (outside b (slack_min op) (slack_max op) (row_tolerance M.feas (abs b)))) (not_infinite b h) (eqb-suc-zero n) t
    where
      go : (i z q : Bool) → T (not i) → z ≡ false → T (says_true (choose i (some true) (choose z (some q) none))) → ⊥
      go true z q n e t = n
      go false true q n e t = let o : ◌≡◌ {A = ℕ} 0 1 = cc in omega arith
      go false false q n e t = t

  -- ---- a row as it stands
  -- a row of no term comes to 0
  pub nil : (x : ℕ → ℤ) (r : ℕ) → nnz M r ≡ 0 → dot x (written M r) ≡ pos 0
  unfolding written dot zip_terms
  nil x r e = subst (λ (n : ℕ). dot x (zip_terms (take n (drop (from M r) M.index)) (take n (drop (from M r) M.coeff))) ≡ pos 0) (sym e) refl

  -- one that is trivially true is met by all
  pub trivial_met : (r : ℕ) → r < length M.rhs → T (trivial M r) → (x : ℕ → ℤ) → RowSided M r x
  unfolding trivial
  trivial_met r hr t x = go (nnz M r) refl t
    where
      go : (n : ℕ) → nnz M r ≡ n → T (says_true (trivial_verdict M.feas (op_of M r) (nnz M r) (rhs_of M r))) → RowSided M r x
      go zero e t = subst (λ (z : ℤ). Sided (op_of M r) z (int (rhs_of M r))) (sym (nil x r e))
          (verdict_true (op_of M r) (rhs_of M r) (pure.numbers.rhs r hr) (subst (λ (n : ℕ). T (says_true (trivial_verdict M.feas (op_of M r) n (rhs_of M r)))) e
          t))
      go (suc n) e t = absurd (verdict_none (op_of M r) n (rhs_of M r) (pure.numbers.rhs r hr).whole (subst (λ (n : ℕ). T (says_true (trivial_verdict M.feas (op_of M r) n (rhs_of M r)))) e t))

  -- one that fails is met by none
  pub false_row_lem : (r : ℕ) → r < length M.rhs → (n : ℕ) → nnz M r ≡ n → trivial_verdict M.feas (op_of M r) n (rhs_of M r) ≡ some false → NoPoint M (Point M)
  unfolding trivial_verdict choose
  false_row_lem r h zero e q x p = verdict_false (op_of M r) (rhs_of M r) (pure.numbers.rhs r h) q (subst (λ (z : ℤ). Sided (op_of M r) z (int (rhs_of M r))) (nil x r e) (asks M pure x p r h))
  false_row_lem r h (suc n) e q x p = go (is_infinite (rhs_of M r)) (eqb (suc n) 0)
      (not (outside (rhs_of M r) (slack_min (op_of M r)) (slack_max (op_of M r)) (row_tolerance M.feas (abs (rhs_of M r)))))
      (not_infinite (rhs_of M r) (pure.numbers.rhs r h).whole) (eqb-suc-zero n) q
    where
      go : (i z q : Bool) → T (not i) → z ≡ false → choose i (some true) (choose z (some q) none) ≡ some false → ⊥
      go true z q n e t = n
      go false true q n e t = let o : ◌≡◌ {A = ℕ} 0 1 = cc in omega arith
      go false false q n e t = let o : ◌≡◌ {A = ℕ} 0 1 = cc in omega arith
