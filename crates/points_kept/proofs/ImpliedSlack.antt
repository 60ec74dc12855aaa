-- `CDouble` AND `implied_slack` on whole numbers: sums, halves and products of pairs are exact, with nothing left over, so the slack of a row is exact.
use Prim.Native.Nat.{ℕ, suc, ◌+◌, ◌*◌, ◌^◌, ◌≤◌, ◌<◌}
use native.Mathlib.Omega.{arith}
use Rattle.std.specs.Prelude.{◌≡◌, refl, ℤ, pos, neg_ℤ, ◌+ℤ◌, ◌-ℤ◌, ◌*ℤ◌, length, Float}
use Rattle.std.proofs.Common.{sym, ap, subst₂, ◌∙◌}
use Rattle.std.proofs.Math.Path.{subst}
use mathlib.Core.List.{List, [], ◌∷◌}
use Rattle.std.proofs.Math.IntN.{zero-*ℤ, *ℤ-zero}
use Rattle.std.specs.Float.Ieee.{of_bits, fits}
use Rattle.floats.specs.Num.{◌⊗◌}
use Rattle.floats.specs.Zed.{A, ext, P_neg, N_neg, add_parts, sub_parts}
use Rattle.floats.specs.Points.{int, is_whole, Is}
use Rattle.cdouble.specs.declared.CDouble.{CDouble}
use Rattle.cdouble.specs.Double.{two_sum, split, two_product, FACTOR, plus, plus_product}
use Rattle.tolerances.specs.Tol.{Term, implied_from, less_term}
use Rattle.tolerances.specs.Laws.{laws}
use Rattle.points_kept.specs.Statements.{dot}
use Rattle.points_kept.proofs.Integers.{eq_parts, size_add, size_sub, size_mul_le, mul_neg_left}
use Rattle.definition.specs.Choices.{both}
use Rattle.points_kept.proofs.WholeFloats.{whole_neg, sum, diff, mag_sum, mag_abs, product, sized}
use Rattle.points_kept.specs.Terms.{All, TermOk}
use Rattle.points_kept.specs.ImpliedSlack.{Slack, WholePair}

pub same : {x : Float} {a b : ℤ} → a ≡ b → Is x a → Is x b
same e p = record { whole = p.whole; is = p.is ∙ e }

pub two_sum_lem : {a b : Float} {y z : ℤ} (j k : ℕ) → Is a y → Is b z → A y ≤ j → A z ≤ k → 2 * j + 2 * k ≤ 2 ^ 53 → WholePair (y +ℤ z) (two_sum a b)
unfolding two_sum
two_sum_lem {y = y} {z = z} j k p q h l n =
    let x = sum j k p q h l (omega arith) in
    let xs : A (y +ℤ z) ≤ j + k = omega (arith, size_add y z) in
    let w = same {b = z} (ext _ _ (omega (arith, sub_parts (y +ℤ z) y, add_parts y z))) (diff (j + k) j x p xs h (omega arith)) in
    let u = same {b = y} (ext _ _ (omega (arith, sub_parts (y +ℤ z) z, add_parts y z))) (diff (j + k) k x w xs l (omega arith)) in
    let s = same {b = pos 0} (ext _ _ (omega (arith, sub_parts y y))) (diff j j p u h h (omega arith)) in
    let t = same {b = pos 0} (ext _ _ (omega (arith, sub_parts z z))) (diff k k q w l l (omega arith)) in
    record { hi = x; lo = same refl (sum 0 0 s t (omega arith) (omega arith) (omega arith)) }

pub factor_is : Is FACTOR (pos 134217729)
unfolding is_whole int of_bits fits
factor_is = record { whole = record { whole = tt }; is = refl }

pub times : {a b : Float} {y z : ℤ} (j k : ℕ) → Is a y → Is b z → A y ≤ j → A z ≤ k → j * k ≤ 2 ^ 53 → j ≤ 2 ^ 53 → k ≤ 2 ^ 53 → Is (a ⊗ b) (y *ℤ z)
times {a} {b} {y} {z} j k p q h l n hj hk =
    let r = laws.mul_is (sized p h hj) (sized q l hk) (subst (λ (u : ℤ). A (u *ℤ int b) ≤ 2 ^ 53) (sym p.is)
    (subst (λ (u : ℤ). A (y *ℤ u) ≤ 2 ^ 53) (sym q.is) (omega (arith, size_mul_le y z j k h l)))) in
    record { whole = r.whole; is = r.is ∙ ap (λ (u : ℤ). u *ℤ int b) p.is ∙ ap (λ (u : ℤ). y *ℤ u) q.is }

pub split_ok : {a : Float} {y : ℤ} → Is a y → A y ≤ 2 ^ 20 → WholePair y (split a)
unfolding split
split_ok {a} {y} p h =
    let c = times 134217729 (2 ^ 20) factor_is p (omega arith) h (omega arith) (omega arith) (omega arith) in
    let C = pos 134217729 *ℤ y in
    let cs : A C ≤ 134217729 * 2 ^ 20 = size_mul_le (pos 134217729) y 134217729 (2 ^ 20) (omega arith) h in
    let d = diff (134217729 * 2 ^ 20) (2 ^ 20) c p cs h (omega arith) in
    let ds : A (C -ℤ y) ≤ 134217729 * 2 ^ 20 + 2 ^ 20 = omega (arith, size_sub C y) in
    let x = same {b = y} (ext _ _ (omega (arith, sub_parts C (C -ℤ y), sub_parts C y))) (diff (134217729 * 2 ^ 20) (134217729 * 2 ^ 20 + 2 ^ 20) c d cs ds (omega arith)) in
    record { hi = x; lo = same (ext _ _ (omega (arith, sub_parts y y))) (diff (2 ^ 20) (2 ^ 20) p x h h (omega arith)) }

pub two_product_lem : {a b : Float} {y z : ℤ} → Is a y → Is b z → A y ≤ 2 ^ 15 → A z ≤ 2 ^ 20 → WholePair (y *ℤ z) (two_product a b)
unfolding two_product
two_product_lem {a} {b} {y} {z} p q h l =
    let x = times (2 ^ 15) (2 ^ 20) p q h l (omega arith) (omega arith) (omega arith) in
    let xs : A (y *ℤ z) ≤ 2 ^ 15 * 2 ^ 20 = size_mul_le y z (2 ^ 15) (2 ^ 20) h l in
    let s = split_ok p (omega arith) in
    let t = split_ok q l in
    let ll = same {b = pos 0} (zero-*ℤ (pos 0)) (times 0 0 s.lo t.lo (omega arith) (omega arith) (omega arith) (omega arith) (omega arith)) in
    let hh = times (2 ^ 15) (2 ^ 20) s.hi t.hi h l (omega arith) (omega arith) (omega arith) in
    let lh = same {b = pos 0} (zero-*ℤ z) (times 0 (2 ^ 20) s.lo t.hi (omega arith) l (omega arith) (omega arith) (omega arith)) in
    let hl = same {b = pos 0} (*ℤ-zero y) (times (2 ^ 15) 0 s.hi t.lo h (omega arith) (omega arith) (omega arith) (omega arith)) in
    let d1 = same {b = pos 0} (ext _ _ (omega (arith, sub_parts (y *ℤ z) (y *ℤ z)))) (diff (2 ^ 15 * 2 ^ 20) (2 ^ 15 * 2 ^ 20) x hh xs xs (omega arith)) in
    let d2 = same {b = pos 0} refl (diff 0 0 d1 lh (omega arith) (omega arith) (omega arith)) in
    let d3 = same {b = pos 0} refl (diff 0 0 d2 hl (omega arith) (omega arith) (omega arith)) in
    record { hi = x; lo = same {b = pos 0} refl (diff 0 0 ll d3 (omega arith) (omega arith) (omega arith)) }

pub plus_ok : {d : CDouble} {v : Float} {S y : ℤ} (j k : ℕ) → WholePair S d → Is v y → A S ≤ j → A y ≤ k → 2 * k + 2 * j ≤ 2 ^ 53 → WholePair (y +ℤ S) (plus d v)
unfolding plus
plus_ok j k p q h l n =
    let s = two_sum_lem k j q p.hi l h n in
    record { hi = s.hi; lo = same {b = pos 0} refl (sum 0 0 p.lo s.lo (omega arith) (omega arith) (omega arith)) }

pub plus_product_ok : {d : CDouble} {a b : Float} {S y z : ℤ} (j : ℕ) → WholePair S d → Is a y → Is b z → A S ≤ j → A y ≤ 2 ^ 15 → A z ≤ 2 ^ 20
    → 2 * 2 ^ 35 + 2 * j ≤ 2 ^ 53 → WholePair (y *ℤ z +ℤ S) (plus_product d a b)
unfolding plus_product
plus_product_ok {y = y} {z = z} j p qa qb h ha hb n =
    let t = two_product_lem qa qb ha hb in
    let e = plus_ok j (2 ^ 35) p t.hi h (omega (arith, size_mul_le y z (2 ^ 15) (2 ^ 20) ha hb)) n in
    record { hi = e.hi; lo = same {b = pos 0} refl (sum 0 0 e.lo t.lo (omega arith) (omega arith) (omega arith)) }

-- ---- the loop: val is exact, X its numbers
module _ (n : ℕ) (val : ℕ → Float) (X : ℕ → ℤ) (vals : (v : ℕ) → v < n → Is (val v) (X v)) (sizes : (v : ℕ) → v < n → A (X v) ≤ 2 ^ 20) where
  pub re : {S S' : ℤ} {k k' : ℕ} {s : CDouble × Float} → S ≡ S' → k ≡ k' → (Slack n val X vals sizes) S k s → (Slack n val X vals sizes) S' k' s
  re {s = s} p q h = subst₂ (λ (z : ℤ) (j : ℕ). (Slack n val X vals sizes) z j s) p q h

  pub implied_from_lem : (ts : List Term) (k : ℕ) (S : ℤ) (d : CDouble) (m : Float) → k + length ts ≤ 256 → All (TermOk n) ts → (Slack n val X vals sizes) S k (d, m)
      → (Slack n val X vals sizes) (S -ℤ dot X ts) (k + length ts) (implied_from val d m ts)
  unfolding implied_from less_term dot
  implied_from_lem [] k S d m h a s =
      subst (λ (z : ℤ). (Slack n val X vals sizes) z (k + 0) (d, m)) (ext _ _ (omega (arith, sub_parts S (pos 0)))) (record {
        d = s.d;
        small = omega (arith, s.small);
        mag = record { whole = s.mag.whole; nonneg = s.mag.nonneg; small = omega (arith, s.mag.small) };
      })
  implied_from_lem (t ∷ ts) k S d m h a s =
      let c = a.0 in
      let v = t.var in
      let q = vals v c.var in
      let ng = whole_neg t.coeff c.coeff.whole in
      let na : A (neg_ℤ (int t.coeff)) ≤ 2 ^ 15 = omega (arith, P_neg (int t.coeff), N_neg (int t.coeff), c.coeff.small) in
      let pr = times (2 ^ 15) (2 ^ 20) ng q na (sizes v c.var) (omega arith) (omega arith) (omega arith) in
      let prs = size_mul_le (neg_ℤ (int t.coeff)) (X v) (2 ^ 15) (2 ^ 20) na (sizes v c.var) in
      let T = int t.coeff *ℤ X v in
      let E = mul_neg_left (int t.coeff) (X v) in
      let d1 : WholePair (neg_ℤ (int t.coeff) *ℤ X v +ℤ S) (less_term d t.coeff (val v)) =
      both (WholePair (neg_ℤ (int t.coeff) *ℤ X v +ℤ S)) _ (plus_product_ok (2 ^ 40 + k * 2 ^ 35) s.d ng q s.small na (sizes v c.var) (omega arith))
      (plus_ok (2 ^ 40 + k * 2 ^ 35) (2 ^ 15 * 2 ^ 20) s.d pr s.small prs (omega arith)) in
      let am = product c.coeff q (sizes v c.var) in
      let m1 = mag_sum s.mag (mag_abs (record { whole = am.0.whole; small = subst (λ (y : ℤ). A y ≤ 2 ^ 35) (sym am.0.is) am.1 })) (omega arith) in
      let nx = implied_from_lem ts (suc k) (neg_ℤ (int t.coeff) *ℤ X v +ℤ S) _ _ (omega arith) a.1
      (record { d = d1; small = omega (arith, size_add (neg_ℤ (int t.coeff) *ℤ X v) S, prs, s.small); mag = record { whole = m1.whole; nonneg = m1.nonneg; small = omega (arith, m1.small) } }) in
      re (ext (neg_ℤ (int t.coeff) *ℤ X v +ℤ S -ℤ dot X ts) (S -ℤ (T +ℤ dot X ts)) (omega (
        arith,
        eq_parts E,
        P_neg T,
        N_neg T,
        add_parts (neg_ℤ (int t.coeff) *ℤ X v) S,
        sub_parts (neg_ℤ (int t.coeff) *ℤ X v +ℤ S) (dot X ts),
        sub_parts S (T +ℤ dot X ts),
        add_parts T (dot X ts),
      )))
      (more k (length ts)) nx
    where
      more : (k n : ℕ) → suc k + n ≡ k + suc n
      more k n = omega arith
