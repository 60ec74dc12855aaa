-- `fold_fixed`: what is left of a row after its fixed variables and zero coefficients have left says what the row says, and has no zero coefficient.
use Prim.Native.Nat.{ℕ, suc, ◌+◌, ◌*◌, ◌^◌, ◌≤◌, ◌<◌}
use native.Mathlib.Omega.{arith}
use Rattle.std.specs.Prelude.{◌≡◌, ◌≢◌, T, ℤ, ◌+ℤ◌, ◌-ℤ◌, ◌*ℤ◌, Float}
use Rattle.std.proofs.Math.Path.{refl, sym, ap, subst}
use Rattle.std.proofs.Common.{◌∙◌}
use Rattle.std.proofs.Math.Bool.{true, false}
use Rattle.std.proofs.Math.ListN.{length, get_or}
use Rattle.std.specs.Float.Ieee.{eq}
use Rattle.floats.specs.Num.{◌⊖◌, 0f}
use Rattle.floats.specs.Zed.{A, ext, add_parts, sub_parts}
use Rattle.floats.specs.Points.{int}
use Rattle.tolerances.specs.Tol.{at}
use Rattle.definition.specs.Model.{Model, rhs_of, written, Row}
use Rattle.definition.specs.Work.{Work, no_term, fixed}
use Rattle.definition.specs.Folds.{swap_remove, fold_term, fold_step}
use Rattle.points_kept.specs.PointSet.{PointSet}
use Rattle.points_kept.specs.Statements.{dot}
use Rattle.points_kept.proofs.Integers.{eq_parts, size_add, size_sub}
use Rattle.definition.specs.Tests.{last_or, taking}
use Rattle.points_kept.proofs.WholeFloats.{sum, product, mag_sum, mag_abs, ∞_is, -∞_is, inf_sub}
use Rattle.points_kept.specs.Terms.{TermOk, NonZero}
use Rattle.points_kept.proofs.Terms.{index_all}
use Rattle.points_kept.specs.Invariant.{RowOk, GoodW}
use Rattle.points_kept.proofs.Folding.{side_sub, sr_all, sr_distinct, sr_dot, sr_length, sr_same, zero_ok}
use Rattle.points_kept.specs.Folding.{Folding, tv}

module _ (M : Model) {Sought : PointSet} (w : Work) (g : GoodW M Sought w) (r : ℕ) where
  -- a fixed variable's term leaves
  pub fold_ok : (row : Row) (i : ℕ) → i < length row.terms → RowOk M w.elo w.ehi r row → T (fixed w (get_or row.terms i no_term).var)
      → RowOk M w.elo w.ehi r (fold_term w i (get_or row.terms i no_term) row)
  unfolding fold_term fixed
  fold_ok row i h o fx =
      let t = get_or row.terms i no_term in
      let c = index_all (TermOk (length M.lower)) row.terms i h o.terms in
      let v = t.var in
      let L = int (at w.elo v) in
      let p = product c.coeff (record { whole = (g.interval v c.var).lo.whole; is = refl }) (g.interval v c.var).lo.small in
      let s = p.0 in
      let z = int t.coeff *ℤ L in
      let ms = mag_sum (record { whole = o.scale; nonneg = o.scale_pos; small = o.scale_small })
      (mag_abs (record { whole = s.whole; small = subst (λ (y : ℤ). A y ≤ 2 ^ 35) (sym s.is) p.1 })) (omega (arith, o.count)) in
      let sh = sum (o.f * 2 ^ 35) (2 ^ 35) (record { whole = o.shift; is = refl }) s o.shift_small p.1 (omega (arith, o.count)) in
      record {
        b = o.b -ℤ z;
        f = suc o.f;
        terms = sr_all row.terms i h (TermOk (length M.lower)) o.terms;
        distinct = sr_distinct row.terms i h o.distinct;
        count = omega (arith, o.count, sr_length row.terms i h);
        lo = (side_sub M w g r) (2 ^ 40 + o.f * 2 ^ 35) (2 ^ 35) (λ y W. ap (λ (x : Float). x ⊖ y) -∞_is ∙ inf_sub true y W ∙ sym -∞_is) o.lo s o.b_small p.1 (omega (arith, o.count));
        hi = (side_sub M w g r) (2 ^ 40 + o.f * 2 ^ 35) (2 ^ 35) (λ y W. ap (λ (x : Float). x ⊖ y) ∞_is ∙ inf_sub false y W ∙ sym ∞_is) o.hi s o.b_small p.1 (omega (arith, o.count));
        b_small = omega (arith, size_sub o.b z, o.b_small, p.1);
        scale = ms.whole;
        scale_pos = ms.nonneg;
        scale_small = omega (arith, ms.small);
        shift = sh.whole;
        shift_small = subst (λ (y : ℤ). A y ≤ suc o.f * 2 ^ 35) (sym sh.is) (omega (arith, size_add (int row.shift) z, o.shift_small, p.1));
        total = ap (λ (y : ℤ). (o.b -ℤ z) +ℤ y) sh.is ∙ ext _ _ (omega (
          arith,
          eq_parts o.total,
          add_parts o.b (int row.shift),
          sub_parts o.b z,
          add_parts (int row.shift) z,
          add_parts (o.b -ℤ z) (int row.shift +ℤ z),
        ));
        binding = o.binding;
        touched = o.touched;
        same = λ x ag.
            let xv : tv x t ≡ z = ap (λ (y : ℤ). int t.coeff *ℤ y) (ag v fx) in
            let d = dot x (swap_remove row.terms i) in
            let e : d +ℤ z ≡ dot x row.terms = ap (λ (y : ℤ). d +ℤ y) (sym xv) ∙ sr_dot x row.terms i h in
            ext _ _ (omega (
              arith,
              eq_parts (o.same x ag),
              eq_parts e,
              add_parts d z,
              add_parts (dot x (written M r)) o.b,
              add_parts (dot x row.terms) (int (rhs_of M r)),
              add_parts (dot x (written M r)) (o.b -ℤ z),
              sub_parts o.b z,
              add_parts d (int (rhs_of M r)),
            ));
      }

  pub step_ok : (row0 : Row) (n : ℕ) (s : ℕ × Row) → (Folding M w g r) row0 (suc n) s → (Folding M w g r) row0 n (fold_step w s)
  unfolding fold_step fold_term
  step_ok row0 n s f =
      let i = s.0 in
      let row = s.1 in
      let t = get_or row.terms i no_term in
      let h : i < length row.terms = omega (arith, f.left) in
      let keep : (j : ℕ) → j < i → NonZero (get_or (swap_remove row.terms i) j no_term) = λ j l.
      subst NonZero (sym (sr_same row.terms i h j (omega (arith, sr_length row.terms i h)) (apart_from l))) (f.stay j l) in
      taking ((Folding M w g r) row0 n) (eq t.coeff 0f)
      (λ z. record { ok = (zero_ok M w g r) row i h f.ok z; left = omega (arith, f.left, sr_length row.terms i h); stay = keep; alive = f.alive })
      (λ nz. taking ((Folding M w g r) row0 n) (fixed w t.var)
      (λ fx. record { ok = fold_ok row i h f.ok fx; left = omega (arith, f.left, sr_length row.terms i h); stay = keep; alive = f.alive })
      (λ nf. record { ok = f.ok; left = omega (arith, f.left); stay = last_or i nz f.stay; alive = f.alive }))
    where
      apart_from : {j i : ℕ} → j < i → j ≢ i
      apart_from l = omega arith
