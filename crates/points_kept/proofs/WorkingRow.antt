-- A ROW AT WORK in a state of the invariant: what is left of it says what the written row says, its sides and magnitudes are whole, its budgets are tolerances.
use Rattle.std.specs.Prelude.{ℕ, ◌+◌, ◌*◌, ◌^◌, ◌≤◌, ◌<◌, ◌≡◌, ◌⊎◌, not, T, eqb, ℤ, ◌+ℤ◌, length, get_or, Float}
use Rattle.std.proofs.Common.{arith, sym, ap, ◌∙◌, inl, inr}
use Rattle.std.proofs.Math.Path.{refl, subst}
use Rattle.std.proofs.Math.Dec.{not_T}
use Rattle.floats.specs.Num.{0f, is_finite}
use Rattle.floats.specs.Zed.{P, N, A, add_parts}
use Rattle.floats.specs.Points.{int, Is}
use Rattle.floats.specs.WholeRounding.{NonNeg, Tol}
use Rattle.tolerances.specs.Laws.{laws}
use Rattle.definition.specs.declared.Activity.{Activity}
use Rattle.definition.specs.Model.{Model, written, nnz, op_of, rhs_of, is_mip, is_int_domain, is_int, Row, rhs_mag}
use Rattle.definition.specs.Work.{Work, budget}
use Rattle.definition.specs.Sides.{hi_side, lo_side, mag_l, mag_u, budget_l, budget_u}
use Rattle.points_kept.specs.PointSet.{PointSet}
use Rattle.points_kept.specs.Statements.{PureInteger, dot, Within}
use Rattle.points_kept.proofs.Integers.{eq_parts}
use Rattle.definition.specs.Tests.{and, taking, all_true}
use Rattle.points_kept.proofs.WholeFloats.{∞_not, -∞_not, zero_is, tol_nonneg, whole_nonneg, tolerance, sum, mag_sum, mag_abs}
use Rattle.points_kept.specs.WholeFloats.{Mag}
use Rattle.points_kept.specs.Invariant.{Sided, RowSided}
use Rattle.points_kept.proofs.Invariant.{agree_within}
use Rattle.points_kept.specs.Activity.{ActivityOf, L, H}
use Rattle.points_kept.proofs.Activity.{corner_mag}
use Rattle.points_kept.specs.WorkingRow.{AtWork}

pub int_var : (M : Model) → PureInteger M → (v : ℕ) → v < length M.lower → T (is_int M v)
unfolding is_int is_mip is_int_domain
int_var M pure v h = all_true (not (eqb M.mode 0)) (not (eqb (get_or M.domain v 0) 1)) (mip pure.numbers.mode) (whole (pure.numbers.integral v h))
  where
    mip : (M.mode ≡ 1) ⊎ (M.mode ≡ 2) → T (not (eqb M.mode 0))
    mip (inl e) = subst (λ (m : ℕ). T (not (eqb m 0))) (sym e) tt
    mip (inr e) = subst (λ (m : ℕ). T (not (eqb m 0))) (sym e) tt

    whole : (get_or M.domain v 0 ≡ 0) ⊎ (get_or M.domain v 0 ≡ 2) → T (not (eqb (get_or M.domain v 0) 1))
    whole (inl e) = subst (λ (m : ℕ). T (not (eqb m 1))) (sym e) tt
    whole (inr e) = subst (λ (m : ℕ). T (not (eqb m 1))) (sym e) tt

module _ {M : Model} {Sought : PointSet} {w : Work} {r : ℕ} {row : Row} (σ : AtWork M Sought w r row) where
  -- ---- within the bounds, what is left of the row says what the row says
  pub left_is : (x : ℕ → ℤ) → Within (length M.lower) w.elo w.ehi x → dot x (written M r) +ℤ σ.ok.b ≡ dot x row.terms +ℤ int (rhs_of M r)
  left_is x h = σ.ok.same x (agree_within M w.wlo w.whi w.elo w.ehi x σ.good.el_length σ.good.interval h)

  pub met_out : (x : ℕ → ℤ) → Within (length M.lower) w.elo w.ehi x → RowSided M r x → Sided (op_of M r) (dot x row.terms) σ.ok.b
  met_out x h m =
      let e = eq_parts (left_is x h) in
      record {
        below = λ t. omega (arith, m.below t, add_parts (dot x (written M r)) σ.ok.b, add_parts (dot x row.terms) (int (rhs_of M r)));
        above = λ t. omega (arith, m.above t, add_parts (dot x (written M r)) σ.ok.b, add_parts (dot x row.terms) (int (rhs_of M r)));
      }

  pub met_in : (x : ℕ → ℤ) → Within (length M.lower) w.elo w.ehi x → Sided (op_of M r) (dot x row.terms) σ.ok.b → RowSided M r x
  met_in x h m =
      let e = eq_parts (left_is x h) in
      record {
        below = λ t. omega (arith, m.below t, add_parts (dot x (written M r)) σ.ok.b, add_parts (dot x row.terms) (int (rhs_of M r)));
        above = λ t. omega (arith, m.above t, add_parts (dot x (written M r)) σ.ok.b, add_parts (dot x row.terms) (int (rhs_of M r)));
      }

  -- a point sought meets what is left of the row
  pub point_meets : (x : ℕ → ℤ) → Sought x → Sided (op_of M r) (dot x row.terms) σ.ok.b
  point_meets x p = met_out x (σ.good.keeps x p) (σ.good.asks x p r σ.range)

  -- ---- the sides
  pub finite_hi : T (is_finite row.hi) → T (not (eqb (op_of M r) 2))
  finite_hi t = not_T (eqb (op_of M r) 2) (λ o. ∞_not (subst (λ (x : Float). T (is_finite x)) (σ.ok.hi.free o) t))

  pub finite_lo : T (is_finite row.lo) → T (not (eqb (op_of M r) 1))
  finite_lo t = not_T (eqb (op_of M r) 1) (λ o. -∞_not (subst (λ (x : Float). T (is_finite x)) (σ.ok.lo.free o) t))

  -- ---- magnitudes and budgets
  pub rhs_mag_lem : {x : Float} → Is x σ.ok.b → Mag (2 ^ 40) (rhs_mag row x)
  unfolding rhs_mag
  rhs_mag_lem {x} p =
      let s = sum (2 ^ 40 + σ.ok.f * 2 ^ 35) (σ.ok.f * 2 ^ 35) p (record { whole = σ.ok.shift; is = refl }) σ.ok.b_small σ.ok.shift_small (omega (arith, σ.ok.count)) in
      mag_abs (record { whole = s.whole; small = subst (λ (z : ℤ). A z ≤ 2 ^ 40) (sym (s.is ∙ σ.ok.total)) (σ.pure.numbers.rhs r σ.range).small })

  pub scale_mag : Mag (σ.ok.f * 2 ^ 35) row.fold_scale
  scale_mag = record { whole = σ.ok.scale; nonneg = σ.ok.scale_pos; small = σ.ok.scale_small }

  pub budget_tol : {m : Float} {k : ℕ} → Mag k m → k ≤ 2 ^ 45 → Tol (budget M r m)
  unfolding budget
  budget_tol m h = laws.budget (nnz M r) (σ.pure.numbers.terms r σ.range) (tolerance σ.pure.numbers.feas) (record { whole = m.whole; small = omega (arith, m.small) }) m.nonneg

  pub hi_side_lem : (act : Activity) → T (hi_side row act) → T (is_finite row.hi)
  unfolding hi_side
  hi_side_lem act t = (and (is_finite row.hi) _ t).0

  pub lo_side_lem : (act : Activity) → T (lo_side row act) → T (is_finite row.lo)
  unfolding lo_side
  lo_side_lem act t = (and (is_finite row.lo) _ t).0

  module _ {act : Activity} (a : ActivityOf (L M w) (H M w) row.terms act) where
    pub mag_l_ok : T (is_finite row.hi) → Mag (length row.terms * 2 ^ 35 + 2 ^ 40 + σ.ok.f * 2 ^ 35) (mag_l row act)
    unfolding mag_l
    mag_l_ok t = mag_sum (mag_sum (corner_mag a.l) (rhs_mag_lem (σ.ok.hi.shut (finite_hi t))) (omega (arith, σ.ok.count))) scale_mag (omega (arith, σ.ok.count))

    pub mag_u_ok : T (is_finite row.lo) → Mag (length row.terms * 2 ^ 35 + 2 ^ 40 + σ.ok.f * 2 ^ 35) (mag_u row act)
    unfolding mag_u
    mag_u_ok t = mag_sum (mag_sum (corner_mag a.u) (rhs_mag_lem (σ.ok.lo.shut (finite_lo t))) (omega (arith, σ.ok.count))) scale_mag (omega (arith, σ.ok.count))

    pub zero_nonneg : NonNeg 0f
    zero_nonneg = whole_nonneg zero_is.whole (omega (arith, ap P zero_is.is, ap N zero_is.is))

    pub budget_l_ok : NonNeg (budget_l M r row act)
    unfolding budget_l
    budget_l_ok = taking NonNeg (hi_side row act) (λ t. tol_nonneg (budget_tol (mag_l_ok (hi_side_lem act t)) (omega (arith, σ.ok.count)))) (λ t. zero_nonneg)

    pub budget_u_ok : NonNeg (budget_u M r row act)
    unfolding budget_u
    budget_u_ok = taking NonNeg (lo_side row act) (λ t. tol_nonneg (budget_tol (mag_u_ok (lo_side_lem act t)) (omega (arith, σ.ok.count)))) (λ t. zero_nonneg)
