-- `empty_row_check`: a row whose terms have all left is met by all within the bounds, or by none.
use Rattle.std.specs.Prelude.{ℕ, ◌+◌, ◌*◌, ◌^◌, ◌≤◌, ◌<◌, ◌≡◌, ◌⊎◌, Bool, not, ◌&&◌, ℤ, ◌+ℤ◌, ◌-ℤ◌, Float}
use Rattle.std.proofs.Common.{arith, sym, ◌∙◌}
use Rattle.std.proofs.Math.Path.{refl, ap, subst}
use Rattle.std.proofs.Math.Logic.{inl, inr}
use Rattle.std.proofs.Math.Bool.{true, false}
use mathlib.Core.List.{List, [], ◌∷◌}
use Rattle.std.proofs.Math.Dec.{T}
use Rattle.std.proofs.Math.IntN.{pos}
use Rattle.std.proofs.Math.ListN.{length}
use Rattle.std.specs.Float.Ieee.{eq}
use Rattle.floats.specs.Num.{0f, is_finite, abs}
use Rattle.floats.specs.Zed.{P, N, A, ext, add_parts, sub_parts}
use Rattle.floats.specs.Points.{int, Whole, Is}
use Rattle.floats.specs.WholeRounding.{Tol}
use Rattle.cdouble.specs.Double.{from, value}
use Rattle.tolerances.specs.Tol.{Term, row_tolerance, trivial_verdict, says_true, violated, at, implied_from, implied_slack}
use Rattle.tolerances.specs.Budget.{row_tol}
use Rattle.definition.specs.Model.{Model, op_of, Row}
use Rattle.definition.specs.Work.{Work, Step, fixed, drop_row}
use Rattle.definition.specs.Singles.{empty_row_check, fixed_value}
use Rattle.points_kept.specs.PointSet.{PointSet}
use Rattle.points_kept.specs.Statements.{dot, Within}
use Rattle.points_kept.proofs.Integers.{eq_parts}
use Rattle.definition.specs.Choices.{both}
use Rattle.definition.specs.Tests.{and, taking, chosen}
use Rattle.points_kept.proofs.WholeFloats.{zero_is, sum, mag_abs, tolerance}
use Rattle.points_kept.specs.Invariant.{Sided, RowSided, Agrees, GoodW, Each, stopped, went}
use Rattle.points_kept.proofs.Changes.{drop_ok}
use Rattle.points_kept.proofs.WorkingRow.{met_in, point_meets}
use Rattle.points_kept.specs.WorkingRow.{AtWork}
use Rattle.points_kept.proofs.Written.{written_length, written_ok}
use Rattle.points_kept.specs.ImpliedSlack.{Slack}
use Rattle.points_kept.proofs.ImpliedSlack.{implied_from_lem}
use Rattle.points_kept.proofs.Verdicts.{inside_ok, outside_ok, verdict_true, verdict_none}
use Rattle.points_kept.specs.NoTerm.{B, Beside, TS, out, triv}

pub good_of : {M : Model} {Sought : PointSet} {r : ℕ} {w : Work} {s : Step} → Each M Sought (Beside M Sought r w) s → Each M Sought (GoodW M Sought) s
good_of (stopped n) = stopped n
good_of (went b) = went b.good

module _ {M : Model} {Sought : PointSet} {w : Work} {r : ℕ} {row : Row} (σ : AtWork M Sought w r row) (e : row.terms ≡ []) where
  -- the values that the row is judged at, as numbers, agree with the fixed variables
  pub X : ℕ → ℤ
  X v = int (fixed_value w v)

  pub vals : (v : ℕ) → v < length M.lower → Is (fixed_value w v) (X v)
  unfolding X fixed_value
  vals v h = record { whole = both Whole (fixed w v) (σ.good.interval v h).lo.whole zero_is.whole; is = refl }

  pub sizes : (v : ℕ) → v < length M.lower → A (X v) ≤ 2 ^ 20
  unfolding X fixed_value
  sizes v h = both (λ (y : Float). A (int y) ≤ 2 ^ 20) (fixed w v) (σ.good.interval v h).lo.small (omega (arith, ap P zero_is.is, ap N zero_is.is))

  pub agrees : Agrees w.elo w.ehi X
  unfolding X fixed_value fixed
  agrees v f = ap int (chosen (eq (at w.elo v) (at w.ehi v) && is_finite (at w.elo v)) (at w.elo v) 0f f)

  -- the implied slack is the row's side, which nothing is left of
  pub short : length (TS σ e) ≤ 256
  short = omega (arith, written_length M σ.pure r σ.range, σ.pure.numbers.terms r σ.range)

  pub slack_is : Slack (length M.lower) (fixed_value w) X vals sizes (int (B σ e) -ℤ dot X (TS σ e)) (0 + length (TS σ e)) (implied_from (fixed_value w) (from (B σ e)) (abs (B σ e)) (TS σ e))
  unfolding from
  slack_is =
      let b = σ.pure.numbers.rhs r σ.range in
      let m = mag_abs b in
      implied_from_lem (length M.lower) (fixed_value w) X vals sizes (TS σ e) 0 (int (B σ e)) _ _ (omega (arith, short)) (written_ok M σ.pure r σ.range)
      (record {
        d = record { hi = record { whole = b.whole; is = refl }; lo = zero_is };
        small = omega (arith, b.small);
        mag = record { whole = m.whole; nonneg = m.nonneg; small = omega (arith, m.small) };
      })

  pub value_is : Is (implied_slack (fixed_value w) (B σ e) (TS σ e)).0 σ.ok.b
  unfolding implied_slack value dot
  value_is =
      let s = sum (2 ^ 40 + (0 + length (TS σ e)) * 2 ^ 35) 0 slack_is.d.hi slack_is.d.lo slack_is.small (omega arith) (omega (arith, short)) in
      let q : dot X (TS σ e) +ℤ σ.ok.b ≡ pos 0 +ℤ int (B σ e) = σ.ok.same X agrees ∙ ap (λ (ts : List Term). dot X ts +ℤ int (B σ e)) e in
      record {
        whole = s.whole;
        is = s.is ∙ ext _ _ (omega (
          arith,
          eq_parts q,
          add_parts (dot X (TS σ e)) σ.ok.b,
          add_parts (pos 0) (int (B σ e)),
          sub_parts (int (B σ e)) (dot X (TS σ e)),
          add_parts (int (B σ e) -ℤ dot X (TS σ e)) (pos 0),
        ));
      }

  pub tol_is : Tol (row_tolerance M.feas (implied_slack (fixed_value w) (B σ e) (TS σ e)).1)
  unfolding implied_slack
  tol_is = row_tol (tolerance σ.pure.numbers.feas) (record { whole = slack_is.mag.whole; small = omega (arith, slack_is.mag.small, short) }) slack_is.mag.nonneg

  -- A ROW OF NO TERM keeps the invariant, and the bounds
  pub empty_keeps : Each M Sought (Beside M Sought r w) (empty_row_check M r row w)
  unfolding empty_row_check violated dot drop_row
  empty_keeps =
      taking (Each M Sought (Beside M Sought r w)) (not (triv σ e) && (out σ e))
      (λ t. stopped (λ x p.
      let m = subst (λ (ts : List Term). Sided (op_of M r) (dot x ts) σ.ok.b) e (point_meets σ x p) in
      outside_ok (op_of M r) _ _ σ.ok.b value_is tol_is (and (not (triv σ e)) (out σ e) t).1 m.below m.above))
      (λ t. went (record { good = drop_ok M r row w σ.range σ.good (λ x h. met x h (cases (triv σ e) (out σ e) t)); met = λ x h. met x h (cases (triv σ e) (out σ e) t); elo = refl; ehi = refl }))
    where
      cases : (p q : Bool) → T (not (not p && q)) → T p ⊎ T (not q)
      cases true q n = inl tt
      cases false q n = inr n

      empty : (ts : List Term) → T (says_true (trivial_verdict M.feas (op_of M r) (length ts) (B σ e))) → (x : ℕ → ℤ) → Sided (op_of M r) (dot x ts) (int (B σ e))
      empty [] t x = verdict_true M σ.pure (op_of M r) (B σ e) (σ.pure.numbers.rhs r σ.range) t
      empty (u ∷ ts) t x = absurd (verdict_none M σ.pure (op_of M r) (length ts) (B σ e) (σ.pure.numbers.rhs r σ.range).whole t)

      met : (x : ℕ → ℤ) → Within (length M.lower) w.elo w.ehi x → T (triv σ e) ⊎ T (not (out σ e)) → RowSided M r x
      met x h (inl t) = empty (TS σ e) t x
      met x h (inr n) =
          let k = inside_ok (op_of M r) _ _ σ.ok.b value_is tol_is n in
          met_in σ x h (subst (λ (ts : List Term). Sided (op_of M r) (dot x ts) σ.ok.b) (sym e) (record { below = k.0; above = k.1 }))
