-- A ROW, where the values are within the bounds' size: its slack is exact and its tolerance below a half, so it is missed exactly where it is not met.
use Prim.Native.Nat.{ℕ, ◌+◌, ◌*◌, ◌^◌, ◌≤◌, ◌<◌}
use native.Mathlib.Omega.{arith}
use Rattle.std.proofs.Common.{sym, subst, ◌∙◌, inl, inr}
use Rattle.std.proofs.Math.Path.{refl}
use Rattle.std.specs.Prelude.{◌≡◌, ◌⊎◌, Bool, true, false, not, ◌&&◌, List, [], ◌∷◌, T, length, ℤ, pos, ◌-ℤ◌, Float}
use Rattle.floats.specs.Num.{abs}
use Rattle.floats.specs.Zed.{A, ext, add_parts, sub_parts}
use Rattle.floats.specs.Points.{int, Whole, Is}
use Rattle.floats.specs.WholeRounding.{Tol}
use Rattle.cdouble.specs.Double.{from, value}
use Rattle.tolerances.specs.Tol.{Term, at, outside, row_tolerance, slack_min, slack_max, trivial_verdict, says_true, implied_slack, implied_from, violated}
use Rattle.tolerances.specs.Budget.{row_tol}
use Rattle.definition.specs.Model.{Model, op_of, rhs_of, written}
use Rattle.definition.specs.Tests.{and}
use Rattle.definition.specs.Choices.{bool_false}
use Rattle.points_kept.specs.Statements.{PureInteger, dot}
use Rattle.points_kept.specs.Invariant.{Sided, RowSided}
use Rattle.points_kept.specs.ImpliedSlack.{Slack}
use Rattle.points_kept.proofs.WholeFloats.{tolerance, mag_abs, sum, zero_is}
use Rattle.points_kept.proofs.Written.{written_length, written_ok}
use Rattle.points_kept.proofs.ImpliedSlack.{implied_from_lem}
use Rattle.points_kept.proofs.Verdicts.{inside_ok, outside_ok, verdict_true, verdict_none}
use Rattle.plan.specs.Plan.{misses}

module _ (M : Model) (pure : PureInteger M) (p : List Float) (whole : (v : ℕ) → v < length M.lower → Whole (at p v))
    (sizes : (v : ℕ) → v < length M.lower → A (int (at p v)) ≤ 2 ^ 20) (r : ℕ) (h : r < length M.rhs) where
  abbrev X : ℕ → ℤ
  X v = int (at p v)

  abbrev B : Float
  B = rhs_of M r

  abbrev TS : List Term
  TS = written M r

  vals : (v : ℕ) → v < length M.lower → Is (at p v) (X v)
  vals v k = record { whole = whole v k; is = refl }

  short : length TS ≤ 256
  short = omega (arith, written_length M pure r h, pure.numbers.terms r h)

  slack_is : Slack (length M.lower) (at p) X vals sizes (int B -ℤ dot X TS) (0 + length TS) (implied_from (at p) (from B) (abs B) TS)
  unfolding from
  slack_is =
      let b = pure.numbers.rhs r h in
      let m = mag_abs b in
      implied_from_lem (length M.lower) (at p) X vals sizes TS 0 (int B) _ _ (omega (arith, short)) (written_ok M pure r h)
      (record {
        d = record { hi = record { whole = b.whole; is = refl }; lo = zero_is };
        small = omega (arith, b.small);
        mag = record { whole = m.whole; nonneg = m.nonneg; small = omega (arith, m.small) };
      })

  value_is : Is (implied_slack (at p) B TS).0 (int B -ℤ dot X TS)
  unfolding implied_slack value
  value_is =
      let s = sum (2 ^ 40 + (0 + length TS) * 2 ^ 35) 0 slack_is.d.hi slack_is.d.lo slack_is.small (omega arith) (omega (arith, short)) in
      record { whole = s.whole; is = s.is ∙ ext _ _ (omega (arith, add_parts (int B -ℤ dot X TS) (pos 0))) }

  tol_is : Tol (row_tolerance M.feas (implied_slack (at p) B TS).1)
  unfolding implied_slack
  tol_is = row_tol (tolerance pure.numbers.feas) (record { whole = slack_is.mag.whole; small = omega (arith, slack_is.mag.small, short) }) slack_is.mag.nonneg

  abbrev trivial : Bool
  trivial = says_true (trivial_verdict M.feas (op_of M r) (length TS) B)

  abbrev out : Bool
  out = outside (implied_slack (at p) B TS).0 (slack_min (op_of M r)) (slack_max (op_of M r)) (row_tolerance M.feas (implied_slack (at p) B TS).1)

  empty : (ts : List Term) → T (says_true (trivial_verdict M.feas (op_of M r) (length ts) B)) → Sided (op_of M r) (dot X ts) (int B)
  unfolding dot
  empty [] t = verdict_true M pure (op_of M r) B (pure.numbers.rhs r h) t
  empty (u ∷ ts) t = absurd (verdict_none M pure (op_of M r) (length ts) B (pure.numbers.rhs r h).whole t)

  cases : (a b : Bool) → T (not (not a && b)) → T a ⊎ T (not b)
  cases true b n = inl tt
  cases false b n = inr n

  pub row_held : misses M p r ≡ false → RowSided M r X
  unfolding misses violated
  row_held n = go (cases trivial out (subst (λ (b : Bool). T (not b)) (sym n) tt))
    where
      go : T trivial ⊎ T (not out) → RowSided M r X
      go (inl t) = empty TS t
      go (inr t) =
          let k = inside_ok (op_of M r) _ _ (int B -ℤ dot X TS) value_is tol_is t in
          record { below = λ o. omega (arith, k.0 o, sub_parts (int B) (dot X TS)); above = λ o. omega (arith, k.1 o, sub_parts (int B) (dot X TS)) }

  pub row_met : RowSided M r X → misses M p r ≡ false
  unfolding misses violated
  row_met m =
      bool_false (misses M p r)
      (λ t. outside_ok (op_of M r) _ _ (int B -ℤ dot X TS) value_is tol_is (and (not trivial) out t).1
      (λ o. omega (arith, m.below o, sub_parts (int B) (dot X TS))) (λ o. omega (arith, m.above o, sub_parts (int B) (dot X TS))))
