-- CHANGES OF THE STATE that keep the invariant: one variable's bounds narrowed, rows marked, a row dropped that all within the bounds meet.
use Prim.Native.Nat.{ℕ, zero, suc, ◌^◌, ◌<◌}
use Rattle.std.proofs.Common.{arith, sym, subst, ◌∙◌, inl, inr, eqb→eq, length-set, get_or-set_same, get_or-set_other}
use Rattle.std.specs.Prelude.{refl, Bool, true, List, eqb, ℤ, length, get_or, set, Float}
use Rattle.std.proofs.Math.Bool.{false}
use Rattle.std.specs.Float.{nan, binary64}
use Rattle.std.specs.Float.Ieee.{of_int}
use Rattle.floats.specs.Zed.{◌⊑◌}
use Rattle.floats.specs.Points.{int, Is}
use Rattle.tolerances.specs.Tol.{at}
use Rattle.tolerances.specs.Laws.{laws}
use Rattle.definition.specs.Model.{Model, Row, with_alive}
use Rattle.definition.specs.Work.{Work, with_marks, drop_row}
use Rattle.definition.specs.Marks.{mark_row, mark_from, mark_var, adjacent}
use Rattle.points_kept.specs.PointSet.{PointSet}
use Rattle.points_kept.specs.Statements.{Within}
use Rattle.points_kept.proofs.Integers.{size_between}
use Rattle.definition.specs.Choices.{both}
use Rattle.definition.specs.Tests.{test, differ}
use Rattle.points_kept.specs.Invariant.{RowSided, Interval, IntervalAt, Narrow, Narrower, Good, GoodW}
use Rattle.points_kept.proofs.Invariant.{narrow, set_row}
use Rattle.points_kept.specs.Changes.{From, Sets}

pub set_one : (v : ℕ) (l : List Float) (x : Float) → v < length l → Sets v l (set l v x) x
set_one v l x h = record { len = length-set l v x; here = get_or-set_same l v x nan h; there = λ j n. get_or-set_other l v j x nan n }

pub set_none : (v : ℕ) (l : List Float) → Sets v l l (at l v)
set_none v l = record { len = refl; here = refl; there = λ j n. refl }

module _ (M : Model) where
  -- marks leave alone what does not speak of them
  pub mark_any : (Q : Work → Type 0) → ((w : Work) (d c : List Bool) (q : List ℕ) → Q w → Q (with_marks d c q w)) → (v : ℕ) (w : Work) → Q w → Q (mark_var M v w)
  unfolding mark_var mark_from mark_row
  mark_any Q keep v w h = go (length M.rhs) 0 w h
    where
      go : (n r : ℕ) (w : Work) → Q w → Q (mark_from M n r v w)
      go zero r w h = h
      go (suc n) r w h =
          go n (suc r) _ (both Q (adjacent M v r) (both Q (get_or w.dirty r true) (keep w _ _ _ h) (keep w _ _ _ h)) h)

  pub mark_var_lem : {Sought : PointSet} (w0 : Work) (v : ℕ) (w : Work) → (From M) Sought w0 w → (From M) Sought w0 (mark_var M v w)
  mark_var_lem {Sought} w0 v w h = mark_any ((From M) Sought w0) (λ w d c q k. record { good = k.good; nars = k.nars; rows = k.rows }) v w h

  pub set_good : {Sought : PointSet} (wl wh el eh wl' wh' el' eh' : List Float) (rows : List Row) (v : ℕ) (a b c d : Float) → v < length M.lower → Good M Sought wl wh el eh rows
      → Sets v wl wl' a → Sets v wh wh' b → Sets v el el' c → Sets v eh eh' d → Interval a b c d → Narrow (at el v) (at eh v) c d
      → ((x : ℕ → ℤ) → Sought x → (int c ⊑ x v) × (x v ⊑ int d))
      → Good M Sought wl' wh' el' eh' rows × ((j : ℕ) → j < length M.lower → Narrower el eh el' eh' j)
  set_good {Sought} wl wh el eh wl' wh' el' eh' rows v a b c d h g sa sb sc sd ints nar keeps =
      (narrow M wl wh el eh wl' wh' el' eh' rows g (sa.len ∙ g.wl_length) (sb.len ∙ g.wh_length) (sc.len ∙ g.el_length) (sd.len ∙ g.eh_length) intervals nars kept, nars)
    where
      interval_here : IntervalAt wl' wh' el' eh' v
      interval_here = rw (sa.here, sb.here, sc.here, sd.here) ints

      intervals : (j : ℕ) → j < length M.lower → IntervalAt wl' wh' el' eh' j
      intervals j k =
          elim (test (eqb j v)) [
            | inl t ↦ subst (λ (i : ℕ). IntervalAt wl' wh' el' eh' i) (sym (eqb→eq j v t)) interval_here
            | inr t ↦ rw (sa.there j (differ j v t), sb.there j (differ j v t), sc.there j (differ j v t), sd.there j (differ j v t)) (g.interval j k)
          ]

      nar_here : Narrower el eh el' eh' v
      nar_here = rw (sc.here, sd.here) nar

      nars : (j : ℕ) → j < length M.lower → Narrower el eh el' eh' j
      nars j k =
          elim (test (eqb j v)) [
            | inl t ↦ subst (λ (i : ℕ). Narrower el eh el' eh' i) (sym (eqb→eq j v t)) nar_here
            | inr t ↦ rw (sc.there j (differ j v t), sd.there j (differ j v t)) (record { lo = omega arith; hi = omega arith })
          ]

      kept_here : (x : ℕ → ℤ) → Sought x → (int (at el' v) ⊑ x v) × (x v ⊑ int (at eh' v))
      kept_here x p = rw (sc.here, sd.here) (keeps x p)

      kept : (x : ℕ → ℤ) → Sought x → Within (length M.lower) el' eh' x
      kept x p j k =
          elim (test (eqb j v)) [
            | inl t ↦ subst (λ (i : ℕ). (int (at el' i) ⊑ x i) × (x i ⊑ int (at eh' i))) (sym (eqb→eq j v t)) (kept_here x p)
            | inr t ↦ rw (sc.there j (differ j v t), sd.there j (differ j v t)) (g.keeps x p j k)
          ]

  pub wider : {a b c d e f : Float} → Narrow a b c d → Narrow c d e f → Narrow a b e f
  wider p q = record { lo = omega (arith, p.lo, q.lo); hi = omega (arith, p.hi, q.hi) }

  -- the value of a point sought as a float
  pub value : {Sought : PointSet} (w : Work) (v : ℕ) (x : ℕ → ℤ) → GoodW M Sought w → v < length M.lower → Sought x → Is (of_int binary64 (x v)) (x v)
  value w v x g h p =
      let b = g.interval v h in
      let k = g.keeps x p v h in
      laws.of_is (x v) (omega (arith, size_between (int (at w.elo v)) (x v) (int (at w.ehi v)) (2 ^ 20) k.0 k.1 b.lo.small b.hi.small))

  -- ---- a row leaves that all within the bounds meet
  pub drop_ok : {Sought : PointSet} (r : ℕ) (row : Row) (w : Work) → r < length M.rhs → GoodW M Sought w
      → ((x : ℕ → ℤ) → Within (length M.lower) w.elo w.ehi x → RowSided M r x) → GoodW M Sought (drop_row r row w)
  unfolding drop_row
  drop_ok r row w h g d = set_row M w.wlo w.whi w.elo w.ehi w.rows r (with_alive false row) h g (record { alive = λ t. absurd t; dead = λ t. d })
