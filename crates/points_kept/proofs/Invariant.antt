-- THE INVARIANT of the work on a model of whole numbers: bounds are whole and in order, none of the points sought is lost, each row at work says what the written
-- row says, and each dropped one is met within the bounds.
use Rattle.std.specs.Prelude.{ℕ, ◌+◌, ◌≤◌, ◌<◌, zero, suc, refl, ◌≡◌, ◌&&◌, List, eqb, ltb, ℤ, ◌+ℤ◌, get_or, set, Float}
use Rattle.std.proofs.Common.{arith, ap, sym, ◌∙◌, nltb→le, eqb→eq, length-set, get_or-set_same, get_or-set_other}
use Rattle.std.proofs.Math.Path.{subst}
use Rattle.std.proofs.Math.Logic.{inl, inr}
use Rattle.std.proofs.Math.Dec.{T, ltb→lt, eqb_refl}
use Rattle.std.proofs.Math.ListN.{length, get_or-eq_default}
use Rattle.std.specs.Float.Ieee.{nan, eq}
use Rattle.floats.specs.Num.{is_finite}
use Rattle.floats.specs.Zed.{P, N, ◌⊑◌, ext}
use Rattle.floats.specs.Points.{int}
use Rattle.tolerances.specs.Tol.{at, Term}
use Rattle.tolerances.specs.Laws.{laws}
use Rattle.definition.specs.Model.{with_terms, Model, op_of, rhs_of, Row}
use Rattle.definition.specs.Work.{Work, Step, ◌>>=◌, no_row}
use Rattle.points_kept.specs.PointSet.{PointSet}
use Rattle.points_kept.specs.Statements.{PureInteger, Meets, dot, Within, Point}
use Rattle.points_kept.proofs.Integers.{eq_parts}
use Rattle.definition.specs.Tests.{and, test, all_true, differ}
use Rattle.points_kept.proofs.WholeFloats.{finite}
use Rattle.points_kept.specs.Terms.{All, TermOk, Distinct}
use Rattle.points_kept.specs.Invariant.{Agrees, Each, Fixed, Good, Interval, IntervalAt, Intervals, Narrower, RowAt, RowOk, RowSided, Sided, stopped, went}

pub sided : (op : ℕ) {s b : ℤ} → op ≤ 2 → Meets op s b → Sided op s b
sided zero h e = record { below = λ t. omega (arith, eq_parts e); above = λ t. omega (arith, eq_parts e) }
sided (suc zero) h m = record { below = λ t. m; above = λ t. absurd t }
sided (suc (suc zero)) h m = record { below = λ t. absurd t; above = λ t. m }
sided (suc (suc (suc n))) h m = absurd (no n h)
  where
    no : (n : ℕ) → suc (suc (suc n)) ≤ 2 → ⊥
    no n h = omega arith

pub meets : (op : ℕ) {s b : ℤ} → op ≤ 2 → Sided op s b → Meets op s b
meets zero h m = ext _ _ (omega (arith, m.below tt, m.above tt))
meets (suc zero) h m = m.below tt
meets (suc (suc zero)) h m = m.above tt
meets (suc (suc (suc n))) h m = absurd (no n h)
  where
    no : (n : ℕ) → suc (suc (suc n)) ≤ 2 → ⊥
    no n h = omega arith

-- a point of the model meets each row
pub asks : (M : Model) → PureInteger M → (x : ℕ → ℤ) → Point M x → (r : ℕ) → r < length M.rhs → RowSided M r x
asks M pure x p r h = sided (op_of M r) (pure.shape.op r h) (p.rows r h)

module _ (M : Model) where
  pub then : {Sought : PointSet} {Q R : Work → Type 0} {s : Step} {f : Work → Step} → (Each M) Sought Q s → ((w : Work) → Q w → (Each M) Sought R (f w)) → (Each M) Sought R (s >>= f)
  then (stopped n) q = stopped n
  then (went {w} p) q = q w p

  -- ---- fixed variables
  -- a fixed variable is one of the model's, and its bounds are one number
  pub fixed_in_lem : (el eh : List Float) (v : ℕ) → length el ≡ length M.lower → Fixed el eh v → v < length M.lower
  unfolding eq
  fixed_in_lem el eh v len f = elim (test (ltb v (length M.lower))) [ inl t ↦ ltb→lt _ _ t | inr t ↦ absurd (outside (nltb→le _ _ t)) ]
    where
      outside : length M.lower ≤ v → ⊥
      outside h = subst (λ (y : Float). T (eq y (at eh v) && is_finite y)) (get_or-eq_default el nan (subst (λ (k : ℕ). k ≤ v) (sym len) h)) f

  pub fixed_one_lem : {a b l h : Float} → Interval a b l h → T (eq l h && is_finite l) → int l ≡ int h
  fixed_one_lem {l = l} {h = h} b f = ext _ _ (eqb→eq _ _ (subst T (laws.eq_is b.lo.whole b.hi.whole) (and (eq l h) (is_finite l) f).0))

  pub one_fixed : {a b l h : Float} → Interval a b l h → int h ⊑ int l → T (eq l h && is_finite l)
  one_fixed {l = l} {h = h} b k =
      let e : P (int l) + N (int h) ≡ P (int h) + N (int l) = omega (arith, b.order) in
      all_true (eq l h) (is_finite l)
      (subst T (sym (laws.eq_is b.lo.whole b.hi.whole)) (subst (λ (n : ℕ). T (eqb (P (int l) + N (int h)) n)) e (eqb_refl (P (int l) + N (int h)))))
      (finite l b.lo.whole)

  -- what agrees with the fixed variables of narrower bounds agrees with those of the wider ones
  pub agrees : (wl wh el eh wl' wh' el' eh' : List Float) (x : ℕ → ℤ) → length el ≡ length M.lower → (Intervals M) wl wh el eh → (Intervals M) wl' wh' el' eh'
      → ((v : ℕ) → v < length M.lower → Narrower el eh el' eh' v) → Agrees el' eh' x → Agrees el eh x
  agrees wl wh el eh wl' wh' el' eh' x len ints ints' nar ag v f =
      let h = fixed_in_lem el eh v len f in
      let c = ints' v h in
      let n = nar v h in
      let e = eq_parts (fixed_one_lem (ints v h) f) in
      ag v (one_fixed c (omega (arith, n.lo, n.hi))) ∙ ext (int (at el' v)) (int (at el v)) (omega (arith, c.order, n.lo, n.hi))

  -- what lies within the bounds agrees with the fixed variables
  pub agree_within : (wl wh el eh : List Float) (x : ℕ → ℤ) → length el ≡ length M.lower → (Intervals M) wl wh el eh → Within (length M.lower) el eh x → Agrees el eh x
  agree_within wl wh el eh x len ints h v f =
      let k = fixed_in_lem el eh v len f in
      ext (x v) (int (at el v)) (omega (arith, (h v k).0, (h v k).1, eq_parts (fixed_one_lem (ints v k) f)))

  -- a row with fewer terms, over narrower bounds, that comes to the same
  pub re_terms : {el eh el' eh' : List Float} {r : ℕ} {row : Row} (ts : List Term) → (RowOk M) el eh r row → All (TermOk (length M.lower)) ts → Distinct ts → length ts ≤ length row.terms
      → ((x : ℕ → ℤ) → Agrees el' eh' x → Agrees el eh x × (dot x ts ≡ dot x row.terms)) → (RowOk M) el' eh' r (with_terms ts row)
  re_terms {r = r} ts o a d n e =
      record {
        b = o.b;
        f = o.f;
        terms = a;
        distinct = d;
        count = omega (arith, o.count);
        lo = o.lo;
        hi = o.hi;
        b_small = o.b_small;
        scale = o.scale;
        scale_pos = o.scale_pos;
        scale_small = o.scale_small;
        shift = o.shift;
        shift_small = o.shift_small;
        total = o.total;
        binding = o.binding;
        touched = o.touched;
        same = λ x h. let q = e x h in o.same x q.0 ∙ ap (λ (z : ℤ). z +ℤ int (rhs_of M r)) (sym q.1);
      }

  pub narrow : {Sought : PointSet} (wl wh el eh wl' wh' el' eh' : List Float) (rows : List Row) → (Good M) Sought wl wh el eh rows
      → length wl' ≡ length M.lower → length wh' ≡ length M.lower → length el' ≡ length M.lower → length eh' ≡ length M.lower
      → ((v : ℕ) → v < length M.lower → IntervalAt wl' wh' el' eh' v) → ((v : ℕ) → v < length M.lower → Narrower el eh el' eh' v)
      → ((x : ℕ → ℤ) → Sought x → Within (length M.lower) el' eh' x) → (Good M) Sought wl' wh' el' eh' rows
  narrow wl wh el eh wl' wh' el' eh' rows g a b c d ints nar keeps =
      record {
        wl_length = a;
        wh_length = b;
        el_length = c;
        eh_length = d;
        rows_length = g.rows_length;
        interval = ints;
        keeps = keeps;
        asks = g.asks;
        shrinks = λ x h. g.shrinks x (wider x h);
        row = λ r h. record { alive = λ t. again ((g.row r h).alive t); dead = λ t x k. (g.row r h).dead t x (wider x k) };
      }
    where
      wider : (x : ℕ → ℤ) → Within (length M.lower) el' eh' x → Within (length M.lower) el eh x
      wider x h v k = (omega (arith, (h v k).0, (nar v k).lo), omega (arith, (h v k).1, (nar v k).hi))

      again : {r : ℕ} {row : Row} → (RowOk M) el eh r row → (RowOk M) el' eh' r row
      again {row = row} o = re_terms row.terms o o.terms o.distinct (omega arith) (λ x h. (agrees wl wh el eh wl' wh' el' eh' x g.el_length g.interval ints nar h, refl))

  -- ---- one row changed
  pub set_row : {Sought : PointSet} (wl wh el eh : List Float) (rows : List Row) (r : ℕ) (row : Row)
      → r < length M.rhs → (Good M) Sought wl wh el eh rows → (RowAt M) el eh r row → (Good M) Sought wl wh el eh (set rows r row)
  set_row wl wh el eh rows r row h g o =
      record {
        wl_length = g.wl_length;
        wh_length = g.wh_length;
        el_length = g.el_length;
        eh_length = g.eh_length;
        interval = g.interval;
        keeps = g.keeps;
        asks = g.asks;
        shrinks = g.shrinks;
        rows_length = length-set rows r row ∙ g.rows_length;
        row = λ j k. elim (test (eqb j r)) [
          | inl t ↦ subst (λ (i : ℕ). (RowAt M) el eh i (get_or (set rows r row) i no_row)) (sym (eqb→eq j r t))
              (subst ((RowAt M) el eh r) (sym (get_or-set_same rows r row no_row (subst (λ (n : ℕ). r < n) (sym g.rows_length) h))) o)
          | inr t ↦ subst ((RowAt M) el eh j) (sym (get_or-set_other rows r j row no_row (differ j r t))) (g.row j k)
        ];
      }
