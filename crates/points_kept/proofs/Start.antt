-- `presolve` from its start: crossed bounds have no point, rounding moves no bound, and rows that are read are in the invariant, for the model's points.
use Prim.Native.Nat.{ℕ, zero, suc, ◌+◌, ◌^◌, ◌≤◌, ◌<◌}
use native.Mathlib.Omega.{arith}
use Rattle.std.specs.Prelude.{◌≡◌, Bool, true, not, List, [], ◌∷◌, ◌++◌, eqb, ℤ, length, get_or, Float}
use Rattle.std.proofs.Math.Path.{refl, subst}
use Rattle.std.proofs.Common.{sym, ◌∙◌, inl, inr, eqb→eq, length-append}
use Rattle.std.proofs.Math.Bool.{false}
use Rattle.std.proofs.Math.Option.{Option, none, some}
use Rattle.std.proofs.Math.Dec.{T}
use Rattle.std.proofs.Math.ListN.{get_or-append}
use Rattle.std.proofs.lemmas.List.{get_or_at}
use Rattle.floats.specs.Num.{gt, is_finite}
use Rattle.floats.specs.Zed.{A, ◌⊑◌}
use Rattle.floats.specs.Points.{int, ◌⊀◌, Is}
use Rattle.tolerances.specs.Tol.{trivial_verdict, says_true, at}
use Rattle.tolerances.specs.Laws.{laws}
use Rattle.definition.specs.Model.{Model, nnz, op_of, rhs_of, is_int, Row, with_alive, as_written}
use Rattle.definition.specs.Work.{no_row, trivial}
use Rattle.definition.specs.Begin.{Bounds, cross, bounds, Rows, false_row, rows_are, crossed, rounded_lower, rounded_upper, round_var, round_from, add_row, read_row, read_from}
use Rattle.points_kept.specs.Statements.{PureInteger, Point}
use Rattle.points_kept.proofs.Integers.{eq_parts}
use Rattle.definition.specs.Choices.{both}
use Rattle.definition.specs.Tests.{differ, last_or, test, taking, or, nor, if_true}
use Rattle.points_kept.proofs.WholeFloats.{finite, of_lt, of_nlt, tolerance}
use Rattle.points_kept.specs.Invariant.{RowAt, Good}
use Rattle.points_kept.proofs.Invariant.{asks}
use Rattle.points_kept.specs.Changes.{Sets}
use Rattle.points_kept.proofs.Changes.{set_one}
use Rattle.points_kept.proofs.Written.{as_written_ok}
use Rattle.points_kept.proofs.Verdicts.{trivial_met, false_row_lem}
use Rattle.points_kept.specs.Start.{InOrder, Ranged, Read, ReadR, Rounded, RoundedB}

pub crossed_ok : (ls hs : List Float) (x : ℕ → ℤ) → length hs ≡ length ls → ((v : ℕ) → v < length ls → Ranged (at ls v) (at hs v) (x v)) → T (crossed ls hs) → ⊥
unfolding crossed
crossed_ok [] hs x e r t = t
crossed_ok (l ∷ ls) [] x e r t = t
crossed_ok (l ∷ ls) (h ∷ hs) x e r t =
    elim (or (gt l h) _ t) [
      | inl c ↦ first (r 0 (omega arith)) c
      | inr c ↦ crossed_ok ls hs (λ v. x (suc v)) (omega arith) (λ v k. r (suc v) (omega arith)) c
    ]
  where
    first : Ranged l h (x 0) → T (gt l h) → ⊥
    first q c = let k = of_lt q.hi q.lo (record { lt = c }) in omega (arith, q.above, q.below)

pub uncrossed : (ls hs : List Float) (v : ℕ) → length hs ≡ length ls → T (not (crossed ls hs)) → v < length ls → at hs v ⊀ at ls v
unfolding crossed
uncrossed [] hs v e t k = absurd (omega arith)
uncrossed (l ∷ ls) [] v e t k = absurd (omega arith)
uncrossed (l ∷ ls) (h ∷ hs) zero e t k = record { nlt = (nor (gt l h) _ t).0 }
uncrossed (l ∷ ls) (h ∷ hs) (suc v) e t k = uncrossed ls hs v (omega arith) (nor (gt l h) _ t).1 (omega arith)

module _ (M : Model) (pure : PureInteger M) where
  pub carry : {ls ls' : List Float} {v : ℕ} {y : Float} {z : ℕ → ℤ} → Sets v ls ls' y → Is y (z v) → ((j : ℕ) → j < length M.lower → Is (at ls j) (z j))
      → (j : ℕ) → j < length M.lower → Is (at ls' j) (z j)
  carry {ls} {ls'} {v} {y} {z} s p q j k =
      elim (test (eqb j v)) [
        | inl t ↦ subst (λ (i : ℕ). Is (at ls' i) (z i)) (sym (eqb→eq j v t)) (subst (λ (u : Float). Is u (z v)) (sym s.here) p)
        | inr t ↦ subst (λ (u : Float). Is u (z j)) (sym (s.there j (differ j v t))) (q j k)
      ]

  -- a whole bound is its own rounding
  pub lower_is : {l : Float} {z : ℤ} → Is l z → A z ≤ 2 ^ 20 → Is (rounded_lower M.int_tol l) z
  unfolding rounded_lower
  lower_is {l} {z} p h =
      let c = laws.round_lower (record { whole = p.whole; small = subst (λ (u : ℤ). A u ≤ 2 ^ 20) (sym p.is) h }) (tolerance pure.numbers.int_tol) in
      if_true (λ (y : Float). Is y z) (is_finite l) l (finite l p.whole) (record { whole = c.whole; is = c.is ∙ p.is })

  pub upper_is : {l : Float} {z : ℤ} → Is l z → A z ≤ 2 ^ 20 → Is (rounded_upper M.int_tol l) z
  unfolding rounded_upper
  upper_is {l} {z} p h =
      let c = laws.round_upper (record { whole = p.whole; small = subst (λ (u : ℤ). A u ≤ 2 ^ 20) (sym p.is) h }) (tolerance pure.numbers.int_tol) in
      if_true (λ (y : Float). Is y z) (is_finite l) l (finite l p.whole) (record { whole = c.whole; is = c.is ∙ p.is })

  pub round_var_lem : (v : ℕ) (ls hs : List Float) → v < length M.lower → (Rounded M pure) ls hs → (RoundedB M pure) (round_var M v (bounds ls hs))
  unfolding round_var
  round_var_lem v ls hs h r =
      let l = lower_is (r.lo v h) (pure.numbers.lower v h).small in
      let u = upper_is (r.hi v h) (pure.numbers.upper v h).small in
      let sl = set_one v ls (rounded_lower M.int_tol (at ls v)) (subst (λ (n : ℕ). v < n) (sym r.lo_length) h) in
      let su = set_one v hs (rounded_upper M.int_tol (at hs v)) (subst (λ (n : ℕ). v < n) (sym r.hi_length) h) in
      both (RoundedB M pure) (is_int M v)
      (taking (RoundedB M pure) _
      (λ t x p. let k = of_lt u.whole l.whole (record { lt = t }) in omega (arith, eq_parts l.is, eq_parts u.is, (p.bounds v h).0, (p.bounds v h).1))
      (λ t. record {
        lo_length = sl.len ∙ r.lo_length;
        hi_length = su.len ∙ r.hi_length;
        lo = carry {z = λ j. int (at M.lower j)} sl l r.lo;
        hi = carry {z = λ j. int (at M.upper j)} su u r.hi;
      }))
      r

  pub round_one : (v : ℕ) (b : Bounds) → v < length M.lower → (RoundedB M pure) b → (RoundedB M pure) (round_var M v b)
  unfolding round_var
  round_one v cross h r = r
  round_one v (bounds ls hs) h r = round_var_lem v ls hs h r

  pub round_from_lem : (n v : ℕ) (b : Bounds) → v + n ≤ length M.lower → (RoundedB M pure) b → (RoundedB M pure) (round_from M n v b)
  unfolding round_from
  round_from_lem zero v b h r = r
  round_from_lem (suc n) v b h r = round_from_lem n (suc v) (round_var M v b) (omega arith) (round_one v b (omega arith) r)

  -- ---- the rows read: those before r
  module _ (ls hs : List Float) where
    pub add_one : (r : ℕ) (rows : List Row) (y : Row) → (Read M pure ls hs) r rows → RowAt M ls hs r y → (Read M pure ls hs) (suc r) (rows ++ (y ∷ []))
    add_one r rows y o a =
        record {
          len = length-append rows (y ∷ []) ∙ more (length rows) o.len;
          row = last_or {Q = λ j. RowAt M ls hs j (get_or (rows ++ (y ∷ [])) j no_row)} r (subst (RowAt M ls hs r) (sym (get_or_at rows y [] no_row r o.len)) a)
              (λ j k. subst (RowAt M ls hs j) (sym (get_or-append rows (y ∷ []) no_row j (subst (λ (n : ℕ). j < n) (sym o.len) k))) (o.row j k));
        }
      where
        more : (n : ℕ) → n ≡ r → n + 1 ≡ suc r
        more n e = omega arith

    pub read_add : (r : ℕ) (rows : List Row) (queue : List ℕ) (dirty : List Bool) (drops : ℕ) (o : Option Bool) → r < length M.rhs
        → trivial_verdict M.feas (op_of M r) (nnz M r) (rhs_of M r) ≡ o → (Read M pure ls hs) r rows → (ReadR M pure ls hs) (suc r) (add_row M r rows queue dirty drops o)
    unfolding add_row trivial
    read_add r rows queue dirty drops none h e g = add_one r rows (as_written M r) g (record { alive = λ t. as_written_ok M pure ls hs r h; dead = λ t. absurd (unfold as_written in t) })
    read_add r rows queue dirty drops (some true) h e g =
        add_one r rows (with_alive false (as_written M r)) g (record {
          alive = λ t. absurd t;
          dead = λ t x k. trivial_met M pure r h (subst (λ (o : Option Bool). T (says_true o)) (sym e) (unfold says_true in tt)) x;
        })
    read_add r rows queue dirty drops (some false) h e g = false_row_lem M pure r h (nnz M r) refl e

    pub read_one : (r : ℕ) (s : Rows) → r < length M.rhs → (ReadR M pure ls hs) r s → (ReadR M pure ls hs) (suc r) (read_row M r s)
    unfolding read_row
    read_one r (false_row n) h g = g
    read_one r (rows_are rows queue dirty drops) h g = read_add r rows queue dirty drops (trivial_verdict M.feas (op_of M r) (nnz M r) (rhs_of M r)) h refl g

    pub read_from_lem : (n r : ℕ) (s : Rows) → r + n ≤ length M.rhs → (ReadR M pure ls hs) r s → (ReadR M pure ls hs) (r + n) (read_from M n r s)
    unfolding read_from
    read_from_lem zero r s h g = subst (λ (k : ℕ). (ReadR M pure ls hs) k s) e g
      where
        e : r ≡ r + 0
        e = omega arith
    read_from_lem (suc n) r s h g = subst (λ (k : ℕ). (ReadR M pure ls hs) k (read_from M n (suc r) (read_row M r s))) (e n)
        (read_from_lem n (suc r) (read_row M r s) (omega arith) (read_one r s (omega arith) g))
      where
        e : (n : ℕ) → suc r + n ≡ r + suc n
        e n = omega arith

    -- THE INVARIANT HOLDS when all rows have been read
    pub start_good : (rows : List Row) → (Rounded M pure) ls hs → InOrder M → (Read M pure ls hs) (length M.rhs) rows → Good M (Point M) ls hs ls hs rows
    start_good rows r u g =
        record {
          wl_length = r.lo_length;
          wh_length = r.hi_length;
          el_length = r.lo_length;
          eh_length = r.hi_length;
          rows_length = g.len;
          interval = λ v h. record {
            lo = record { whole = (r.lo v h).whole; small = subst (λ (z : ℤ). A z ≤ 2 ^ 20) (sym (r.lo v h).is) (pure.numbers.lower v h).small };
            hi = record { whole = (r.hi v h).whole; small = subst (λ (z : ℤ). A z ≤ 2 ^ 20) (sym (r.hi v h).is) (pure.numbers.upper v h).small };
            wlo = record { whole = (r.lo v h).whole; is = refl };
            whi = record { whole = (r.hi v h).whole; is = refl };
            order = omega (arith, of_nlt (pure.numbers.upper v h).whole (pure.numbers.lower v h).whole (u v h), eq_parts (r.lo v h).is, eq_parts (r.hi v h).is);
          };
          keeps = λ x p v h. (subst (λ (z : ℤ). z ⊑ x v) (sym (r.lo v h).is) (p.bounds v h).0, subst (λ (z : ℤ). x v ⊑ z) (sym (r.hi v h).is) (p.bounds v h).1);
          asks = λ x p q h. asks M pure x p q h;
          shrinks = λ x k v h. (subst (λ (z : ℤ). z ⊑ x v) (r.lo v h).is (k v h).0, subst (λ (z : ℤ). x v ⊑ z) (r.hi v h).is (k v h).1);
          row = g.row;
        }
