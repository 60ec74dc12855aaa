-- DUAL FIXING KEEPS A BEST POINT: to lower a variable that no row needs high and no cost wants high breaks no row and makes no point dearer, and so does raising
-- one that no row needs low and no cost wants low. The moved point still meets each row at work, and a row that is gone is met by all within the bounds. The flags
-- are set once for a pass, and fixing leaves the rows, so they serve every variable of the pass, each within the bounds that the last one left.
use Prim.Native.Nat.{ℕ, zero, suc, ◌+◌, ◌^◌, ◌<◌, ◌≤◌}
use native.Mathlib.Omega.{arith}
use Rattle.std.specs.Prelude.{◌≡◌, true, false, ◌||◌, T, ℤ, pos, get_or, set, Float}
use Rattle.std.proofs.Math.Path.{refl, subst}
use Rattle.std.proofs.Common.{sym, ◌∙◌}
use Rattle.std.proofs.Math.Logic.{inl, inr}
use Rattle.std.proofs.Math.Bool.{Bool, not}
use mathlib.Core.List.{List}
use Rattle.std.proofs.Math.ListN.{length}
use Rattle.std.specs.Float.Ieee.{le}
use Rattle.floats.specs.Num.{gt, ge, 0f, is_finite}
use Rattle.floats.specs.Zed.{A, ◌⊑◌}
use Rattle.floats.specs.Points.{int, Whole, Bounded, Is}
use Rattle.tolerances.specs.Tol.{Term, at}
use Rattle.definition.specs.Model.{Model, Row, is_int, fixed_one}
use Rattle.definition.specs.Work.{Work, no_row, fixed, with_bounds, with_counts}
use Rattle.definition.specs.Bounds.{fix}
use Rattle.definition.specs.Dual.{may_fall, may_rise, dual_var, dual_from, dual_fix}
use Rattle.definition.specs.Tests.{test, taking, and3}
use Rattle.points_kept.specs.Statements.{PureInteger, Within}
use Rattle.points_kept.proofs.Integers.{eq_parts, mul_mono, mul_anti}
use Rattle.points_kept.proofs.WholeFloats.{finite, sign_pos, of_nlt, zero_is}
use Rattle.points_kept.specs.Terms.{All, TermOk}
use Rattle.points_kept.proofs.Terms.{all_map, all_both}
use Rattle.points_kept.specs.Invariant.{GoodW, RowSided, RowOk}
use Rattle.points_kept.specs.Changes.{Sets}
use Rattle.points_kept.proofs.Changes.{mark_any, set_good, set_one}
use Rattle.points_kept.specs.WorkingRow.{AtWork}
use Rattle.points_kept.proofs.WorkingRow.{point_meets, met_in}
use Rattle.points_kept.specs.Dominance.{Dominance, At, Dominating}
use Rattle.points_kept.proofs.Dominance.{good_for, has}
use Rattle.best_kept.specs.Blocked.{Falls, Rises}
use Rattle.best_kept.proofs.Blocked.{may_fall_lem, may_rise_lem}
use Rattle.best_kept.specs.Moved.{moved, NoMore, NoLess}
use Rattle.best_kept.proofs.Moved.{moved_here, moved_within, no_more, no_less}
use Rattle.best_kept.specs.DualFixing.{Allowed, FixedSo, Moves, Now, There, dec, falls?, inc, n, rises?, terms}

-- ---- a float's sign, as a whole number's
pub positive : (c : Float) → Whole c → T (gt c 0f) → pos 0 ⊑ int c
positive c w g = omega (arith, sign_pos c w g)

pub not_positive : (c : Float) → Whole c → T (not (gt c 0f)) → int c ⊑ pos 0
not_positive c w g = omega (arith, of_nlt zero_is.whole w (record { nlt = g }), eq_parts zero_is.is)

-- each term of v, by its coefficient's sign
pub by_sign : (n v : ℕ) (S : Float → Bool) (Q : Term → Type 0) (ts : List Term) → ((t : Term) → Whole t.coeff → (t.var ≡ v → T (S t.coeff)) → Q t)
    → All (TermOk n) ts → All (λ t. t.var ≡ v → T (S t.coeff)) ts → All Q ts
by_sign n v S Q ts f ok h = all_map ts (λ t p. f t p.0.coeff.whole p.1) (all_both (TermOk n) (λ t. t.var ≡ v → T (S t.coeff)) ts ok h)

-- ---- a state's point with v moved to a, within the state's bounds
module _ (M : Model) (pure : PureInteger M) (w : Work) (g : GoodW M (At M w) w) (v : ℕ) (a : ℤ) (y : ℕ → ℤ) (p : At M w y)
    (k : Within (length M.lower) w.elo w.ehi (moved v a y)) where
  -- it meets a row at work whose sum does not rise where the row has an upper side, nor fall where it has a lower one
  pub still_met : (r : ℕ) (h : r < length M.rhs) (al : T (get_or w.rows r no_row).alive) → let row = get_or w.rows r no_row in
      (T (is_finite row.hi) → All (NoMore v a y) row.terms) → (T (is_finite row.lo) → All (NoLess v a y) row.terms) → RowSided M r (moved v a y)
  still_met r h al less more =
      let row = get_or w.rows r no_row in
      let ok : RowOk M w.elo w.ehi r row = (g.row r h).alive al in
      let σ : AtWork M (At M w) w r row = record { pure = pure; good = g; range = h; ok = ok } in
      let m = point_meets σ y p in
      met_in σ (moved v a y) k
      (record {
        below = λ t. omega (arith, m.below t, no_more v a y row.terms (less (finite row.hi (ok.hi.shut t).whole)));
        above = λ t. omega (arith, m.above t, no_less v a y row.terms (more (finite row.lo (ok.lo.shut t).whole)));
      })

  pub still : ((r : ℕ) → r < length M.rhs → T (get_or w.rows r no_row).alive → RowSided M r (moved v a y)) → At M w (moved v a y)
  still f = (k, λ r h. elim (test (get_or w.rows r no_row).alive) [ inl al ↦ f r h al | inr al ↦ (g.row r h).dead al (moved v a y) k ])

  pub fallen : a ⊑ y v → ((r : ℕ) → Falls v w.rows r) → At M w (moved v a y)
  fallen l f = still (λ r h al.
      let ok = ((g.row r h).alive al).terms in
      still_met r h al
      (λ t. by_sign (length M.lower) v (rises? M pure w g v a y p k) (NoMore v a y) ((terms M pure w g v a y p k) r)
      (λ u q s e. mul_mono (int u.coeff) a (y v) (positive u.coeff q (s e)) l) ok ((f r al).plus t))
      (λ t. by_sign (length M.lower) v (falls? M pure w g v a y p k) (NoLess v a y) ((terms M pure w g v a y p k) r)
      (λ u q s e. mul_anti (int u.coeff) a (y v) (not_positive u.coeff q (s e)) l) ok ((f r al).minus t)))

  pub risen : y v ⊑ a → ((r : ℕ) → Rises v w.rows r) → At M w (moved v a y)
  risen l f = still (λ r h al.
      let ok = ((g.row r h).alive al).terms in
      still_met r h al
      (λ t. by_sign (length M.lower) v (falls? M pure w g v a y p k) (NoMore v a y) ((terms M pure w g v a y p k) r)
      (λ u q s e. mul_anti (int u.coeff) (y v) a (not_positive u.coeff q (s e)) l) ok ((f r al).minus t))
      (λ t. by_sign (length M.lower) v (rises? M pure w g v a y p k) (NoLess v a y) ((terms M pure w g v a y p k) r)
      (λ u q s e. mul_mono (int u.coeff) (y v) a (positive u.coeff q (s e)) l) ok ((f r al).plus t)))

-- ---- `fix` at a whole number c of the bounds, to which each of the state's points may be moved
module _ (M : Model) (D : Dominance) (moves : Moves M D) (w : Work) (d : Dominating M D w) (v : ℕ) (h : v < length M.lower) (c : Float) (b : Bounded (2 ^ 20) c)
    (low : int (at w.elo v) ⊑ int c) (high : int c ⊑ int (at w.ehi v)) where
  pub there : GoodW M (There M D moves w d v h c b low high) w
  there = good_for M w d.good (λ x p. p.0)

  pub fixed_so : (FixedSo M D moves w d v h c b low high) (fix M v c w)
  unfolding fix
  fixed_so =
      let g : GoodW M (There M D moves w d v h c b low high) w = there in
      let one : (l : List Float) → length l ≡ length M.lower → Sets v l (set l v c) c = λ l e. set_one v l c (subst (λ (k : ℕ). v < k) (sym e) h) in
      let s = set_good M w.wlo w.whi w.elo w.ehi (set w.wlo v c) (set w.whi v c) (set w.elo v c) (set w.ehi v c) w.rows v c c c c h g
      (one w.wlo g.wl_length) (one w.whi g.wh_length) (one w.elo g.el_length) (one w.ehi g.eh_length)
      (record { lo = b; hi = b; wlo = record { whole = b.whole; is = refl }; whi = record { whole = b.whole; is = refl }; order = omega arith })
      (record { lo = low; hi = high })
      (λ x p. let q = eq_parts p.1 in (omega arith, omega arith)) in
      mark_any M (FixedSo M D moves w d v h c b low high) (λ x d e q k. k) v
      (with_counts (fixed_one w.counts) (with_bounds (set w.wlo v c) (set w.whi v c) (set w.elo v c) (set w.ehi v c) w)) (s.0, refl)

  pub fix_ok : ((y : ℕ → ℤ) → At M w y → At M w (moved v (int c) y) × Allowed M v (int c) y) → Dominating M D (fix M v c w) × ((fix M v c w).rows ≡ w.rows)
  fix_ok to =
      let f = fixed_so in (
        record {
          good = good_for M (fix M v c w) f.0 (λ x p. p);
          dominates = λ x p.
              let q = d.dominates x p in
              let m = to q.0 q.1 in
              (moved v (int c) q.0, has M (fix M v c w) f.0 (moved v (int c) q.0) (m.0, moved_here v (int c) q.0), moves v h (int c) x q.0 m.1 q.2);
        },
        f.1,
      )

-- ---- one variable's turn, with the flags of the rows rs
module _ (M : Model) (pure : PureInteger M) (D : Dominance) (moves : Moves M D) (rs : List Row) where
  pub bounded_as : {x y : Float} → Bounded (2 ^ 20) y → Is x (int y) → Bounded (2 ^ 20) x
  bounded_as b i = record { whole = i.whole; small = subst (λ (q : ℤ). A q ≤ 2 ^ 20) (sym i.is) b.small }

  pub fall_ok : (v : ℕ) (w : Work) → v < (n M pure D moves rs) → (Now M pure D moves rs) w → T (may_fall M (dec M pure D moves rs) v w) → (Now M pure D moves rs) (fix M v (at w.wlo v) w)
  unfolding may_fall
  fall_ok v w h k t =
      let d = k.0 in
      let c = at w.wlo v in
      let i = d.good.interval v h in
      let q = eq_parts i.wlo.is in
      let a = and3 (ge (at M.obj v) 0f) (not (get_or (dec M pure D moves rs) v true)) (is_finite c) t in
      let free : (r : ℕ) → Falls v w.rows r = subst (λ (rows : List Row). (r : ℕ) → Falls v rows r) (sym k.1) (may_fall_lem (n M pure D moves rs) v rs h a.1) in
      let f = fix_ok M D moves w d v h c (bounded_as i.lo i.wlo) (omega arith) (omega (arith, i.order))
      (λ y p.
      let l : int c ⊑ y v = omega (arith, (p.0 v h).0) in
      let z = moved_within v (int c) y (n M pure D moves rs) w.elo w.ehi (omega arith) (omega (arith, i.order)) p.0 in
      (fallen M pure w d.good v (int c) y p z l free, inl (a.0, l))) in
      (f.0, f.1 ∙ k.1)

  pub rise_ok : (v : ℕ) (w : Work) → v < (n M pure D moves rs) → (Now M pure D moves rs) w → T (may_rise M (inc M pure D moves rs) v w) → (Now M pure D moves rs) (fix M v (at w.whi v) w)
  unfolding may_rise
  rise_ok v w h k t =
      let d = k.0 in
      let c = at w.whi v in
      let i = d.good.interval v h in
      let q = eq_parts i.whi.is in
      let a = and3 (le (at M.obj v) 0f) (not (get_or (inc M pure D moves rs) v true)) (is_finite c) t in
      let free : (r : ℕ) → Rises v w.rows r = subst (λ (rows : List Row). (r : ℕ) → Rises v rows r) (sym k.1) (may_rise_lem (n M pure D moves rs) v rs h a.1) in
      let f = fix_ok M D moves w d v h c (bounded_as i.hi i.whi) (omega (arith, i.order)) (omega arith)
      (λ y p.
      let l : y v ⊑ int c = omega (arith, (p.0 v h).1) in
      let z = moved_within v (int c) y (n M pure D moves rs) w.elo w.ehi (omega (arith, i.order)) (omega arith) p.0 in
      (risen M pure w d.good v (int c) y p z l free, inr (a.0, l))) in
      (f.0, f.1 ∙ k.1)

  pub var_ok : (v : ℕ) (w : Work) (changed : Bool) → v < (n M pure D moves rs) → (Now M pure D moves rs) w
      → (Now M pure D moves rs) (dual_var M (dec M pure D moves rs) (inc M pure D moves rs) v w changed).0
  unfolding dual_var
  var_ok v w changed h k =
      let Q : Work × Bool → Type 0 = λ p. (Now M pure D moves rs) p.0 in
      taking Q (fixed w v || not (is_int M v)) (λ _. k)
      (λ _. taking Q (may_fall M (dec M pure D moves rs) v w) (λ t. fall_ok v w h k t)
      (λ _. taking Q (may_rise M (inc M pure D moves rs) v w) (λ t. rise_ok v w h k t) (λ _. k)))

  pub from_ok : (m v : ℕ) (w : Work) (changed : Bool) → v + m ≤ (n M pure D moves rs) → (Now M pure D moves rs) w
      → (Now M pure D moves rs) (dual_from M m (dec M pure D moves rs) (inc M pure D moves rs) v w changed).0
  unfolding dual_from
  from_ok zero v w changed h k = k
  from_ok (suc m) v w changed h k = from_ok m (suc v) _ _ (omega arith) (var_ok v w changed (omega arith) k)

-- DUAL FIXING keeps the invariant up to any dominance that its moves keep
pub dual_ok : (M : Model) → PureInteger M → (D : Dominance) → Moves M D → (w : Work) → Dominating M D w → Dominating M D (dual_fix M w).0
unfolding dual_fix
dual_ok M pure D moves w d = (from_ok M pure D moves w.rows (length M.lower) 0 w false (omega arith) (d, refl)).0
