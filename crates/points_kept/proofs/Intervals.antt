-- A VARIABLE'S INTERVAL WHERE A BOUND MOVES: an implied bound is rounded, and taken only between the old ones; so is a singleton's. What is left is an interval
-- of whole numbers within the old one, and nothing is asked of the row that the bound comes from: it may be rewritten, and the quotient may be a NaN or
-- infinite.
use Rattle.std.specs.Prelude.{ℕ, ◌^◌, ◌≤◌, ◌||◌, ℤ}
use Rattle.std.proofs.Common.{arith, sym, ap, subst, ◌∙◌}
use Rattle.std.proofs.Math.Logic.{inl, inr}
use Rattle.std.specs.Float.Ieee.{Float, lt, is_nan}
use Rattle.floats.specs.Num.{◌⊕◌, ◌⊖◌, ◌⊘◌, ½f, is_finite, maxf, minf, floor, ceil}
use Rattle.floats.specs.Zed.{P, N, A, ◌⊑◌}
use Rattle.floats.specs.Points.{int, Whole, Bounded, Held, ◌≼◌, ◌≺◌, ◌⊀◌, Is}
use Rattle.tolerances.specs.Laws.{laws}
use Rattle.definition.specs.Model.{Model, Row}
use Rattle.definition.specs.Singles.{widened_at, new_lower, new_upper}
use Rattle.definition.specs.Choices.{both}
use Rattle.definition.specs.Tests.{taking, or}
use Rattle.points_kept.proofs.Integers.{size_between}
use Rattle.points_kept.proofs.WholeFloats.{held, of_le, of_lt, self, half_nonneg, max_is, min_is, min_left, max_left, lt_le, not_nan}
use Rattle.points_kept.specs.Invariant.{Interval}
use Rattle.points_kept.specs.Intervals.{NewHi, NewLo, Shrunk}

-- ---- an implied bound of any held y
module _ {wl wh el eh : Float} (o : Interval wl wh el eh) {y : Float} (hy : Held y) where
  pub lowered : floor y ≺ (eh ⊖ ½f) → floor y ⊀ (wl ⊖ ½f) → Shrunk el eh wl (minf wh (floor y)) el (floor y)
  lowered a b =
      let a' : floor y ≺ eh = laws.lt_le_trans a (laws.sub_keeps o.hi.whole (held _ o.hi.whole) (self o.hi.whole) half_nonneg) in
      let wb : Bounded (2 ^ 20) wl = record { whole = o.wlo.whole; small = subst (λ (z : ℤ). A z ≤ 2 ^ 20) (sym o.wlo.is) o.lo.small } in
      let b' : wl ≼ floor y = laws.floor_half wb hy a b in
      let Q : Whole (floor y) = laws.floor_whole o.wlo.whole o.hi.whole hy b' (lt_le a') in
      let hi = of_lt Q o.hi.whole a' in
      let lo = of_le o.wlo.whole Q b' in
      let lo' : int el ⊑ int (floor y) = omega (arith, ap P o.wlo.is, ap N o.wlo.is) in
      record {
        interval =
            record {
              lo = o.lo;
              hi = record { whole = Q; small = size_between (int el) (int (floor y)) (int eh) (2 ^ 20) lo' (omega arith) o.lo.small o.hi.small };
              wlo = o.wlo;
              whi = min_is o.whi.whole Q (omega (arith, ap P o.whi.is, ap N o.whi.is));
              order = lo';
            };
        narrow = record { lo = omega arith; hi = omega arith };
      }

  pub raised : (el ⊕ ½f) ≺ ceil y → (wh ⊕ ½f) ⊀ ceil y → Shrunk el eh (maxf wl (ceil y)) wh (ceil y) eh
  raised a b =
      let a' : el ≺ ceil y = laws.le_lt_trans (laws.add_keeps o.lo.whole (held _ o.lo.whole) (self o.lo.whole) half_nonneg) a in
      let wb : Bounded (2 ^ 20) wh = record { whole = o.whi.whole; small = subst (λ (z : ℤ). A z ≤ 2 ^ 20) (sym o.whi.is) o.hi.small } in
      let b' : ceil y ≼ wh = laws.ceil_half wb hy a b in
      let Q : Whole (ceil y) = laws.ceil_whole o.lo.whole o.whi.whole hy (lt_le a') b' in
      let lo = of_lt o.lo.whole Q a' in
      let hi = of_le Q o.whi.whole b' in
      let hi' : int (ceil y) ⊑ int eh = omega (arith, ap P o.whi.is, ap N o.whi.is) in
      record {
        interval =
            record {
              lo = record { whole = Q; small = size_between (int el) (int (ceil y)) (int eh) (2 ^ 20) (omega arith) hi' o.lo.small o.hi.small };
              hi = o.hi;
              wlo = max_is o.wlo.whole Q (omega (arith, ap P o.wlo.is, ap N o.wlo.is));
              whi = o.whi;
              order = hi';
            };
        narrow = record { lo = omega arith; hi = omega arith };
      }

pub same_lo : {old : Float} → Whole old → NewLo old old
same_lo o = record { above = self o; whole = λ u W k. o }

pub same_hi : {old : Float} → Whole old → NewHi old old
same_hi o = record { below = self o; whole = λ u W k. o }

pub emitted : {wl wh el eh lo hi : Float} → Interval wl wh el eh → NewLo el lo → NewHi eh hi → hi ⊀ lo → Shrunk el eh (minf (maxf wl lo) hi) (maxf (minf wh hi) lo) lo hi
emitted {wl} {wh} {el} {eh} {lo} {hi} o nl nh n =
    let lh : lo ≼ hi = laws.not_lt (laws.le_left nh.below) (laws.le_right nl.above) n in
    let WL : Whole lo = nl.whole eh o.hi.whole (laws.le_trans lh nh.below) in
    let WH : Whole hi = nh.whole el o.lo.whole (laws.le_trans nl.above lh) in
    let l1 : int el ⊑ int lo = of_le o.lo.whole WL nl.above in
    let l2 : int lo ⊑ int hi = of_le WL WH lh in
    let l3 : int hi ⊑ int eh = of_le WH o.hi.whole nh.below in
    let a1 : Is (maxf wl lo) (int lo) = max_is o.wlo.whole WL (omega (arith, l1, ap P o.wlo.is, ap N o.wlo.is)) in
    let a2 = min_left a1.whole WH (omega (arith, l2, ap P a1.is, ap N a1.is)) in
    let b1 : Is (minf wh hi) (int hi) = min_is o.whi.whole WH (omega (arith, l3, ap P o.whi.is, ap N o.whi.is)) in
    let b2 = max_left b1.whole WL (omega (arith, l2, ap P b1.is, ap N b1.is)) in
    record {
      interval =
          record {
            lo = record { whole = WL; small = size_between (int el) (int lo) (int eh) (2 ^ 20) l1 (omega (arith, l2, l3)) o.lo.small o.hi.small };
            hi = record { whole = WH; small = size_between (int el) (int hi) (int eh) (2 ^ 20) (omega (arith, l1, l2)) l3 o.lo.small o.hi.small };
            wlo = record { whole = a2.whole; is = a2.is ∙ a1.is };
            whi = record { whole = b2.whole; is = b2.is ∙ b1.is };
            order = l2;
          };
      narrow = record { lo = l1; hi = l3 };
    }

module _ (M : Model) (r : ℕ) (row : Row) (a : Float) where
  pub new_lo_lem : (blo old : Float) → Whole old → NewLo old (new_lower M r row a blo old)
  unfolding new_lower maxf
  new_lo_lem blo old o =
      let y : Float = blo ⊘ a ⊖ widened_at M r row a blo in
      both (NewLo old) (is_finite (blo ⊘ a))
      (taking (NewLo old) (is_nan old || lt old (ceil y))
      (λ t. elim (or (is_nan old) _ t) [
        | inl n ↦ absurd (not_nan old o n)
        | inr l ↦ record { above = lt_le (record { lt = l }); whole = λ u W k. laws.ceil_whole o W (laws.fits_sub _ _) (lt_le (record { lt = l })) k }
      ])
      (λ t. same_lo o))
      (same_lo o)

  pub new_hi_lem : (bhi old : Float) → Whole old → NewHi old (new_upper M r row a bhi old)
  unfolding new_upper minf
  new_hi_lem bhi old o =
      let y : Float = bhi ⊘ a ⊕ widened_at M r row a bhi in
      both (NewHi old) (is_finite (bhi ⊘ a))
      (taking (NewHi old) (is_nan old || lt (floor y) old)
      (λ t. elim (or (is_nan old) _ t) [
        | inl n ↦ absurd (not_nan old o n)
        | inr l ↦ record { below = lt_le (record { lt = l }); whole = λ u W k. laws.floor_whole W o (laws.fits_add _ _) k (lt_le (record { lt = l })) }
      ])
      (λ t. same_hi o))
      (same_hi o)

  -- where they do not cross
  pub singled : (blo bhi : Float) {wl wh el eh : Float} → Interval wl wh el eh → new_upper M r row a bhi eh ⊀ new_lower M r row a blo el
      → Shrunk el eh (minf (maxf wl (new_lower M r row a blo el)) (new_upper M r row a bhi eh)) (maxf (minf wh (new_upper M r row a bhi eh)) (new_lower M r row a blo el))
      (new_lower M r row a blo el) (new_upper M r row a bhi eh)
  singled blo bhi {el = el} {eh = eh} o n = emitted o (new_lo_lem blo el o.lo.whole) (new_hi_lem bhi eh o.hi.whole) n
