-- THE BOX of a farm model stays a box of whole numbers, in every state that presolve reaches and whatever became of the rows: after rewrites and dual fixing
-- too. Each variable's working and emitted bounds are whole, equal as numbers, in order, and within the model's own.
use Rattle.std.specs.Prelude.{ℕ, ◌^◌, ◌≤◌, ◌<◌, ◌≡◌, false, not, List, T, eqb, ℤ, length, set, Float}
use Rattle.std.proofs.Common.{arith, sym, ap, subst, ◌∙◌, inl, inr, eqb→eq, length-set, get_or-set_same, get_or-set_other}
use Rattle.std.proofs.Math.Path.{refl}
use Rattle.std.proofs.Math.Bool.{Bool}
use Rattle.std.specs.Float.{nan}
use Rattle.std.specs.Float.Ieee.{lt}
use Rattle.floats.specs.Num.{◌⊕◌, ◌⊖◌, ½f, is_finite, floor, ceil}
use Rattle.floats.specs.Zed.{P, N, A}
use Rattle.floats.specs.Points.{int, Bounded, Held, ◌⊀◌, Is}
use Rattle.tolerances.specs.Tol.{Term, at}
use Rattle.tolerances.specs.Laws.{laws}
use Rattle.definition.specs.Model.{Model, is_int, Row}
use Rattle.definition.specs.Work.{Work, Step}
use Rattle.definition.specs.Begin.{crossed, bounds}
use Rattle.definition.specs.Bounds.{fix, emit_bounds, upper_int, upper_real, tighten_upper, lower_int, lower_real, tighten_lower}
use Rattle.definition.specs.Singles.{new_lower, new_upper, singleton_int}
use Rattle.definition.specs.Forcing.{corner}
use Rattle.definition.specs.Dual.{dual_var}
use Rattle.definition.specs.Choices.{both}
use Rattle.definition.specs.Tests.{test, taking, never, differ}
use Rattle.rows_kept.specs.Steps.{Each, stopped, went}
use Rattle.rows_kept.specs.Kept.{Marking}
use Rattle.rows_kept.proofs.Boxes.{mark_var_lem, mark_tightened_lem, real_moves}
use Rattle.rows_kept.specs.States.{Reaches, BoundsKept}
use Rattle.rows_kept.proofs.States.{bounds_reached}
use Rattle.points_kept.specs.Statements.{PureInteger}
use Rattle.points_kept.proofs.Integers.{eq_parts, size_between}
use Rattle.points_kept.proofs.WholeFloats.{of_nlt}
use Rattle.points_kept.specs.Intervals.{Shrunk}
use Rattle.points_kept.proofs.Intervals.{lowered, raised, singled}
use Rattle.points_kept.proofs.WorkingRow.{int_var}
use Rattle.points_kept.specs.Start.{Rounded, RoundedB}
use Rattle.points_kept.proofs.Start.{round_from_lem, uncrossed}
use Rattle.points_kept.specs.WholeBox.{Box, BoxW, Boxed, BoxedAt, Puts, Spot}

pub shrink : {lo hi : ℤ} {wl wh el eh wl' wh' el' eh' : Float} → Boxed lo hi wl wh el eh → Shrunk el eh wl' wh' el' eh' → Boxed lo hi wl' wh' el' eh'
shrink q s = record { interval = s.interval; lower = omega (arith, q.lower, s.narrow.lo); upper = omega (arith, q.upper, s.narrow.hi) }

pub puts : (v : ℕ) (l : List Float) (x : Float) → Puts v l (set l v x) x
puts v l x = record { len = length-set l v x; here = λ h. get_or-set_same l v x nan h; there = λ j n. get_or-set_other l v j x nan n }

pub leaves : (v : ℕ) (l : List Float) → Puts v l l (at l v)
leaves v l = record { len = refl; here = λ h. refl; there = λ j n. refl }

module _ (M : Model) where
  pub marking : Marking (BoxW M)
  marking = record { marks = λ w d c q p. p; counted = λ w a b c p. p }

  pub set_box : {wl wh el eh wl' wh' el' eh' : List Float} (v : ℕ) {a b c d : Float} → (Box M) wl wh el eh
      → Puts v wl wl' a → Puts v wh wh' b → Puts v el el' c → Puts v eh eh' d
      → (v < length M.lower → Boxed (int (at M.lower v)) (int (at M.upper v)) a b c d) → (Box M) wl' wh' el' eh'
  set_box {wl} {wh} {el} {eh} {wl'} {wh'} {el'} {eh'} v p sa sb sc sd new =
      record { wl_length = sa.len ∙ p.wl_length; wh_length = sb.len ∙ p.wh_length; el_length = sc.len ∙ p.el_length; eh_length = sd.len ∙ p.eh_length; boxed = all }
    where
      within : (l : List Float) → length l ≡ length M.lower → v < length M.lower → v < length l
      within l e h = subst (λ (n : ℕ). v < n) (sym e) h

      here : v < length M.lower → (BoxedAt M) wl' wh' el' eh' v
      here h = rw (sa.here (within wl p.wl_length h), sb.here (within wh p.wh_length h), sc.here (within el p.el_length h), sd.here (within eh p.eh_length h)) (new h)

      all : (j : ℕ) → j < length M.lower → (BoxedAt M) wl' wh' el' eh' j
      all j k =
          elim (test (eqb j v)) [
            | inl t ↦ subst (λ (i : ℕ). (BoxedAt M) wl' wh' el' eh' i) (sym (eqb→eq j v t)) (here (subst (λ (i : ℕ). i < length M.lower) (eqb→eq j v t) k))
            | inr t ↦ rw (sa.there j (differ j v t), sb.there j (differ j v t), sc.there j (differ j v t), sd.there j (differ j v t)) (p.boxed j k)
          ]

  -- ---- implied bounds of an integer variable: of any y
  pub upper_int_lem : (v : ℕ) (y : Float) (w : Work) → Held y → (BoxW M) w → Each (BoxW M) (upper_int M v (floor y) w)
  unfolding upper_int
  upper_int_lem v y w hy p =
      let E : Step → Type 0 = Each (BoxW M) in
      taking E (lt (floor y) (at w.ehi v ⊖ ½f))
      (λ a. taking E (lt (floor y) (at w.wlo v ⊖ ½f)) (λ b. stopped w refl p)
      (λ b. went (mark_tightened_lem M marking v _
      (set_box v p (leaves v w.wlo) (puts v w.whi _) (leaves v w.elo) (puts v w.ehi _)
      (λ h. shrink (p.boxed v h) (lowered (p.boxed v h).interval hy (record { lt = a }) (record { nlt = b })))))))
      (λ a. went p)

  pub lower_int_lem : (v : ℕ) (y : Float) (w : Work) → Held y → (BoxW M) w → Each (BoxW M) (lower_int M v (ceil y) w)
  unfolding lower_int
  lower_int_lem v y w hy p =
      let E : Step → Type 0 = Each (BoxW M) in
      taking E (lt (at w.elo v ⊕ ½f) (ceil y))
      (λ a. taking E (lt (at w.whi v ⊕ ½f) (ceil y)) (λ b. stopped w refl p)
      (λ b. went (mark_tightened_lem M marking v _
      (set_box v p (puts v w.wlo _) (leaves v w.whi) (puts v w.elo _) (leaves v w.ehi)
      (λ h. shrink (p.boxed v h) (raised (p.boxed v h).interval hy (record { lt = a }) (record { nlt = b })))))))
      (λ a. went p)

  -- ---- a singleton's bounds, where they do not cross
  pub emit_box : (r : ℕ) (row : Row) (v : ℕ) (a blo bhi : Float) (w : Work) → (BoxW M) w → new_upper M r row a bhi (at w.ehi v) ⊀ new_lower M r row a blo (at w.elo v)
      → (BoxW M) (emit_bounds M v (new_lower M r row a blo (at w.elo v)) (new_upper M r row a bhi (at w.ehi v)) w)
  unfolding emit_bounds
  emit_box r row v a blo bhi w p n =
      set_box v p (puts v w.wlo _) (puts v w.whi _) (puts v w.elo _) (puts v w.ehi _) (λ h. shrink (p.boxed v h) (singled M r row a blo bhi (p.boxed v h).interval n))

  pub single_box : (r : ℕ) (row : Row) (v : ℕ) (a blo bhi : Float) (w : Work) → (BoxW M) w → Each (BoxW M) (singleton_int M r row v a blo bhi w)
  unfolding singleton_int
  single_box r row v a blo bhi w p = taking (Each (BoxW M)) _ (λ t. stopped w refl p) (λ t. went (emit_box r row v a blo bhi w p (record { nlt = t })))

  module _ (pure : PureInteger M) where
    -- ---- a variable that is no integer variable is none of the model's
    pub upper_real_lem : (v : ℕ) (nq : Float) (w : Work) → T (not (is_int M v)) → (BoxW M) w → Each (BoxW M) (upper_real M v nq w)
    unfolding upper_real
    upper_real_lem v nq w i p = real_moves M marking v w _ _ _ _ p
        (set_box v p (leaves v w.wlo) (puts v w.whi nq) (leaves v w.elo) (leaves v w.ehi) (λ h. absurd (never (is_int M v) i (int_var M pure v h))))

    pub lower_real_lem : (v : ℕ) (nq : Float) (w : Work) → T (not (is_int M v)) → (BoxW M) w → Each (BoxW M) (lower_real M v nq w)
    unfolding lower_real
    lower_real_lem v nq w i p = real_moves M marking v w _ _ _ _ p
        (set_box v p (puts v w.wlo nq) (leaves v w.whi) (leaves v w.elo) (leaves v w.ehi) (λ h. absurd (never (is_int M v) i (int_var M pure v h))))

    pub upper_box : (v : ℕ) (q relax : Float) (w : Work) → (BoxW M) w → Each (BoxW M) (tighten_upper M v q relax w)
    unfolding tighten_upper
    upper_box v q relax w p =
        both (Each (BoxW M)) (is_finite q) (taking (Each (BoxW M)) (is_int M v) (λ i. upper_int_lem v (q ⊕ relax) w (laws.fits_add q relax) p) (λ i. upper_real_lem v (q ⊕ relax) w i p)) (went p)

    pub lower_box : (v : ℕ) (q relax : Float) (w : Work) → (BoxW M) w → Each (BoxW M) (tighten_lower M v q relax w)
    unfolding tighten_lower
    lower_box v q relax w p =
        both (Each (BoxW M)) (is_finite q) (taking (Each (BoxW M)) (is_int M v) (λ i. lower_int_lem v (q ⊖ relax) w (laws.fits_sub q relax) p) (λ i. lower_real_lem v (q ⊖ relax) w i p)) (went p)

    pub fixed_at_lem : {v : ℕ} {x : Float} → v < length M.lower → (Spot M pure) v x → Boxed (int (at M.lower v)) (int (at M.upper v)) x x x x
    fixed_at_lem {v} {x} h s =
        let lo = (pure.numbers.lower v h).small in
        let hi = (pure.numbers.upper v h).small in
        let b : Bounded (2 ^ 20) x = record { whole = s.whole; small = size_between (int (at M.lower v)) (int x) (int (at M.upper v)) (2 ^ 20) s.above s.below lo hi } in
        let i : Is x (int x) = record { whole = s.whole; is = refl } in
        record { interval = record { lo = b; hi = b; wlo = i; whi = i; order = omega arith }; lower = s.above; upper = s.below }

    pub fix_box : (v : ℕ) (x : Float) (w : Work) → (v < length M.lower → (Spot M pure) v x) → (BoxW M) w → (BoxW M) (fix M v x w)
    unfolding fix
    fix_box v x w s p = mark_var_lem M marking v _ (set_box v p (puts v w.wlo x) (puts v w.whi x) (puts v w.elo x) (puts v w.ehi x) (λ h. fixed_at_lem h (s h)))

    pub lower_spot : {v : ℕ} {x wl wh el eh : Float} → Boxed (int (at M.lower v)) (int (at M.upper v)) wl wh el eh → Is x (int el) → (Spot M pure) v x
    lower_spot q i =
        record { whole = i.whole; above = omega (arith, ap P i.is, ap N i.is, q.lower); below = omega (arith, ap P i.is, ap N i.is, q.upper, q.interval.order) }

    pub upper_spot : {v : ℕ} {x wl wh el eh : Float} → Boxed (int (at M.lower v)) (int (at M.upper v)) wl wh el eh → Is x (int eh) → (Spot M pure) v x
    upper_spot q i =
        record { whole = i.whole; above = omega (arith, ap P i.is, ap N i.is, q.lower, q.interval.order); below = omega (arith, ap P i.is, ap N i.is, q.upper) }

    pub corner_spot : (minCorner : Bool) (w0 : Work) (t : Term) → (BoxW M) w0 → t.var < length M.lower → (Spot M pure) t.var (corner minCorner w0 t)
    unfolding corner
    corner_spot minCorner w0 t p h =
        let q = p.boxed t.var h in
        both ((Spot M pure) t.var) _ (upper_spot q (record { whole = q.interval.hi.whole; is = refl })) (lower_spot q (record { whole = q.interval.lo.whole; is = refl }))

    pub dual_box : (dec inc : List Bool) (v : ℕ) (w : Work) (changed : Bool) → (BoxW M) w → (BoxW M) (dual_var M dec inc v w changed).0
    unfolding dual_var
    dual_box dec inc v w changed p =
        let Q : Work × Bool → Type 0 = λ x. (BoxW M) x.0 in
        both Q _ p
        (both Q _ (fix_box v _ w (λ h. lower_spot (p.boxed v h) (p.boxed v h).interval.wlo) p)
        (both Q _ (fix_box v _ w (λ h. upper_spot (p.boxed v h) (p.boxed v h).interval.whi) p) p))

    -- ---- the start: rounding moves no bound of a farm model
    pub as_given_lem : Rounded M pure M.lower M.upper
    as_given_lem =
        record {
          lo_length = refl;
          hi_length = pure.shape.uppers;
          lo = λ v h. record { whole = (pure.numbers.lower v h).whole; is = refl };
          hi = λ v h. record { whole = (pure.numbers.upper v h).whole; is = refl };
        }

    pub start_box : {ls hs : List Float} → crossed M.lower M.upper ≡ false → Rounded M pure ls hs → (Box M) ls hs ls hs
    start_box c r =
        record {
          wl_length = r.lo_length;
          wh_length = r.hi_length;
          el_length = r.lo_length;
          eh_length = r.hi_length;
          boxed = λ v h.
              let n = uncrossed M.lower M.upper v pure.shape.uppers (subst (λ (b : Bool). T (not b)) (sym c) tt) h in
              record {
                interval =
                    record {
                      lo = record { whole = (r.lo v h).whole; small = subst (λ (z : ℤ). A z ≤ 2 ^ 20) (sym (r.lo v h).is) (pure.numbers.lower v h).small };
                      hi = record { whole = (r.hi v h).whole; small = subst (λ (z : ℤ). A z ≤ 2 ^ 20) (sym (r.hi v h).is) (pure.numbers.upper v h).small };
                      wlo = record { whole = (r.lo v h).whole; is = refl };
                      whi = record { whole = (r.hi v h).whole; is = refl };
                      order = omega (arith, of_nlt (pure.numbers.upper v h).whole (pure.numbers.lower v h).whole n, eq_parts (r.lo v h).is, eq_parts (r.hi v h).is);
                    };
                lower = omega (arith, eq_parts (r.lo v h).is);
                upper = omega (arith, eq_parts (r.hi v h).is);
              };
        }

    -- ---- IN EVERY STATE: each move keeps the box
    kept : BoundsKept M (Box M)
    kept = record {
      begins = λ c b. start_box c (subst (RoundedB M pure) b (round_from_lem M pure (length M.lower) 0 (bounds M.lower M.upper) (omega arith) as_given_lem));
      lowers = upper_box;
      raises = lower_box;
      singles = single_box;
      forces = λ minCorner w0 w t p q. fix_box t.var _ w (corner_spot minCorner w0 t p) q;
      fixes = dual_box;
    }

    pub box_reached : {w : Work} → Reaches M w → (BoxW M) w
    box_reached h = bounds_reached kept h
