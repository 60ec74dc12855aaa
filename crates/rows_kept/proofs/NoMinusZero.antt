-- No bound of an integer variable is minus zero once the bounds are rounded: in no state that presolve reaches.
use Prim.Native.Nat.{ℕ, zero, suc, ◌+◌, ◌<◌}
use Rattle.std.specs.Prelude.{◌≡◌, refl, Bool, true, false, ◌||◌, List, [], ◌∷◌, length, set, Float}
use Rattle.std.proofs.Common.{arith, zero-add, add-suc, suc-add, sym, ap, subst}
use Rattle.std.proofs.Math.Nat.{add-zero}
use Rattle.std.proofs.Math.Decide.{ℕ_discrete}
use Rattle.std.specs.Float.{nan, inf, fin}
use Rattle.std.specs.Float.Ieee.{is_nan, lt}
use Rattle.floats.specs.Num.{◌⊕◌, ◌⊖◌, is_finite, plus_zero, floor, ceil, maxf, minf}
use Rattle.tolerances.specs.Tol.{Term, at}
use Rattle.definition.specs.Model.{Model, is_int, Row, Reduced, done}
use Rattle.definition.specs.Work.{Work}
use Rattle.definition.specs.Begin.{rounded_lower, rounded_upper, Bounds, cross, bounds, round_var, round_from}
use Rattle.definition.specs.Bounds.{fix, emit_bounds, upper_int, upper_real, tighten_upper, lower_int, lower_real, tighten_lower}
use Rattle.definition.specs.Singles.{new_lower, new_upper, singleton_int}
use Rattle.definition.specs.Forcing.{corner}
use Rattle.definition.specs.Dual.{dual_var}
use Rattle.definition.specs.Presolve.{presolve}
use Rattle.definition.specs.Choices.{both, taking, true≢false}
use Rattle.rows_kept.specs.Steps.{Each, stopped, went}
use Rattle.rows_kept.specs.Kept.{Marking}
use Rattle.rows_kept.proofs.Boxes.{mark_var_lem, int_moves, real_moves}
use Rattle.rows_kept.specs.States.{BoundsKept, Answered, reduced_to}
use Rattle.rows_kept.proofs.States.{bounds_reached, answer_reached}
use Rattle.rows_kept.specs.NoMinusZero.{minus_zero, Clean, CleanBelow, CleanBounds, CleanState}

-- ---- where a bound comes from
plus_clean : (x : Float) → Clean (plus_zero x)
unfolding minus_zero plus_zero
plus_clean nan = refl
plus_clean (inf s) = refl
plus_clean (fin s zero e) = refl
plus_clean (fin s (suc m) e) = refl

floor_clean : (x : Float) → Clean (floor x)
unfolding floor
floor_clean x = plus_clean _

ceil_clean : (x : Float) → Clean (ceil x)
unfolding ceil
ceil_clean x = plus_clean _

infinite_clean : (x : Float) → is_finite x ≡ false → Clean x
unfolding minus_zero is_finite
infinite_clean nan h = refl
infinite_clean (inf s) h = refl
infinite_clean (fin s m e) h = true≢false refl h

max_clean : (x y : Float) → Clean x → Clean y → Clean (maxf x y)
unfolding maxf
max_clean x y p q = both Clean (is_nan x || lt x y) q p

min_clean : (x y : Float) → Clean x → Clean y → Clean (minf x y)
unfolding minf
min_clean x y p q = both Clean (is_nan x || lt y x) q p

lower_clean : (tol l : Float) → Clean (rounded_lower tol l)
unfolding rounded_lower
lower_clean tol l = taking Clean (is_finite l) (λ t. ceil_clean (l ⊖ tol)) (infinite_clean l)

upper_clean : (tol h : Float) → Clean (rounded_upper tol h)
unfolding rounded_upper
upper_clean tol h = taking Clean (is_finite h) (λ t. floor_clean (h ⊕ tol)) (infinite_clean h)

-- ---- a list, one of its bounds set; past its end there is none
set_clean : (l : List Float) (v : ℕ) (x : Float) (q : ℕ) → (v ≡ q → Clean x) → Clean (at l q) → Clean (at (set l v x) q)
set_clean [] v x q h k = k
set_clean (y ∷ ys) zero x zero h k = h refl
set_clean (y ∷ ys) zero x (suc q) h k = k
set_clean (y ∷ ys) (suc v) x zero h k = k
set_clean (y ∷ ys) (suc v) x (suc q) h k = set_clean ys v x q (λ e. h (ap suc e)) k

own_clean : (l : List Float) (v : ℕ) (x : Float) → Clean x → Clean (at (set l v x) v)
own_clean [] v x h = unfold minus_zero in refl
own_clean (y ∷ ys) zero x h = h
own_clean (y ∷ ys) (suc v) x h = own_clean ys v x h

module _ (M : Model) where
  abbrev IntClean : ℕ → Float → Type 0
  IntClean v x = v < length M.lower → is_int M v ≡ true → Clean x

  clean_set : (l : List Float) (v : ℕ) (x : Float) → IntClean v x → CleanBelow M (length M.lower) l → CleanBelow M (length M.lower) (set l v x)
  clean_set l v x h p q k i =
      set_clean l v x q (λ e. h (subst (λ (j : ℕ). j < length M.lower) (sym e) k) (subst (λ (j : ℕ). is_int M j ≡ true) (sym e) i)) (p q k i)

  -- ---- rounding, variable by variable
  data Round (n : ℕ) : Bounds → Type 0 where
    crosses : Round n cross
    rounds_to : {ls hs : List Float} → CleanBelow M n ls → CleanBelow M n hs → Round n (bounds ls hs)

  next_set : (l : List Float) (v : ℕ) (x : Float) → Clean x → CleanBelow M v l → CleanBelow M (suc v) (set l v x)
  next_set l v x h p q k i = elim (ℕ_discrete q v) [
    | yes e ↦ subst (λ (j : ℕ). Clean (at (set l v x) j)) (sym e) (own_clean l v x h)
    | no d ↦ set_clean l v x q (λ e. h) (p q (omega arith) i)
  ]

  next_real : (l : List Float) (v : ℕ) → is_int M v ≡ false → CleanBelow M v l → CleanBelow M (suc v) l
  next_real l v r p q k i = elim (ℕ_discrete q v) [
    | yes e ↦ true≢false (subst (λ (j : ℕ). is_int M j ≡ true) e i) r
    | no d ↦ p q (omega arith) i
  ]

  var_rounds : (v : ℕ) (b : Bounds) → Round v b → Round (suc v) (round_var M v b)
  unfolding round_var
  var_rounds v cross h = crosses
  var_rounds v (bounds ls hs) (rounds_to p q) =
      let R : Bounds → Type 0 = Round (suc v) in
      taking R (is_int M v)
      (λ i. both R _ crosses (rounds_to (next_set ls v _ (lower_clean M.int_tol (at ls v)) p) (next_set hs v _ (upper_clean M.int_tol (at hs v)) q)))
      (λ i. rounds_to (next_real ls v i p) (next_real hs v i q))

  from_rounds : (n v : ℕ) (b : Bounds) → Round v b → Round (v + n) (round_from M n v b)
  unfolding round_from
  from_rounds zero v b h = rw add-zero h
  from_rounds (suc n) v b h = rw (add-suc, ← suc-add) (from_rounds n (suc v) _ (var_rounds v b h))

  started : {ls hs : List Float} → Round (length M.lower) (bounds ls hs) → CleanBounds M ls hs ls hs
  started (rounds_to p q) = record { working_lower = p; working_upper = q; lower = p; upper = q }

  -- ---- the moves
  marking : Marking (CleanState M)
  marking = record { marks = λ w d c q p. p; counted = λ w a b c p. p }

  fix_clean : (v : ℕ) (x : Float) (w : Work) → IntClean v x → CleanState M w → CleanState M (fix M v x w)
  unfolding fix
  fix_clean v x w h p = mark_var_lem M marking v _ (record {
    working_lower = clean_set w.wlo v x h p.working_lower;
    working_upper = clean_set w.whi v x h p.working_upper;
    lower = clean_set w.elo v x h p.lower;
    upper = clean_set w.ehi v x h p.upper;
  })

  upper_int_clean : (v : ℕ) (x : Float) (w : Work) → Clean x → CleanState M w → Each (CleanState M) (upper_int M v x w)
  unfolding upper_int
  upper_int_clean v x w h p = int_moves M marking v w _ _ _ p (record {
    working_lower = p.working_lower;
    working_upper = clean_set w.whi v _ (λ k i. min_clean (at w.whi v) x (p.working_upper v k i) h) p.working_upper;
    lower = p.lower;
    upper = clean_set w.ehi v x (λ k i. h) p.upper;
  })

  lower_int_clean : (v : ℕ) (x : Float) (w : Work) → Clean x → CleanState M w → Each (CleanState M) (lower_int M v x w)
  unfolding lower_int
  lower_int_clean v x w h p = int_moves M marking v w _ _ _ p (record {
    working_lower = clean_set w.wlo v _ (λ k i. max_clean (at w.wlo v) x (p.working_lower v k i) h) p.working_lower;
    working_upper = p.working_upper;
    lower = clean_set w.elo v x (λ k i. h) p.lower;
    upper = p.upper;
  })

  -- a variable that is no integer variable is none of those
  upper_real_clean : (v : ℕ) (x : Float) (w : Work) → is_int M v ≡ false → CleanState M w → Each (CleanState M) (upper_real M v x w)
  unfolding upper_real
  upper_real_clean v x w r p = real_moves M marking v w _ _ _ _ p
      (record { working_lower = p.working_lower; working_upper = clean_set w.whi v x (λ k i. true≢false i r) p.working_upper; lower = p.lower; upper = p.upper })

  lower_real_clean : (v : ℕ) (x : Float) (w : Work) → is_int M v ≡ false → CleanState M w → Each (CleanState M) (lower_real M v x w)
  unfolding lower_real
  lower_real_clean v x w r p = real_moves M marking v w _ _ _ _ p
      (record { working_lower = clean_set w.wlo v x (λ k i. true≢false i r) p.working_lower; working_upper = p.working_upper; lower = p.lower; upper = p.upper })

  upper_clean_step : (v : ℕ) (q relax : Float) (w : Work) → CleanState M w → Each (CleanState M) (tighten_upper M v q relax w)
  unfolding tighten_upper
  upper_clean_step v q relax w p = both (Each (CleanState M)) _
      (taking (Each (CleanState M)) (is_int M v) (λ i. upper_int_clean v _ w (floor_clean (q ⊕ relax)) p) (λ r. upper_real_clean v _ w r p)) (went p)

  lower_clean_step : (v : ℕ) (q relax : Float) (w : Work) → CleanState M w → Each (CleanState M) (tighten_lower M v q relax w)
  unfolding tighten_lower
  lower_clean_step v q relax w p = both (Each (CleanState M)) _
      (taking (Each (CleanState M)) (is_int M v) (λ i. lower_int_clean v _ w (ceil_clean (q ⊖ relax)) p) (λ r. lower_real_clean v _ w r p)) (went p)

  emit_clean : (v : ℕ) (lo hi : Float) (w : Work) → IntClean v lo → IntClean v hi → CleanState M w → CleanState M (emit_bounds M v lo hi w)
  unfolding emit_bounds
  emit_clean v lo hi w a b p = record {
    working_lower = clean_set w.wlo v _ (λ k i. min_clean (maxf (at w.wlo v) lo) hi (max_clean (at w.wlo v) lo (p.working_lower v k i) (a k i)) (b k i)) p.working_lower;
    working_upper = clean_set w.whi v _ (λ k i. max_clean (minf (at w.whi v) hi) lo (min_clean (at w.whi v) hi (p.working_upper v k i) (b k i)) (a k i)) p.working_upper;
    lower = clean_set w.elo v lo a p.lower;
    upper = clean_set w.ehi v hi b p.upper;
  }

  new_low : (r : ℕ) (row : Row) (v : ℕ) (a blo : Float) (w : Work) → CleanState M w → IntClean v (new_lower M r row a blo (at w.elo v))
  unfolding new_lower
  new_low r row v a blo w p k i = both Clean _ (max_clean (at w.elo v) _ (p.lower v k i) (ceil_clean _)) (p.lower v k i)

  new_high : (r : ℕ) (row : Row) (v : ℕ) (a bhi : Float) (w : Work) → CleanState M w → IntClean v (new_upper M r row a bhi (at w.ehi v))
  unfolding new_upper
  new_high r row v a bhi w p k i = both Clean _ (min_clean (at w.ehi v) _ (p.upper v k i) (floor_clean _)) (p.upper v k i)

  single_clean : (r : ℕ) (row : Row) (v : ℕ) (a blo bhi : Float) (w : Work) → CleanState M w → Each (CleanState M) (singleton_int M r row v a blo bhi w)
  unfolding singleton_int
  single_clean r row v a blo bhi w p =
      both (Each (CleanState M)) _ (stopped w refl p) (went (emit_clean v _ _ w (new_low r row v a blo w p) (new_high r row v a bhi w p) p))

  corner_clean : (minCorner : Bool) (w0 : Work) (t : Term) → CleanState M w0 → IntClean t.var (corner minCorner w0 t)
  unfolding corner
  corner_clean minCorner w0 t p k i = both Clean _ (p.upper t.var k i) (p.lower t.var k i)

  dual_clean : (dec inc : List Bool) (v : ℕ) (w : Work) (changed : Bool) → CleanState M w → CleanState M (dual_var M dec inc v w changed).0
  unfolding dual_var
  dual_clean dec inc v w changed p =
      let Q : Work × Bool → Type 0 = λ x. CleanState M x.0 in
      both Q _ p (both Q _ (fix_clean v _ w (p.working_lower v) p) (both Q _ (fix_clean v _ w (p.working_upper v) p) p))

  -- ---- the start
  rounds_all : Round (length M.lower) (round_from M (length M.lower) 0 (bounds M.lower M.upper))
  rounds_all = subst (λ (n : ℕ). Round n (round_from M (length M.lower) 0 (bounds M.lower M.upper))) (zero-add (length M.lower))
      (from_rounds (length M.lower) 0 (bounds M.lower M.upper) (rounds_to (none M.lower) (none M.upper)))
    where
      none : (l : List Float) → CleanBelow M 0 l
      none l v k i = absurd (omega arith)

  -- ---- IN EVERY STATE
  kept : BoundsKept M (CleanBounds M)
  kept = record {
    begins = λ c b. started (subst (Round (length M.lower)) b rounds_all);
    lowers = upper_clean_step;
    raises = lower_clean_step;
    singles = single_clean;
    forces = λ minCorner w0 w t p q. fix_clean t.var _ w (corner_clean minCorner w0 t p) q;
    fixes = dual_clean;
  }

  -- so in the answer
  pub clean_answer : {R : Reduced} → presolve M ≡ done R → CleanBelow M (length M.lower) R.lower × CleanBelow M (length M.lower) R.upper
  clean_answer e = of_done (subst (Answered M) e (answer_reached M))
    where
      of_done : {R : Reduced} → Answered M (done R) → CleanBelow M (length M.lower) R.lower × CleanBelow M (length M.lower) R.upper
      of_done (reduced_to w o h) = let p = bounds_reached kept h in (p.lower, p.upper)
