-- NO WHOLE NUMBER IS NEARER, and of two that are equally near the lower is taken: `nearest_whole`, of every finite float; a whole number is its own,
-- but for a zero's sign (`nearest_own`).
use Rattle.std.specs.Prelude.{ℕ, zero, suc, ◌+◌, ◌*◌, ◌^◌, ◌≤◌, ◌<◌, ◌≡◌, ◌⊎◌, min, refl, Bool, true, false, not, T, leb, ℤ, pos, ◌+ℤ◌, ◌-ℤ◌, Float}
use Rattle.std.proofs.Common.{arith, sym, ap, subst, ◌∙◌, inl, inr, le_trans, leb→le, pow_pos, zero-lt-suc, lit≤}
use Rattle.std.proofs.Math.Dec.{nleb→lt}
use Rattle.std.specs.Float.{nan, inf, binary64}
use Rattle.std.specs.Float.Ieee.{le, sub}
use Rattle.std.specs.Float.Ieee.Scale.{finite}
use Rattle.floats.specs.Near.{near, Rep, near_le, near_ge, rep_pow}
use Rattle.floats.specs.Sum.{sterbenz}
use Rattle.floats.specs.Zed.{P, N, A, ◌⊑◌, ◌⊏◌, side, ext, add_parts, sub_parts}
use Rattle.floats.specs.Signed.{rz, near_exact, rep_zero, P_rz, N_rz}
use Rattle.floats.specs.Value.{units, Num, TOP, sub_units, sub_finite, sub_num, le_units, units_rep}
use Rattle.floats.specs.Whole.{sc, P_sc, N_sc, sc_inj, Is}
use Rattle.floats.specs.Meaning.{FloorOf, CeilOf}
use Rattle.floats.specs.Num.{choose, ◌⊖◌, plus_zero, floor, ceil}
use Rattle.floats.proofs.Meaning.{floor_value, ceil_value, tight, sc_mono}
use Rattle.floats.specs.Points.{Whole}
use Rattle.floats.proofs.Growth.{floor_fixes, ceil_fixes}
use Rattle.plan.specs.Nearest.{nearest, NearestOf}

-- ---- THE TEST, over naturals: a and b are what is below and above, and they make one
module _ (a b H : ℕ) (sum : a + b ≡ 2 * H) (half : Rep H) where
  up_to_half : (n : ℕ) → n ≤ H → near n 1 ≤ H
  up_to_half n h = near_le n 1 H (zero-lt-suc 0) half (omega arith)

  from_half : (n : ℕ) → H ≤ n → H ≤ near n 1
  from_half n h = near_ge n 1 H (zero-lt-suc 0) half (omega arith)

  -- where one of them is a float
  not_above : Rep a ⊎ Rep b → near a 1 ≤ near b 1 → a ≤ b
  not_above r t = by (leb a H) refl
    where
      past : H < a → a ≤ b
      past l =
          elim r [
            | inl e ↦ absurd (let x = near_exact a e in let y = up_to_half b (omega (arith, sum, l)) in omega (arith, x, y, t, l))
            | inr e ↦ absurd (let x = near_exact b e in let y = from_half a (omega (arith, l)) in omega (arith, x, y, t, l, sum))
          ]

      by : (c : Bool) → leb a H ≡ c → a ≤ b
      by true e = let l = leb→le a H (subst T (sym e) tt) in omega (arith, sum, l)
      by false e = past (nleb→lt a H (subst (λ (c : Bool). T (not c)) (sym e) tt))

  above : near b 1 < near a 1 → b < a
  above t = by (leb a b) refl
    where
      by : (c : Bool) → leb a b ≡ c → b < a
      by true e =
          let l = leb→le a b (subst T (sym e) tt) in
          absurd (let x = up_to_half a (omega (arith, sum, l)) in let y = from_half b (omega (arith, sum, l)) in omega (arith, x, y, t))
      by false e = nleb→lt a b (subst (λ (c : Bool). T (not c)) (sym e) tt)

-- ---- THE TWO ENDS: u is x, f the whole number k below it and c the whole number l above it, both in units of which one has L
-- they are one number, or one apart with u between
data Ends (L : ℕ) (u f c : ℤ) (k l : ℤ) : Type 0 where
  one : u ≡ f → u ≡ c → k ≡ l → Ends L u f c k l
  two : f ⊏ u → c ≡ f +ℤ pos L → l ≡ k +ℤ pos 1 → Ends L u f c k l

module _ (L : ℕ) (u f c k l : ℤ) (p : f ≡ sc L k) (q : c ≡ sc L l) (low : f ⊑ u) (high : u ⊏ f +ℤ pos L) (over : u ⊑ c) (under : c ⊏ u +ℤ pos L) where
  ends : Ends L u f c k l
  ends = by (leb (P u + N f) (P f + N u)) refl
    where
      meet : u ⊑ f → Ends L u f c k l
      meet h =
          let e : u ≡ f = ext u f (omega (arith, h, low)) in
          let down = tight L l k c f q p (omega (arith, add_parts u (pos L), add_parts f (pos L), under, h)) in
          let up = tight L k l f c p q (omega (arith, add_parts c (pos L), low, over, high, add_parts f (pos L))) in
          let s : k ≡ l = ext k l (omega (arith, down, up)) in
          one e (e ∙ p ∙ ap (sc L) s ∙ sym q) s

      part : f ⊏ u → Ends L u f c k l
      part h =
          let next : f +ℤ pos L ≡ sc L (k +ℤ pos 1) = ext (f +ℤ pos L) (sc L (k +ℤ pos 1))
          (omega (arith, add_parts f (pos L), P_sc L (k +ℤ pos 1), N_sc L (k +ℤ pos 1), ap P p, ap N p, P_sc L k, N_sc L k, ap (λ (z : ℕ). z * L) (add_parts k (pos 1)))) in
          let down = tight L l (k +ℤ pos 1) c (f +ℤ pos L) q next (omega (arith, add_parts u (pos L), add_parts f (pos L), add_parts (f +ℤ pos L) (pos L), under, high)) in
          let up = tight L (k +ℤ pos 1) l (f +ℤ pos L) c next q (omega (arith, add_parts f (pos L), add_parts c (pos L), h, over)) in
          let s : l ≡ k +ℤ pos 1 = ext l (k +ℤ pos 1) (omega (arith, down, up)) in
          two h (q ∙ ap (sc L) s ∙ sym next) s

      by : (b : Bool) → leb (P u + N f) (P f + N u) ≡ b → Ends L u f c k l
      by true e = meet (leb→le (P u + N f) (P f + N u) (subst T (sym e) tt))
      by false e = part (nleb→lt (P u + N f) (P f + N u) (subst (λ (b : Bool). T (not b)) (sym e) tt))

-- ---- THE NEARER OF THE TWO is nearest of all
order : (a b : ℤ) → (a ⊑ b) ⊎ (b ⊏ a)
order a b = by (leb (P a + N b) (P b + N a)) refl
  where
    by : (t : Bool) → leb (P a + N b) (P b + N a) ≡ t → (a ⊑ b) ⊎ (b ⊏ a)
    by true e = inl (leb→le (P a + N b) (P b + N a) (subst T (sym e) tt))
    by false e = inr (nleb→lt (P a + N b) (P b + N a) (subst (λ (t : Bool). T (not t)) (sym e) tt))

-- distances, by the order
beyond : (u f s : ℤ) → f ⊑ u → s ⊑ f → A (u -ℤ f) ≤ A (u -ℤ s)
beyond u f s h k = omega (arith, sub_parts u f, sub_parts u s, side (u -ℤ f), side (u -ℤ s))

across : (u f s : ℤ) → f ⊑ u → u ⊑ s → P u + N f + P u + N s ≤ P f + N u + P s + N u → A (u -ℤ f) ≤ A (u -ℤ s)
across u f s h k m = omega (arith, sub_parts u f, sub_parts u s, side (u -ℤ f), side (u -ℤ s))

past : (u c s : ℤ) → u ⊑ c → c ⊑ s → A (u -ℤ c) ≤ A (u -ℤ s)
past u c s h k = omega (arith, sub_parts u c, sub_parts u s, side (u -ℤ c), side (u -ℤ s))

back_across : (u c s : ℤ) → u ⊑ c → s ⊑ u → P s + N u + P c + N u < P u + N s + P u + N c → A (u -ℤ c) < A (u -ℤ s)
back_across u c s h k m = omega (arith, sub_parts u c, sub_parts u s, side (u -ℤ c), side (u -ℤ s))

farther : (u f s : ℤ) → f ⊑ u → s ⊏ f → A (u -ℤ f) < A (u -ℤ s)
farther u f s h k = omega (arith, sub_parts u f, sub_parts u s, side (u -ℤ f), side (u -ℤ s))

-- multiples of L keep the order
sc_less : (L : ℕ) (j k : ℤ) → 0 < L → j ⊏ k → sc L j ⊏ sc L k
sc_less L j k z h = let m = sc_mono L (j +ℤ pos 1) k (omega (arith, add_parts j (pos 1), h)) in
    omega (arith, m, P_sc L (j +ℤ pos 1), N_sc L (j +ℤ pos 1), P_sc L j, N_sc L j, ap (λ (n : ℕ). n * L) (add_parts j (pos 1)), z)

module _ (L : ℕ) (positive : 0 < L) (u f c k l : ℤ) (p : f ≡ sc L k) (q : c ≡ sc L l) (low : f ⊑ u) (over : u ⊑ c) (next : l ≡ k +ℤ pos 1) where
  -- f, where it is not farther
  module _ (half : P u + N f + P u + N c ≤ P f + N u + P c + N u) where
    low_nearest : (j : ℤ) → A (u -ℤ sc L k) ≤ A (u -ℤ sc L j)
    low_nearest j =
        subst (λ (z : ℤ). A (u -ℤ z) ≤ A (u -ℤ sc L j)) p
        (elim (order j k) [
          | inl h ↦ beyond u f (sc L j) low (subst (λ (z : ℤ). sc L j ⊑ z) (sym p) (sc_mono L j k h))
          | inr h ↦ (
              let m : c ⊑ sc L j = subst (λ (z : ℤ). z ⊑ sc L j) (sym q) (sc_mono L l j (omega (arith, add_parts k (pos 1), ap P next, ap N next, h))) in
              across u f (sc L j) low (omega (arith, over, m)) (omega (arith, half, m)))
        ])

    low_lower : (j : ℤ) → A (u -ℤ sc L j) ≡ A (u -ℤ sc L k) → k ⊑ j
    low_lower j e =
        elim (order k j) [
          | inl h ↦ h
          | inr h ↦ absurd (let m = farther u f (sc L j) low (subst (λ (z : ℤ). sc L j ⊏ z) (sym p) (sc_less L j k positive h)) in omega (arith, m, e, ap (λ (z : ℤ). A (u -ℤ z)) p))
        ]

  -- c, where it is nearer
  module _ (half : P f + N u + P c + N u < P u + N f + P u + N c) where
    below_too : (j : ℤ) → j ⊑ k → A (u -ℤ c) < A (u -ℤ sc L j)
    below_too j h =
        let m : sc L j ⊑ f = subst (λ (z : ℤ). sc L j ⊑ z) (sym p) (sc_mono L j k h) in
        back_across u c (sc L j) over (omega (arith, low, m)) (omega (arith, half, m))

    high_nearest : (j : ℤ) → A (u -ℤ sc L l) ≤ A (u -ℤ sc L j)
    high_nearest j =
        subst (λ (z : ℤ). A (u -ℤ z) ≤ A (u -ℤ sc L j)) q
        (elim (order l j) [
          | inl h ↦ past u c (sc L j) over (subst (λ (z : ℤ). z ⊑ sc L j) (sym q) (sc_mono L l j h))
          | inr h ↦ (let m = below_too j (omega (arith, h, add_parts k (pos 1), ap P next, ap N next)) in omega (arith, m))
        ])

    high_lower : (j : ℤ) → A (u -ℤ sc L j) ≡ A (u -ℤ sc L l) → l ⊑ j
    high_lower j e =
        elim (order l j) [
          | inl h ↦ h
          | inr h ↦ absurd (let m = below_too j (omega (arith, h, add_parts k (pos 1), ap P next, ap N next)) in omega (arith, m, e, ap (λ (z : ℤ). A (u -ℤ z)) q))
        ]

-- one that u is
module _ (L : ℕ) (positive : 0 < L) (u k : ℤ) (e : u ≡ sc L k) where
  none_left : A (u -ℤ sc L k) ≡ 0
  none_left = omega (arith, sub_parts u (sc L k), side (u -ℤ sc L k), ap P e, ap N e)

  own_lower : (j : ℤ) → A (u -ℤ sc L j) ≡ A (u -ℤ sc L k) → k ⊑ j
  own_lower j h =
      let s : k ≡ j = sc_inj L k j positive (sym e ∙ ext u (sc L j) (omega (arith, sub_parts u (sc L j), none_left, h))) in
      omega (arith, ap P s, ap N s)

-- ---- WHICH DIFFERENCE IS EXACT: of a number at or above zero the one below, of one at or below zero the one above
module _ (L : ℕ) (u f k : ℤ) (p : f ≡ sc L k) (low : f ⊑ u) (high : u ⊏ f +ℤ pos L) (R : Rep (P u)) (F : Rep (P f)) where
  exact_below : N u ≡ 0 → Rep (P (u -ℤ f))
  exact_below z =
      let up : pos 0 ⊑ k = tight L (pos 0) k (sc L (pos 0)) f refl p (omega (arith, P_sc L (pos 0), N_sc L (pos 0), add_parts f (pos L), high, z)) in
      by (P k) refl (omega (arith, up, side k))
    where
      by : (n : ℕ) → P k ≡ n → N k ≡ 0 → Rep (P (u -ℤ f))
      by zero e m = subst Rep (omega (arith, sub_parts u f, side (u -ℤ f), z, ap P p, ap N p, P_sc L k, N_sc L k, ap (λ (n : ℕ). n * L) e, ap (λ (n : ℕ). n * L) m)) R
      by (suc n) e m =
          sterbenz (P u) (P f) (P (u -ℤ f)) R F
          (omega (arith, sub_parts u f, side (u -ℤ f), low, z, ap N p, N_sc L k, ap (λ (n : ℕ). n * L) m))
          (omega (arith, add_parts f (pos L), high, z, ap P p, ap N p, P_sc L k, N_sc L k, ap (λ (n : ℕ). n * L) e, ap (λ (n : ℕ). n * L) m))

module _ (L : ℕ) (u c l : ℤ) (q : c ≡ sc L l) (over : u ⊑ c) (under : c ⊏ u +ℤ pos L) (R : Rep (N u)) (C : Rep (N c)) where
  exact_above : P u ≡ 0 → Rep (P (c -ℤ u))
  exact_above z =
      let down : l ⊑ pos 0 = tight L l (pos 0) c (sc L (pos 0)) q refl (omega (arith, P_sc L (pos 0), N_sc L (pos 0), add_parts u (pos L), add_parts (sc L (pos 0)) (pos L), under, z)) in
      by (N l) refl (omega (arith, down, side l))
    where
      by : (n : ℕ) → N l ≡ n → P l ≡ 0 → Rep (P (c -ℤ u))
      by zero e m = subst Rep (omega (arith, sub_parts c u, side (c -ℤ u), z, ap P q, ap N q, P_sc L l, N_sc L l, ap (λ (n : ℕ). n * L) e, ap (λ (n : ℕ). n * L) m)) R
      by (suc n) e m =
          sterbenz (N u) (N c) (P (c -ℤ u)) R C
          (omega (arith, sub_parts c u, side (c -ℤ u), over, z, ap P q, P_sc L l, ap (λ (n : ℕ). n * L) m))
          (omega (arith, add_parts u (pos L), under, z, ap P q, ap N q, P_sc L l, N_sc L l, ap (λ (n : ℕ). n * L) e, ap (λ (n : ℕ). n * L) m))

-- ---- THE TEST of two floats, where they are the rounded differences
module _ (x y : Float) (a b : ℤ) (hx : Num x) (hy : Num y) (ex : units x ≡ rz a) (ey : units y ≡ rz b) (na : N a ≡ 0) (nb : N b ≡ 0) where
  none : (z : ℤ) → N z ≡ 0 → N (rz z) ≡ 0
  none z e = N_rz z ∙ ap (λ (n : ℕ). near n 1) e ∙ near_exact 0 rep_zero

  le_near : le x y ≡ leb (near (P a) 1) (near (P b) 1)
  le_near =
      le_units x y hx hy ∙ ap (λ (n : ℕ). leb n (P (units y) + N (units x))) (omega (arith, ap P ex, P_rz a, ap N ey, none b nb))
      ∙ ap (leb (near (P a) 1)) (omega (arith, ap P ey, P_rz b, ap N ex, none a na))

-- the two differences, where the ends are one apart
apart : (L : ℕ) (u f c : ℤ) → f ⊑ u → u ⊑ c → c ≡ f +ℤ pos L → P (u -ℤ f) + P (c -ℤ u) ≡ L
apart L u f c h k e = omega (arith, sub_parts u f, side (u -ℤ f), sub_parts c u, side (c -ℤ u), add_parts f (pos L), ap P e, ap N e)

low_half : (u f c : ℤ) → f ⊑ u → u ⊑ c → P (u -ℤ f) ≤ P (c -ℤ u) → P u + N f + P u + N c ≤ P f + N u + P c + N u
low_half u f c h k m = omega (arith, sub_parts u f, side (u -ℤ f), sub_parts c u, side (c -ℤ u))

high_half : (u f c : ℤ) → f ⊑ u → u ⊑ c → P (c -ℤ u) < P (u -ℤ f) → P f + N u + P c + N u < P u + N f + P u + N c
high_half u f c h k m = omega (arith, sub_parts u f, side (u -ℤ f), sub_parts c u, side (c -ℤ u))

twice : 2 ^ 1074 ≡ 2 * 2 ^ 1073
twice = refl

module _ (x : Float) (h : Num x) where
  abbrev L : ℕ
  L = 2 ^ 1074

  abbrev f : Float
  f = floor x

  abbrev c : Float
  c = ceil x

  F : FloorOf x f
  F = floor_value x h

  C : CeilOf x c
  C = ceil_value x h

  small : (z : ℤ) → P z + N z ≤ L → A z ≤ TOP
  small z k = le_trans k (lit≤ tt)

  abbrev below : ℤ
  below = units x -ℤ units f

  abbrev over : ℤ
  over = units c -ℤ units x

  -- u, v, w: the units of x and of its two ends
  sizes : (L : ℕ) (u v w : ℤ) → v ⊑ u → u ⊏ v +ℤ pos L → u ⊑ w → w ⊏ u +ℤ pos L → (A (u -ℤ v) ≤ L) × (A (w -ℤ u) ≤ L) × (N (u -ℤ v) ≡ 0) × (N (w -ℤ u) ≡ 0)
  sizes L u v w a b c d = (
    omega (arith, sub_parts u v, side (u -ℤ v), add_parts v (pos L), a, b),
    omega (arith, sub_parts w u, side (w -ℤ u), add_parts u (pos L), c, d),
    omega (arith, sub_parts u v, side (u -ℤ v), a),
    omega (arith, sub_parts w u, side (w -ℤ u), c),
  )

  bounds : (A below ≤ L) × (A over ≤ L) × (N below ≡ 0) × (N over ≡ 0)
  bounds = sizes L (units x) (units f) (units c) F.low F.high C.high C.low

  finite_below : T (finite (sub binary64 x f))
  finite_below = sub_finite x f h F.is.num (small below bounds.0)

  finite_over : T (finite (sub binary64 c x))
  finite_over = sub_finite c x C.is.num h (small over bounds.1)

  test_is : le (x ⊖ f) (c ⊖ x) ≡ leb (near (P below) 1) (near (P over) 1)
  test_is =
      le_near (x ⊖ f) (c ⊖ x) below over (sub_num x f finite_below) (sub_num c x finite_over) (sub_units x f h F.is.num finite_below)
      (sub_units c x C.is.num h finite_over) bounds.2 bounds.3

  one_exact : Rep (P below) ⊎ Rep (P over)
  one_exact = by (P (units x)) (N (units x)) refl refl (side (units x))
    where
      by : (m n : ℕ) → P (units x) ≡ m → N (units x) ≡ n → min (P (units x)) (N (units x)) ≡ 0 → Rep (P below) ⊎ Rep (P over)
      by zero n e g s = inr (exact_above L (units x) (units c) C.k C.is.val C.high C.low (units_rep x h).n (units_rep c C.is.num).n e)
      by (suc m) n e g s = inl (exact_below L (units x) (units f) F.k F.is.val F.low F.high (units_rep x h).p (units_rep f F.is.num).p (omega (arith, e, s)))

  -- THE LAW
  pub nearest_whole : NearestOf x (nearest x)
  unfolding nearest
  nearest_whole = by (ends L (units x) (units f) (units c) F.k C.k F.is.val C.is.val F.low F.high C.high C.low)
    where
      first : (b : Bool) → le (x ⊖ f) (c ⊖ x) ≡ b → NearestOf x f → NearestOf x c → NearestOf x (choose b f c)
      first true e a b = unfold choose in a
      first false e a b = unfold choose in b

      -- both ends are x
      same : (r : Float) (k : ℤ) → Is r k → units x ≡ units r → NearestOf x r
      same r k i e =
          let v : units x ≡ sc L k = e ∙ i.val in
          record {
            k = k;
            is = i;
            none_nearer = λ j. omega (arith, none_left L (pow_pos 1074) (units x) k v);
            lower_of_two = own_lower L (pow_pos 1074) (units x) k v;
          }

      by : Ends L (units x) (units f) (units c) F.k C.k → NearestOf x (choose (le (x ⊖ f) (c ⊖ x)) f c)
      by (one a b e) = first (le (x ⊖ f) (c ⊖ x)) refl (same f F.k F.is a) (same c C.k C.is b)
      by (two a b e) = decide (le (x ⊖ f) (c ⊖ x)) refl
        where
          total : P below + P over ≡ 2 * 2 ^ 1073
          total = apart L (units x) (units f) (units c) F.low C.high b ∙ twice

          decide : (t : Bool) → le (x ⊖ f) (c ⊖ x) ≡ t → NearestOf x (choose t f c)
          decide true t =
              let m = not_above (P below) (P over) (2 ^ 1073) total (rep_pow 1073) one_exact (leb→le _ _ (subst T (sym (sym test_is ∙ t)) tt)) in
              let g = low_half (units x) (units f) (units c) F.low C.high m in
              unfold choose in
              record {
                k = F.k;
                is = F.is;
                none_nearer = low_nearest L (pow_pos 1074) (units x) (units f) (units c) F.k C.k F.is.val C.is.val F.low C.high e g;
                lower_of_two = low_lower L (pow_pos 1074) (units x) (units f) (units c) F.k C.k F.is.val C.is.val F.low C.high e g;
              }
          decide false t =
              let m = above (P below) (P over) (2 ^ 1073) total (rep_pow 1073) (nleb→lt _ _ (subst (λ (b : Bool). T (not b)) (sym (sym test_is ∙ t)) tt)) in
              let g = high_half (units x) (units f) (units c) F.low C.high m in
              unfold choose in
              record {
                k = C.k;
                is = C.is;
                none_nearer = high_nearest L (pow_pos 1074) (units x) (units f) (units c) F.k C.k F.is.val C.is.val F.low C.high e g;
                lower_of_two = high_lower L (pow_pos 1074) (units x) (units f) (units c) F.k C.k F.is.val C.is.val F.low C.high e g;
              }

-- what is not finite stays
pub nearest_nan : nearest nan ≡ nan
unfolding nearest floor ceil plus_zero le sub choose
nearest_nan = refl

pub nearest_inf : (s : Bool) → nearest (inf s) ≡ inf s
unfolding nearest floor ceil plus_zero le sub choose
nearest_inf true = refl
nearest_inf false = refl

-- ---- a whole number is its own nearest, but for a zero's sign
pub nearest_own : {x : Float} → Whole x → nearest x ≡ plus_zero x
unfolding nearest
nearest_own {x} w = both (le (x ⊖ floor x) (ceil x ⊖ x))
  where
    both : (b : Bool) → choose b (floor x) (ceil x) ≡ plus_zero x
    both true = unfold choose in (floor_fixes w)
    both false = unfold choose in (ceil_fixes w)
