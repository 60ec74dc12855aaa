-- THE ORDER OF ALL FLOATS, of the format or not: three floats are placed among the integers by one common scale, an infinity past the rest, and tests compare the places.
use Rattle.std.specs.Prelude.{◌≡◌, ℕ, ◌+◌, ◌*◌, ◌<◌, Bool, true, false, not, eqb, ltb, ℤ, pos, neg_ℤ, Float}
use Rattle.std.proofs.Math.Path.{refl, sym, ap}
use Rattle.std.proofs.Common.{◌∙◌, subst, eq-or-lt_of_le, mul_comm, mul_assoc, mul_right_comm, eqb→eq, ltb→lt, lt→ltb, nltb→le}
use Rattle.std.proofs.Math.Logic.{inl, inr}
use Rattle.std.proofs.Math.Nat.{le_of_eq, le_of_lt, not-le_of_lt, zero-lt-suc, mul-pos}
use native.Mathlib.Omega.{arith}
use Rattle.std.proofs.Math.Dec.{T, eqb_refl}
use Rattle.std.specs.Float.{nan, inf, fin}
use Rattle.std.specs.Float.Ieee.{up, down, is_nan, lt, le, eq}
use Rattle.std.specs.Float.Ieee.Bits.{is_true}
use Rattle.std.specs.Float.Ieee.Fits.{eq→eqb, down_pos}
use Rattle.floats.specs.Zed.{P, N, ◌⊑◌, ◌⊏◌, P_neg, N_neg}
use Rattle.floats.specs.Value.{signed, below_is, level_is}
use Rattle.floats.specs.Order.{le_real, or_split, or_l, or_r}
use Rattle.floats.specs.Points.{◌≼◌, ◌≺◌, ◌⊀◌}
use Rattle.floats.specs.Compare.{B, C, Place, Placed, den, far, near_by, num}

pub yes : (a b : ℤ) → a ⊏ b → true ≡ ltb (P a + N b) (P b + N a)
yes a b h = sym (is_true (ltb (P a + N b) (P b + N a)) (lt→ltb (P a + N b) (P b + N a) h))

pub no : (a b : ℤ) → b ⊑ a → false ≡ ltb (P a + N b) (P b + N a)
no a b h = go (ltb (P a + N b) (P b + N a)) (ltb→lt (P a + N b) (P b + N a))
  where
    go : (t : Bool) → (T t → a ⊏ b) → false ≡ t
    go true f = absurd (not-le_of_lt (f tt) h)
    go false f = refl

pub other : (a b : ℤ) → (P a + N b ≡ P b + N a → ⊥) → false ≡ eqb (P a + N b) (P b + N a)
other a b f = go (eqb (P a + N b) (P b + N a)) (eqb→eq (P a + N b) (P b + N a))
  where
    go : (t : Bool) → (T t → P a + N b ≡ P b + N a) → false ≡ t
    go true g = absurd (f (g tt))
    go false g = refl

module _ (C B : ℕ) (c : 0 < C) (b : 0 < B) where
  pub cross : (m : ℕ) (e d : ℤ) (X : ℕ) → m * up e * C ≡ X * down e → m * up e * down d * C ≡ X * (down e * down d)
  cross m e d X h = mul_right_comm (m * up e) (down d) C ∙ ap (λ (x : ℕ). x * down d) h ∙ mul_assoc X (down e) (down d)

  pub high : (s : Bool) (X : ℕ) → X < B → (signed s X ⊏ pos B) × (neg_ℤ (pos B) ⊏ signed s X)
  high false X h = (omega arith, omega (arith, P_neg (pos B), N_neg (pos B)))
  high true X h = (omega (arith, P_neg (pos X), N_neg (pos X)), omega (arith, P_neg (pos X), N_neg (pos X), P_neg (pos B), N_neg (pos B)))

  pub lt_place : (x y : Float) (u v : ℤ) → Place C B x u → Place C B y v → lt x y ≡ ltb (P u + N v) (P v + N u)
  unfolding lt
  lt_place x y u v (far true) (far true) = no (neg_ℤ (pos B)) (neg_ℤ (pos B)) (omega arith)
  lt_place x y u v (far true) (far false) = yes (neg_ℤ (pos B)) (pos B) (omega (arith, P_neg (pos B), N_neg (pos B)))
  lt_place x y u v (far false) (far true) = no (pos B) (neg_ℤ (pos B)) (omega (arith, P_neg (pos B), N_neg (pos B)))
  lt_place x y u v (far false) (far false) = no (pos B) (pos B) (omega arith)
  lt_place x y u v (far true) (near_by s m e X p h) = yes (neg_ℤ (pos B)) (signed s X) (high s X h).1
  lt_place x y u v (far false) (near_by s m e X p h) = no (pos B) (signed s X) (le_of_lt (high s X h).0)
  lt_place x y u v (near_by s m e X p h) (far true) = no (signed s X) (neg_ℤ (pos B)) (le_of_lt (high s X h).1)
  lt_place x y u v (near_by s m e X p h) (far false) = yes (signed s X) (pos B) (high s X h).0
  lt_place x y u v (near_by s m e X p h) (near_by t n d Y q k) =
      below_is s (m * up e * down d) t (n * up d * down e) (down e * down d) X Y C (mul-pos (down_pos e) (down_pos d)) c (cross m e d X p)
      (cross n d e Y q ∙ ap (λ (x : ℕ). Y * x) (mul_comm (down d) (down e)))

  pub eq_place : (x y : Float) (u v : ℤ) → Place C B x u → Place C B y v → eq x y ≡ eqb (P u + N v) (P v + N u)
  unfolding eq
  eq_place x y u v (far true) (far true) = sym (is_true (eqb (P (neg_ℤ (pos B)) + N (neg_ℤ (pos B))) (P (neg_ℤ (pos B)) + N (neg_ℤ (pos B)))) (eqb_refl (P (neg_ℤ (pos B)) + N (neg_ℤ (pos B)))))
  eq_place x y u v (far false) (far false) = sym (is_true (eqb (B + 0) (B + 0)) (eqb_refl (B + 0)))
  eq_place x y u v (far true) (far false) = other (neg_ℤ (pos B)) (pos B) (λ h. omega (arith, P_neg (pos B), N_neg (pos B)))
  eq_place x y u v (far false) (far true) = other (pos B) (neg_ℤ (pos B)) (λ h. omega (arith, P_neg (pos B), N_neg (pos B)))
  eq_place x y u v (far true) (near_by s m e X p h) = other (neg_ℤ (pos B)) (signed s X) (λ k. not-le_of_lt (high s X h).1 (le_of_eq (sym k)))
  eq_place x y u v (far false) (near_by s m e X p h) = other (pos B) (signed s X) (λ k. not-le_of_lt (high s X h).0 (le_of_eq k))
  eq_place x y u v (near_by s m e X p h) (far true) = other (signed s X) (neg_ℤ (pos B)) (λ k. not-le_of_lt (high s X h).1 (le_of_eq k))
  eq_place x y u v (near_by s m e X p h) (far false) = other (signed s X) (pos B) (λ k. not-le_of_lt (high s X h).0 (le_of_eq (sym k)))
  eq_place x y u v (near_by s m e X p h) (near_by t n d Y q k) =
      level_is s (m * up e * down d) t (n * up d * down e) (down e * down d) X Y C (mul-pos (down_pos e) (down_pos d)) c (cross m e d X p)
      (cross n d e Y q ∙ ap (λ (x : ℕ). Y * x) (mul_comm (down d) (down e)))

  pub le_place : (x y : Float) (u v : ℤ) → Place C B x u → Place C B y v → (T (le x y) → u ⊑ v) × (u ⊑ v → T (le x y))
  unfolding le
  le_place x y u v p q = (
    (λ t. elim (or_split (lt x y) (eq x y) t) [
      | inl k ↦ le_of_lt (ltb→lt (P u + N v) (P v + N u) (subst T (lt_place x y u v p q) k))
      | inr k ↦ le_of_eq (eqb→eq (P u + N v) (P v + N u) (subst T (eq_place x y u v p q) k))
    ]),
    (λ h. elim (eq-or-lt_of_le h) [
      | inl k ↦ or_r (lt x y) (eq x y) (subst T (sym (eq_place x y u v p q)) (eq→eqb k))
      | inr k ↦ or_l (lt x y) (eq x y) (subst T (sym (lt_place x y u v p q)) (lt→ltb (P u + N v) (P v + N u) k))
    ]),
  )

pub den_pos : (x : Float) → 0 < den x
unfolding den
den_pos nan = zero-lt-suc 0
den_pos (inf s) = zero-lt-suc 0
den_pos (fin s m e) = down_pos e

pub place : (x : Float) (C B k : ℕ) → is_nan x ≡ false → C ≡ den x * k → num x * k < B → Placed C B x
unfolding den num is_nan
place nan C B k h e l = absurd (subst T h tt)
place (inf s) C B k h e l = record { z = signed s B; at = far s }
place (fin s m d) C B k h e l = record {
  z = signed s (m * up d * k);
  at = near_by s m d (m * up d * k) (ap (λ (n : ℕ). m * up d * n) (e ∙ mul_comm (down d) k) ∙ sym (mul_assoc (m * up d) k (down d))) l;
}

module _ (x y z : Float) (hx : is_nan x ≡ false) (hy : is_nan y ≡ false) (hz : is_nan z ≡ false) where
  pub c0 : 0 < (C x y z hx hy hz)
  unfolding C
  c0 = mul-pos (den_pos x) (mul-pos (den_pos y) (den_pos z))

  pub b0 : 0 < (B x y z hx hy hz)
  unfolding B
  b0 = zero-lt-suc (num x * (den y * den z) + num y * (den x * den z) + num z * (den x * den y))

  pub px : Placed (C x y z hx hy hz) (B x y z hx hy hz) x
  unfolding C B
  px = place x (C x y z hx hy hz) (B x y z hx hy hz) (den y * den z) hx refl (omega arith)

  pub py : Placed (C x y z hx hy hz) (B x y z hx hy hz) y
  unfolding C B
  py = place y (C x y z hx hy hz) (B x y z hx hy hz) (den x * den z) hy (swap (den x) (den y) (den z)) (omega arith)
    where
      swap : (a b c : ℕ) → a * (b * c) ≡ b * (a * c)
      swap a b c = omega arith

  pub pz : Placed (C x y z hx hy hz) (B x y z hx hy hz) z
  unfolding C B
  pz = place z (C x y z hx hy hz) (B x y z hx hy hz) (den x * den y) hz (swap (den x) (den y) (den z)) (omega arith)
    where
      swap : (a b c : ℕ) → a * (b * c) ≡ c * (a * b)
      swap a b c = omega arith

  pub chain : T (le x y) → T (le y z) → T (le x z)
  chain s t =
      let a = (le_place (C x y z hx hy hz) (B x y z hx hy hz) c0 b0 x y px.z py.z px.at py.at).0 s in
      let b = (le_place (C x y z hx hy hz) (B x y z hx hy hz) c0 b0 y z py.z pz.z py.at pz.at).0 t in
      (le_place (C x y z hx hy hz) (B x y z hx hy hz) c0 b0 x z px.z pz.z px.at pz.at).1 (link px.z py.z pz.z a b)
    where
      link : (a b c : ℤ) → a ⊑ b → b ⊑ c → a ⊑ c
      link a b c h k = omega arith

  pub chain_l : T (lt x y) → T (le y z) → T (lt x z)
  chain_l s t =
      let a = ltb→lt (P px.z + N py.z) (P py.z + N px.z) (subst T (lt_place (C x y z hx hy hz) (B x y z hx hy hz) c0 b0 x y px.z py.z px.at py.at) s) in
      let b = (le_place (C x y z hx hy hz) (B x y z hx hy hz) c0 b0 y z py.z pz.z py.at pz.at).0 t in
      subst T (sym (lt_place (C x y z hx hy hz) (B x y z hx hy hz) c0 b0 x z px.z pz.z px.at pz.at)) (lt→ltb (P px.z + N pz.z) (P pz.z + N px.z) (link px.z py.z pz.z a b))
    where
      link : (a b c : ℤ) → a ⊏ b → b ⊑ c → a ⊏ c
      link a b c h k = omega arith

  pub chain_r : T (le x y) → T (lt y z) → T (lt x z)
  chain_r s t =
      let a = (le_place (C x y z hx hy hz) (B x y z hx hy hz) c0 b0 x y px.z py.z px.at py.at).0 s in
      let b = ltb→lt (P py.z + N pz.z) (P pz.z + N py.z) (subst T (lt_place (C x y z hx hy hz) (B x y z hx hy hz) c0 b0 y z py.z pz.z py.at pz.at) t) in
      subst T (sym (lt_place (C x y z hx hy hz) (B x y z hx hy hz) c0 b0 x z px.z pz.z px.at pz.at)) (lt→ltb (P px.z + N pz.z) (P pz.z + N px.z) (link px.z py.z pz.z a b))
    where
      link : (a b c : ℤ) → a ⊑ b → b ⊏ c → a ⊏ c
      link a b c h k = omega arith

  pub self : T (le x x)
  self = (le_place (C x y z hx hy hz) (B x y z hx hy hz) c0 b0 x x px.z px.z px.at px.at).1 (same px.z)
    where
      same : (a : ℤ) → a ⊑ a
      same a = omega arith

  pub turn : T (not (lt x y)) → T (le y x)
  turn t = (le_place (C x y z hx hy hz) (B x y z hx hy hz) c0 b0 y x py.z px.z py.at px.at).1
      (nltb→le (P px.z + N py.z) (P py.z + N px.z) (subst (λ (b : Bool). T (not b)) (lt_place (C x y z hx hy hz) (B x y z hx hy hz) c0 b0 x y px.z py.z px.at py.at) t))

  pub turned : T (le x y) → lt y x ≡ false
  turned t = lt_place (C x y z hx hy hz) (B x y z hx hy hz) c0 b0 y x py.z px.z py.at px.at ∙ sym (no py.z px.z ((le_place (C x y z hx hy hz) (B x y z hx hy hz) c0 b0 x y px.z py.z px.at py.at).0 t))

pub lt_le : (x y : Float) → T (lt x y) → T (le x y)
unfolding le
lt_le x y t = or_l (lt x y) (eq x y) t

pub le_trans : {x y z : Float} → x ≼ y → y ≼ z → x ≼ z
le_trans {x} {y} {z} s t = let a = le_real x y s.le in record { le = chain x y z a.0 a.1 (le_real y z t.le).1 s.le t.le }

pub lt_le_trans : {x y z : Float} → x ≺ y → y ≼ z → x ≺ z
lt_le_trans {x} {y} {z} s t = let a = le_real x y (lt_le x y s.lt) in record { lt = chain_l x y z a.0 a.1 (le_real y z t.le).1 s.lt t.le }

pub le_lt_trans : {x y z : Float} → x ≼ y → y ≺ z → x ≺ z
le_lt_trans {x} {y} {z} s t = let a = le_real x y s.le in record { lt = chain_r x y z a.0 a.1 (le_real y z (lt_le y z t.lt)).1 s.le t.lt }

pub le_left : {x y : Float} → x ≼ y → x ≼ x
le_left {x} {y} s = let a = le_real x y s.le in record { le = self x y y a.0 a.1 a.1 }

pub le_right : {x y : Float} → x ≼ y → y ≼ y
le_right {x} {y} s = let a = le_real x y s.le in record { le = self y x x a.1 a.0 a.0 }

pub not_lt : {x y : Float} → x ≼ x → y ≼ y → x ⊀ y → y ≼ x
not_lt {x} {y} s t h = let a = le_real x x s.le in let b = le_real y y t.le in record { le = turn x y y a.0 b.0 b.0 h.nlt }

-- where x is at or below y, y is not below x
pub le_turns : (x y : Float) → T (le x y) → lt y x ≡ false
le_turns x y t = let a = le_real x y t in turned x y y a.0 a.1 a.1 t

pub lt_turns : (x y : Float) → lt x y ≡ true → lt y x ≡ false
lt_turns x y e = le_turns x y (lt_le x y (subst T (sym e) tt))
