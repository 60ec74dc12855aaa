-- Signed whole numbers, more of floats' `Zed`: sizes of sums and products, and products against the order.
use Rattle.std.specs.Prelude.{ℕ, zero, suc, ◌+◌, ◌*◌, ◌≤◌, ◌<◌, ◌≡◌, refl, ℤ, pos, negsuc, neg_ℤ, ◌+ℤ◌, ◌-ℤ◌, ◌*ℤ◌}
use Rattle.std.proofs.Common.{arith, mul-le-mul, mul-le-mul_left, sym, ap, ◌∙◌, subst}
use Rattle.std.proofs.Math.Nat.{le_of_mul-le-mul_left}
use Rattle.std.proofs.Math.IntN.{zero-*ℤ}
use Rattle.floats.specs.Zed.{P, N, A, side, ext, P_neg, N_neg, add_parts, sub_parts, ◌⊑◌, ◌⊏◌}
use Rattle.floats.specs.Whole.{size_mul}

pub eq_parts : {a b : ℤ} → a ≡ b → P a + N b ≡ P b + N a
eq_parts {a} {b} e = subst (λ (z : ℤ). P a + N z ≡ P z + N a) e (omega arith)

pub size_add : (a b : ℤ) → A (a +ℤ b) ≤ A a + A b
size_add a b = omega (arith, add_parts a b, side a, side b, side (a +ℤ b))

pub size_sub : (a b : ℤ) → A (a -ℤ b) ≤ A a + A b
size_sub a b = omega (arith, sub_parts a b, side a, side b, side (a -ℤ b))

-- between two numbers of a size
pub size_between : (a z b : ℤ) (k : ℕ) → a ⊑ z → z ⊑ b → A a ≤ k → A b ≤ k → A z ≤ k
size_between a z b k h l p q = omega (arith, side z)

-- ---- products
pub size_mul_le : (a b : ℤ) (j k : ℕ) → A a ≤ j → A b ≤ k → A (a *ℤ b) ≤ j * k
size_mul_le a b j k h l = rw size_mul (mul-le-mul h l)

-- a * z for a positive a is by parts
mul_pos_P : (a : ℕ) (z : ℤ) → P (pos a *ℤ z) ≡ a * P z
mul_pos_P a (pos b) = refl
mul_pos_P a (negsuc b) = omega (arith, P_neg (pos (a * suc b)))

mul_pos_N : (a : ℕ) (z : ℤ) → N (pos a *ℤ z) ≡ a * N z
mul_pos_N a (pos b) = omega arith
mul_pos_N a (negsuc b) = N_neg (pos (a * suc b))

mul_neg_P : (a : ℕ) (z : ℤ) → P (negsuc a *ℤ z) ≡ suc a * N z
mul_neg_P a (pos b) = omega (arith, P_neg (pos (suc a * b)))
mul_neg_P a (negsuc b) = refl

mul_neg_N : (a : ℕ) (z : ℤ) → N (negsuc a *ℤ z) ≡ suc a * P z
mul_neg_N a (pos b) = N_neg (pos (suc a * b))
mul_neg_N a (negsuc b) = omega arith

scale : (a p q r s : ℕ) → p + q ≤ r + s → a * p + a * q ≤ a * r + a * s
scale a p q r s h = omega (arith, mul-le-mul_left a h)

pub mul_mono : (a x y : ℤ) → pos 0 ⊑ a → x ⊑ y → a *ℤ x ⊑ a *ℤ y
mul_mono (pos a) x y h k =
    omega (arith, mul_pos_P a x, mul_pos_N a x, mul_pos_P a y, mul_pos_N a y, scale a (P x) (N y) (P y) (N x) k)
mul_mono (negsuc a) x y h k = absurd (no a h)
  where
    no : (a : ℕ) → 0 + suc a ≤ 0 + 0 → ⊥
    no a h = omega arith

pub mul_anti : (a x y : ℤ) → a ⊑ pos 0 → x ⊑ y → a *ℤ y ⊑ a *ℤ x
mul_anti (negsuc a) x y h k =
    omega (arith, mul_neg_P a x, mul_neg_N a x, mul_neg_P a y, mul_neg_N a y, scale (suc a) (P x) (N y) (P y) (N x) k)
mul_anti (pos zero) x y h k = omega (arith, mul_pos_P 0 x, mul_pos_N 0 x, mul_pos_P 0 y, mul_pos_N 0 y)
mul_anti (pos (suc a)) x y h k = absurd (no a h)
  where
    no : (a : ℕ) → suc a + 0 ≤ 0 + 0 → ⊥
    no a h = omega arith

-- a factor other than 0 is taken off
cancel : (a p q r s : ℕ) → 0 < a → a * p + a * q ≤ a * r + a * s → p + q ≤ r + s
cancel a p q r s h l = le_of_mul-le-mul_left (omega arith) h

pub mul_cancel : (a x y : ℤ) → pos 0 ⊏ a → a *ℤ x ⊑ a *ℤ y → x ⊑ y
mul_cancel (pos a) x y h k =
    cancel a (P x) (N y) (P y) (N x) (omega arith) (omega (arith, mul_pos_P a x, mul_pos_N a x, mul_pos_P a y, mul_pos_N a y))
mul_cancel (negsuc a) x y h k = absurd (no a h)
  where
    no : (a : ℕ) → 0 + suc a < 0 + 0 → ⊥
    no a h = omega arith

pub mul_cancel_neg : (a x y : ℤ) → a ⊏ pos 0 → a *ℤ x ⊑ a *ℤ y → y ⊑ x
mul_cancel_neg (negsuc a) x y h k =
    cancel (suc a) (P y) (N x) (P x) (N y) (omega arith) (omega (arith, mul_neg_P a x, mul_neg_N a x, mul_neg_P a y, mul_neg_N a y))
mul_cancel_neg (pos a) x y h k = absurd (no a h)
  where
    no : (a : ℕ) → a + 0 < 0 + 0 → ⊥
    no a h = omega arith

pub mul_neg_left : (a x : ℤ) → neg_ℤ a *ℤ x ≡ neg_ℤ (a *ℤ x)
mul_neg_left (pos zero) x = zero-*ℤ x ∙ ap neg_ℤ (sym (zero-*ℤ x))
mul_neg_left (pos (suc a)) x = ext _ _ (omega (arith, mul_neg_P a x, mul_neg_N a x, mul_pos_P (suc a) x, mul_pos_N (suc a) x, P_neg (pos (suc a) *ℤ x), N_neg (pos (suc a) *ℤ x)))
mul_neg_left (negsuc a) x = ext _ _ (omega (arith, mul_neg_P a x, mul_neg_N a x, mul_pos_P (suc a) x, mul_pos_N (suc a) x, P_neg (negsuc a *ℤ x), N_neg (negsuc a *ℤ x)))
